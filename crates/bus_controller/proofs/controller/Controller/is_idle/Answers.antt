use Rattle.std.proofs.Common.{ℕ, ◌==◌, ap, ◌∙◌}
use Rattle.bus_line.specs.declared.cutter.TheConstants.{LAG}
use Rattle.bus_model.specs.Course.{course}
use Rattle.bus_controller.specs.ControllerStands.{ControllerKeeps}
use Rattle.bus_controller.proofs.Wholes.{state-idle}
use Rattle.bus_controller.proofs.controller.Controller.is_idle.Goals as goal

pub returns : goal.returns
unfolding ControllerKeeps
returns c = λ station starts takes past st.
    ap (λ (n : ℕ). n == 0) (c.items_left.ensures station starts takes past st) ∙ state-idle LAG (course LAG station starts takes past) past c.args.self.now.state st.state
