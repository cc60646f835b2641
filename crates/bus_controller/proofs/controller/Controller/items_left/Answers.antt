use Rattle.std.proofs.Common.{length, ap, ◌∙◌}
use Rattle.bus_line.specs.declared.cutter.TheConstants.{LAG}
use Rattle.bus_model.specs.Course.{course}
use Rattle.bus_controller.specs.ControllerStands.{ControllerKeeps}
use Rattle.bus_controller.proofs.Wholes.{state-left}
use Rattle.bus_controller.proofs.controller.Controller.items_left.Goals as goal

pub returns : goal.returns
unfolding ControllerKeeps
returns c = λ station starts takes past st.
    c.items_left.ensures.state ∙ ap length (state-left LAG (course LAG station starts takes past) past c.args.self.now.state st.state)
