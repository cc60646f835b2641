use Rattle.std.proofs.Common.{◌∙◌}
use Rattle.bus_line.specs.declared.cutter.TheConstants.{LAG}
use Rattle.bus_model.specs.Course.{course}
use Rattle.bus_controller.specs.ControllerStands.{ControllerKeeps}
use Rattle.bus_controller.proofs.Wholes.{state-drives}
use Rattle.bus_controller.proofs.controller.Controller.drive.Goals as goal

pub returns : goal.returns
unfolding ControllerKeeps
returns c = λ station starts takes past st. c.drive.ensures.state ∙ state-drives LAG (course LAG station starts takes past) past c.args.self.now.state st.state
