use Rattle.std.proofs.Common.{◌∙◌}
use Rattle.bus_line.specs.declared.cutter.TheConstants.{LAG}
use Rattle.bus_model.specs.Course.{course}
use Rattle.bus_controller.specs.ControllerStands.{ControllerKeeps}
use Rattle.bus_controller.proofs.Wholes.{state-serves}
use Rattle.bus_controller.proofs.controller.Controller.is_yielded.Goals as goal

pub returns-clause-holds : goal.returns-clause-holds
unfolding ControllerKeeps
returns-clause-holds c = λ station starts takes past st. c.serves.ensures.state ∙ state-serves LAG (course LAG station starts takes past) past c.args.self.now.state st.state
