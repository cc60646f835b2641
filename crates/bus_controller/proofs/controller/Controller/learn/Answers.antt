use Rattle.std.proofs.Common.{arith}
use Rattle.bus_line.specs.declared.cutter.TheConstants.{LAG}
use Rattle.bus_model.specs.Course.{course}
use Rattle.bus_controller.specs.ControllerStands.{ControllerKeeps}
use Rattle.bus_controller.proofs.Wholes.{course-more, later-more}
use Rattle.bus_controller.proofs.StateLaws.{state-hears}
use Rattle.bus_controller.proofs.controller.Controller.learn.Goals as goal

pub returns-clause-event : goal.returns-clause-event
unfolding ControllerKeeps
returns-clause-event c = λ station starts takes past st is.
    let law = state-hears LAG (omega arith) (course LAG station starts takes past) c.args.moment.now.shown past c.args.self.now.state st.state in
    rw (course-more LAG station starts takes c.args.moment.now.shown past st.so_far) (rw (c.step.ensures.event, is) law.1)

pub returns-clause-stands : goal.returns-clause-stands
unfolding ControllerKeeps
returns-clause-stands c = λ station starts takes past st is.
    let law = state-hears LAG (omega arith) (course LAG station starts takes past) c.args.moment.now.shown past c.args.self.now.state st.state in
    record {
      state = rw (course-more LAG station starts takes c.args.moment.now.shown past st.so_far) (rw (c.step.ensures.state, is) law.0);
      so_far = later-more takes _ st.so_far;
    }
