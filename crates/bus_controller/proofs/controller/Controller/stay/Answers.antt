use Rattle.std.proofs.Common.{◌≡◌, ◌∷◌, ◌++◌, sym, ap, ◌∙◌, arith}
use Rattle.bus_line.specs.declared.cutter.TheConstants.{LAG}
use Rattle.bus_model.specs.Course.{course}
use Rattle.bus_receiver.specs.Moments.{moment_of}
use Rattle.bus_controller.specs.ControllerStands.{ControllerKeeps}
use Rattle.bus_controller.specs.Stands.{told}
use Rattle.bus_controller.specs.Steps.{next_of_state, going}
use Rattle.bus_controller.specs.declared.states.ControllerNext.{ControllerNext}
use Rattle.bus_controller.proofs.Wholes.{course-more, later-more}
use Rattle.bus_controller.proofs.StateLaws.{state-hears}
use Rattle.bus_controller.proofs.controller.Controller.stay.Goals as goal

pub returns-clause-event : goal.returns-clause-event
unfolding ControllerKeeps
returns-clause-event c = λ station starts takes past st is yes.
    let law = state-hears LAG (omega arith) (course LAG station starts takes past) c.args.moment.now.shown past c.args.self.now.state st.state in
    let same : next_of_state LAG c.args.self.now.state (moment_of LAG c.args.moment.now.shown past) ≡ going c.stays.new.self.state =
    ap (next_of_state LAG c.args.self.now.state) (sym is) ∙ c.stays.ensures.stays yes in
    rw (course-more LAG station starts takes c.args.moment.now.shown past st.so_far)
    (law.1 ∙ ap (λ (next : ControllerNext). told next.event ++ (course LAG station starts takes past).ended) same)

pub returns-clause-stands : goal.returns-clause-stands
unfolding ControllerKeeps
returns-clause-stands c = λ station starts takes past st is yes.
    let law = state-hears LAG (omega arith) (course LAG station starts takes past) c.args.moment.now.shown past c.args.self.now.state st.state in
    let same : next_of_state LAG c.args.self.now.state (moment_of LAG c.args.moment.now.shown past) ≡ going c.stays.new.self.state =
    ap (next_of_state LAG c.args.self.now.state) (sym is) ∙ c.stays.ensures.stays yes in
    record {
      state = rw (course-more LAG station starts takes c.args.moment.now.shown past st.so_far, sym (ap (λ (next : ControllerNext). next.state) same)) law.0;
      so_far = later-more takes _ st.so_far;
    }
