-- What a controller keeps: apart from its receiver, and while it has no control.
use Rattle.std.proofs.Common.{◌≡◌, ℕ, Bool, false, List, ◌∷◌, ◌++◌, sym, ap, subst, ◌∙◌, arith}
use Rattle.bus_base.specs.declared.samples.Pair.{Pair}
use Rattle.bus_line.specs.declared.cutter.TheConstants.{LAG}
use Rattle.bus_formats.specs.Plans.{StationData}
use Rattle.bus_model.specs.Course.{Take, course}
use Rattle.bus_receiver.specs.Moments.{moment_of}
use Rattle.bus_receiver.specs.declared.receiver.Moment.{Moment}
use Rattle.bus_controller.specs.Stands.{StateStands, told}
use Rattle.bus_controller.specs.ControllerStands.{ControllerKeeps}
use Rattle.bus_controller.specs.declared.controller.Controller.{Controller}
use Rattle.bus_controller.specs.declared.states.ControllerState.{ControllerState}
use Rattle.bus_controller.specs.declared.states.ControllerEvent.{ControllerEvent}
use Rattle.bus_controller.proofs.Wholes.{course-more, later-more}
use Rattle.bus_controller.proofs.StateLaws.{serving-stays}

-- it doesn't depend on its receiver
pub keeps-alike : (k : ℕ) (station : StationData) (starts : Bool) (takes : List Take) (past : List Pair) (old new : Controller) → new.state ≡ old.state →
    ControllerKeeps k station starts takes old past → ControllerKeeps k station starts takes new past
unfolding ControllerKeeps
keeps-alike k station starts takes past old new same st = record {
  state = subst (λ (state : ControllerState). StateStands k (course k station starts takes past) past state) (sym same) st.state;
  so_far = st.so_far;
}

-- without control it stays as it is
pub serving-keeps : (station : StationData) (starts : Bool) (takes : List Take) (value : Controller) (shown : Pair) (past : List Pair) →
    ControllerKeeps LAG station starts takes value past → (course LAG station starts takes past).holds ≡ false →
    ControllerKeeps LAG station starts takes value (shown ∷ past)
unfolding ControllerKeeps
serving-keeps station starts takes value shown past st off = record {
  state = rw (course-more LAG station starts takes shown past st.so_far)
      (serving-stays LAG (omega arith) (course LAG station starts takes past) shown past value.state st.state off);
  so_far = later-more takes _ st.so_far;
}

-- what is told of a tick, where a moment has what was shown in it
pub shown-is : (k : ℕ) (station : StationData) (starts : Bool) (takes : List Take) (past : List Pair) (moment : Moment) (shown : Pair) (event : ControllerEvent) →
    moment ≡ moment_of k shown past →
    (course k station starts takes (moment.shown ∷ past)).ended ≡ told event ++ (course k station starts takes past).ended →
    (course k station starts takes (shown ∷ past)).ended ≡ told event ++ (course k station starts takes past).ended
shown-is k station starts takes past moment shown event is e =
    ap (λ (x : Pair). (course k station starts takes (x ∷ past)).ended) (sym (ap (λ (m : Moment). m.shown) is)) ∙ e
