-- For which histories a controller stands.
use Rattle.std.specs.Prelude.{ℕ, ◌≤◌, Bool, List, [], ◌∷◌, length, ⊤}
use Rattle.bus_base.specs.declared.samples.Pair.{Pair}
use Rattle.bus_formats.specs.Plans.{StationData}
use Rattle.bus_model.specs.Course.{Take, course}
use Rattle.bus_receiver.specs.Moments.{ReceiverStands}
use Rattle.bus_controller.specs.Stands.{StateStands}
use Rattle.bus_controller.specs.declared.controller.Controller.{Controller}

-- no control is taken later than now
abbrev pub NoneLater : ℕ → List Take → Type 0
NoneLater now [] = ⊤
NoneLater now (take ∷ takes) = (take.heard ≤ now) × NoneLater now takes

-- what a controller keeps of a past
pub record Keeps (k : ℕ) (station : StationData) (starts : Bool) (takes : List Take) (value : Controller) (past : List Pair) : Type 0 where
  pub state : StateStands k (course k station starts takes past) past value.state
  pub so_far : NoneLater (length past) takes

-- the controller keeps what the channels' past leaves, with the takes so far: this is how its state may be after them
unfoldable pub ControllerKeeps : ℕ → StationData → Bool → List Take → Controller → List Pair → Type 0
ControllerKeeps k station starts takes value past = Keeps k station starts takes value past

-- the controller stands for what the channels showed, with the takes so far: it keeps what that leaves, and its receiver stands for it
unfoldable pub ControllerStands : ℕ → StationData → Bool → List Take → Controller → List Pair → Type 0
ControllerStands k station starts takes value past = ReceiverStands k value.receiver past × ControllerKeeps k station starts takes value past
