-- For which histories a station stands.
use Rattle.std.specs.Prelude.{◌≡◌, ℕ, ◌<◌, Bool, List, [], ◌∷◌, length, Option, None, if◌then◌else◌, ⊤}
use Rattle.bus_base.specs.declared.samples.Pair.{Pair}
use Rattle.bus_receiver.specs.Moments.{ReceiverStands}
use Rattle.bus_formats.specs.Plans.{StationData}
use Rattle.bus_model.specs.Memory.{TimedLoad}
use Rattle.bus_model.specs.Course.{Course, course}
use Rattle.bus_model.specs.Control.{OutsideTake, StationSoFar, so_far, taking_from}
use Rattle.bus_terminal.specs.Stands.{AreMade}
use Rattle.bus_terminal.specs.TerminalStands.{TerminalKeeps, TerminalHears}
use Rattle.bus_controller.specs.ControllerStands.{ControllerKeeps}
use Rattle.bus_station.specs.Roles.{tick_of}
use Rattle.bus_station.specs.Noticed.{noticed, is_event, KeepsNewest}
use Rattle.bus_station.specs.Told.{attempts_told, delivery_told, ended_newest, delivered_newest}
use Rattle.bus_station.specs.declared.event.StationEvent.{StationEvent}
use Rattle.bus_station.specs.declared.station.Station.{Station}

-- the takes of the station were made: each in a tick that was heard
abbrev pub AreTaken : ℕ → ℕ → List OutsideTake → Type 0
AreTaken address now [] = ⊤
AreTaken address now (take ∷ takes) = (take.address ≡ address → take.tick < now) × AreTaken address now takes

-- the tick of the first command while control is being taken, before this tick
abbrev pub taking_of : ℕ → Course → Option ℕ
taking_of tick c = if c.holds then taking_from tick c.opening else None

pub record Stands (k : ℕ) (station : StationData) (starts : Bool) (loads : List TimedLoad) (outside : List OutsideTake) (value : Station)
    (past : List Pair) (s : StationSoFar) : Type 0 where
  pub address : value.address ≡ station.terminal.address
  pub controller : ControllerKeeps k station starts s.takes value.controller past
  pub terminal : TerminalKeeps k station.terminal loads value.terminal s.hearing
  pub taking : value.taking ≡ tick_of (taking_of (length past) (course k station starts s.takes past))
  pub made : AreMade station.terminal.address (length past) loads
  pub taken : AreTaken station.terminal.address (length past) outside

-- the station keeps what the channels' past leaves, with the loads and the takes that were made so far
unfoldable pub StationKeeps : ℕ → StationData → Bool → List TimedLoad → List OutsideTake → Station → List Pair → Type 0
StationKeeps k station starts loads outside value past = Stands k station starts loads outside value past (so_far k station starts loads outside past)

-- its own receiver stands for the past, and the cutters of its terminal for what that heard
pub record HearsItself (k : ℕ) (value : Station) (past : List Pair) (s : StationSoFar) : Type 0 where
  pub receiver : ReceiverStands k value.controller.receiver past
  pub cutters : TerminalHears k value.terminal s.hearing.ticks

-- the station stands for what the channels showed, with the loads and the takes that were made so far: it keeps what that leaves, and hears by itself
unfoldable pub StationStands : ℕ → StationData → Bool → List TimedLoad → List OutsideTake → Station → List Pair → Type 0
StationStands k station starts loads outside value past =
    StationKeeps k station starts loads outside value past × HearsItself k value past (so_far k station starts loads outside past)

-- a station after one tick more, and what it told of that tick
pub record AfterTick (k : ℕ) (station : StationData) (starts : Bool) (loads : List TimedLoad) (outside : List OutsideTake) (value : Station)
    (event : StationEvent) (shown : Pair) (past : List Pair) : Type 0 where
  pub stands : StationKeeps k station starts loads outside value (shown ∷ past)
  pub ended : attempts_told event ≡ ended_newest k station starts loads outside (shown ∷ past)
  pub took : delivery_told event ≡ delivered_newest k station starts loads outside (shown ∷ past)

-- a station after one tick more, and its answer whether it noticed something: that it keeps, and nothing of an earlier tick
pub record AfterNotice (k : ℕ) (station : StationData) (starts : Bool) (loads : List TimedLoad) (outside : List OutsideTake) (value : Station)
    (answer : Bool) (shown : Pair) (past : List Pair) : Type 0 where
  pub stands : StationKeeps k station starts loads outside value (shown ∷ past)
  pub ended : attempts_told (noticed answer value.event) ≡ ended_newest k station starts loads outside (shown ∷ past)
  pub took : delivery_told (noticed answer value.event) ≡ delivered_newest k station starts loads outside (shown ∷ past)
  pub keeps : KeepsNewest k station starts loads outside value (shown ∷ past)
  pub some : answer ≡ is_event value.event
