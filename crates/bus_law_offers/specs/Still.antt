-- Quiet ticks in which nothing changes of a station.
use Rattle.std.specs.Prelude.{◌≡◌, ℕ, suc, ◌<◌, ◌≤◌, List, ◌++◌, None}
use Rattle.bus_base.specs.Samples.{quiet_pairs}
use Rattle.bus_base.specs.declared.samples.Drive.TheVariants.{Silent}
use Rattle.bus_base.specs.declared.samples.Pair.{Pair}
use Rattle.bus_formats.specs.Plans.{StationData}
use Rattle.bus_model.specs.Control.{drives_next}
use Rattle.bus_model.specs.Starts.{starts}
use Rattle.bus_model.specs.Terminal.{took_now}
use Rattle.bus_law_phases.specs.Scenarios.{Scenario, course_of, hearing_of, standing_of, IsPresentAt}

-- over the next n quiet ticks a station sends nothing, its controller stays as it is, and its terminal takes no block and keeps what it kept
pub record IsStill (w : Scenario) (past : List Pair) (n : ℕ) (station : StationData) : Type 0 where
  pub silent : (m : ℕ) → m < n → drives_next w.lag station (starts w.plan station) w.loads w.outside (quiet_pairs m ++ past) ≡ Silent
  pub same : (m : ℕ) → m ≤ n → course_of w station (quiet_pairs m ++ past) ≡ course_of w station past
  pub takes : (m : ℕ) → m < n → took_now w.lag station.terminal w.loads (hearing_of w station (quiet_pairs (suc m) ++ past)) ≡ None
  pub keeps : (m : ℕ) → m ≤ n → (standing_of w station (quiet_pairs m ++ past)).memory ≡ (standing_of w station past).memory

-- so it is with every station that is present
abbrev pub AllStill : Scenario → List Pair → ℕ → Type 0
AllStill w past n = (place : ℕ) (station : StationData) → IsPresentAt w place station → IsStill w past n station
