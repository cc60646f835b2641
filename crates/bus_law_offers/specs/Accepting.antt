-- A station that took control by the status with which it accepted it (dynamic bus control, MIL-STD-1553B 4.3.3.5.1.7.1).
use Rattle.std.specs.Prelude.{◌≡◌, ℕ, ◌+◌, List, length}
use Rattle.bus_base.specs.declared.samples.Pair.{Pair}
use Rattle.bus_formats.specs.Plans.{StationData}
use Rattle.bus_formats.specs.Times.{taking_over}
use Rattle.bus_model.specs.Control.{unheard_ticks}
use Rattle.bus_model.specs.Course.{take_control}
use Rattle.bus_model.specs.Memory.{with_loads}
use Rattle.bus_law_phases.specs.Scenarios.{Scenario, course_of, hearing_of, standing_of}

-- with the newest of the ticks it took control, since the answer in which it accepted it ended in tick x: its terminal keeps what it kept before, and
-- has heard nothing
pub record TookControl (w : Scenario) (past later : List Pair) (station : StationData) (x : ℕ) : Type 0 where
  pub course : course_of w station later ≡ take_control (x + taking_over) (course_of w station past)
  pub hears : hearing_of w station later ≡ record {
    memory = with_loads station.terminal.address (length later) w.loads (standing_of w station past).memory;
    ticks = unheard_ticks later;
  }
