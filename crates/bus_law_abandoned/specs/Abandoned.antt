-- A message whose answer the message table abandons (superseding valid commands, MIL-STD-1553B 4.4.3.2; that a controller abandons answers is the project's
-- own).
use Rattle.std.specs.Prelude.{◌≡◌, ℕ, List, Some}
use Rattle.bus_formats.specs.Plans.{StationData}
use Rattle.bus_model.specs.Endings.{abandoned_at}
use Rattle.bus_model.specs.Message.{Present}
use Rattle.bus_model.specs.Starts.{Entry}
use Rattle.bus_model.specs.Strikes.{burst_end, ShownAnswer}
use Rattle.bus_law_phases.specs.Commands.{command_at}
use Rattle.bus_law_phases.specs.Scenarios.{Scenario}
use Rattle.bus_law_told.specs.Told.{answer_shown}

module _ (w : Scenario) (t : ℕ) (holder : StationData) (stations : List Present) (entry : Entry) where
  -- this first answer is shown to the message that begins in tick t, and it is abandoned in this tick: the last of as many after the end of the command as
  -- the item names
  pub record IsAbandoned (first : ShownAnswer) (tick : ℕ) : Type 0 where
    pub shown : answer_shown w t holder stations entry ≡ Some first
    pub abandoned : abandoned_at w.lag entry.item.kind entry.item.abandon (burst_end (command_at w t t holder entry)) first ≡ Some tick
