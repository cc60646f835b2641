use Rattle.bus_law_control.proofs.Starting.{taken-waits, taken-begins}
use Rattle.bus_law_control.proofs.waiting.a_station_that_took_control_starts_in_its_tick.Goals as goal

pub returns : goal.returns
returns _ = record { later = taken-waits; begins = taken-begins }
