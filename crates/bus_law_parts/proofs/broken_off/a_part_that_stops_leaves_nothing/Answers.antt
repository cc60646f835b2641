use Rattle.bus_law_parts.proofs.Stops.{spent-stopped, spent-beside, quiet-ended, undriven-ended, spent-ended}
use Rattle.bus_law_parts.proofs.broken_off.a_part_that_stops_leaves_nothing.Goals as goal

pub returns : goal.returns
returns c = record { words = spent-stopped; beside = spent-beside; shown = quiet-ended; alone = undriven-ended; spent = spent-ended }
