use Rattle.bus_law_parts.proofs.PartBursts.{leg-part, endless-part, ended-part, end-part, rests-part, row-tail}
use Rattle.bus_law_parts.proofs.bursts.a_part_is_a_burst.Goals as goal

pub returns : goal.returns
returns c = record { leg = leg-part; endless = endless-part; ended = ended-part; end = end-part; rests = rests-part; quiet = row-tail }
