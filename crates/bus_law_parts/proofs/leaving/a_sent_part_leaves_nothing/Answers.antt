use Rattle.bus_law_parts.proofs.SentParts.{others-spent}
use Rattle.bus_law_parts.proofs.Leavings.{spent-part, fresh-part}
use Rattle.bus_law_parts.proofs.leaving.a_sent_part_leaves_nothing.Goals as goal

pub returns : goal.returns
returns c = record { others = others-spent; spent = spent-part; fresh = fresh-part }
