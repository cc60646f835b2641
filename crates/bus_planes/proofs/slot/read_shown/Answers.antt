use Rattle.std.proofs.Common.{sym, ◌∙◌}
use Rattle.std.proofs.lemmas.Bool.{false≢true}
use Rattle.bus_planes.proofs.PairLaws.{spelled-pairs}
use Rattle.bus_planes.proofs.slot.read_shown.Goals as goal

pub returns-else-are_pairs : goal.returns-else-are_pairs
returns-else-are_pairs c word spells = absurd (false≢true (sym c.if-are_pairs.false ∙ c.are_pairs.ensures.1 (spelled-pairs c.args.plus word spells)))
