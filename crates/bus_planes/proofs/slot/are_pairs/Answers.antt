use Rattle.std.proofs.lemmas.Bool.{eqb-true, eq-eqb}
use Rattle.bus_planes.proofs.PairLaws.{pairs-tested, pairs-pass}
use Rattle.bus_planes.proofs.slot.are_pairs.Goals as goal

pub returns : goal.returns
returns c = (λ t. pairs-tested c.args.plus (eqb-true _ _ t), λ pairs. eq-eqb _ _ (pairs-pass c.args.plus pairs))
