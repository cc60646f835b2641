use Rattle.std.proofs.Common.{arith}
use Rattle.std.proofs.lemmas.List.{length-take}
use Rattle.bus_outside.proofs.Fronts.{front_and_rest}
use Rattle.bus_outside.proofs.copying.copy_front.Goals as goal

pub returns-clause-consumes : goal.returns-clause-consumes
returns-clause-consumes c =
    front_and_rest c.args.bytes.now c.copy_from_slice.new.self _ c.args.at c.min-count.result c.copy_from_slice.ensures.after (omega (arith, length-take c.min-count.result c.args.piece.now))
