use Rattle.std.proofs.Common.{length, arith, ap, ◌∙◌}
use Rattle.bus_controller.proofs.Places.{all-from}
use Rattle.bus_controller.proofs.place.first_place.Goals as goal

pub first_item-requires-clause-some : goal.first_item-requires-clause-some
first_item-requires-clause-some c =
    let all = ap length (all-from c.args.frames.now c.args.repeat c.rounds_after.result (omega arith) c.rounds_after.ensures.none c.rounds_after.ensures.some) in
    omega (arith, all, c.requires.left)

pub returns-then-left-eq0-clause-all : goal.returns-then-left-eq0-clause-all
returns-then-left-eq0-clause-all c = all-from c.args.frames.now c.args.repeat c.rounds_after.result (omega arith) c.rounds_after.ensures.none c.rounds_after.ensures.some

pub returns-else-left-eq0-clause-all : goal.returns-else-left-eq0-clause-all
returns-else-left-eq0-clause-all c =
    c.first_item.ensures.same ∙ all-from c.args.frames.now c.args.repeat c.rounds_after.result (omega arith) c.rounds_after.ensures.none c.rounds_after.ensures.some
