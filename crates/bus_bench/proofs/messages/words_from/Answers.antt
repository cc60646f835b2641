use Rattle.std.proofs.Common.{◌≡◌, ◌+◌, ◌<◌, ◌++◌, ◌∷◌, [], length, ap, arith}
use Rattle.std.proofs.lemmas.List.{length-append}
use Rattle.bus_bench.proofs.MessageRanges.{word-pushed}
use Rattle.bus_bench.proofs.messages.words_from.Goals as goal

pub loop-i-preserved : goal.loop-i-preserved
loop-i-preserved c =
    let long = c.loop-i.invariant.long in
    let within = c.loop-i-test.true in
    let few = c.requires.count in
    let first = c.requires.first in
    let from = c.from.ensures in
    let room : length c.loop-i.words < 32 = omega (arith, long, within, few) in
    let pushed : c.push.new.self ≡ c.loop-i.words ++ (c.args.first + c.from.result) ∷ [] = c.push.ensures.added (c.push.ensures.room.1 room) in
    let longer : length c.push.new.self ≡ length (c.loop-i.words ++ (c.args.first + c.from.result) ∷ []) = ap length pushed in
    let one-more = length-append c.loop-i.words ((c.args.first + c.from.result) ∷ []) in
    record {
      long = omega (arith, long, longer, one-more);
      whole = word-pushed c.loop-i.words c.push.new.self c.args.first c.loop-i.i c.args.count _ within few (omega (arith, first)) (ap (λ n. c.args.first + n) from) pushed
          c.loop-i.invariant.whole;
    }
