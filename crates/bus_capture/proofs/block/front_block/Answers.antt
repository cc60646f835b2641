use Rattle.std.proofs.Common.{arith}
use Rattle.bus_capture.proofs.Fronts.{nothing-front, block-front}
use Rattle.bus_capture.proofs.block.front_block.Goals as goal

pub returns-then-begins_short_line : goal.returns-then-begins_short_line
returns-then-begins_short_line c = rw c.none.ensures (nothing-front c.args.piece.now)

pub with_feed-requires : goal.with_feed-requires
with_feed-requires c = block-front c.args.piece.now c.of.result (omega arith) c.of.ensures.few c.of.ensures.samples c.of.ensures.ticks
