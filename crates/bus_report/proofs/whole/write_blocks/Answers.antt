use Rattle.std.proofs.Common.{arith, ap}
use Rattle.std.proofs.lemmas.Result.{MatchResult-from_err}
use Rattle.bus_report.specs.Report.{block_of}
use Rattle.bus_report.proofs.Writes.{piece_more, piece_front}
use Rattle.bus_report.proofs.whole.write_blocks.Goals as goal

pub returns-in_err-write_block-clause-bytes : goal.returns-in_err-write_block-clause-bytes
returns-in_err-write_block-clause-bytes g c =
    MatchResult-from_err c.from_residual.result _ _ c.from_residual.ensures.0
    (λ _. piece_front (block_of c.args.address) _ _ _ c.args.blocks.now c.loop-block.block-index c.block-item.result _ c.loop-block-test.true
    (ap (block_of c.args.address) c.block-item.is) c.loop-block.invariant.lines c.in_err-write_block.ensures.bytes)

pub loop-block-preserved : goal.loop-block-preserved
loop-block-preserved g c = record {
  lines = piece_more (block_of c.args.address) _ _ _ c.args.blocks.now c.loop-block.block-index c.block-item.result _ c.loop-block-test.true
      (ap (block_of c.args.address) c.block-item.is) c.loop-block.invariant.lines c.in_ok-write_block.ensures.bytes;
  later = omega (arith, c.write_block.ensures.cause.later);
}
