use Rattle.std.proofs.Common.{arith, ◌∙◌}
use Rattle.std.proofs.lemmas.Result.{MatchResult-from_err}
use Rattle.bus_report.specs.Report.{burst_line}
use Rattle.bus_report.proofs.Writes.{piece_more, piece_front}
use Rattle.bus_report.proofs.whole.write_bursts.Goals as goal

pub returns-in_err-write-clause-bytes : goal.returns-in_err-write-clause-bytes
returns-in_err-write-clause-bytes g c =
    MatchResult-from_err c.from_residual.result _ _ c.from_residual.ensures.0
    (λ _. piece_front burst_line _ _ _ c.args.bursts.now c.loop-burst.burst-index _ _ c.loop-burst-test.true
    (c.as_bytes.ensures ∙ c.burst_line.ensures) c.loop-burst.invariant.lines c.in_err-write.ensures.bytes)

pub loop-burst-preserved : goal.loop-burst-preserved
loop-burst-preserved g c = record {
  lines = piece_more burst_line _ _ _ c.args.bursts.now c.loop-burst.burst-index _ _ c.loop-burst-test.true
      (c.as_bytes.ensures ∙ c.burst_line.ensures) c.loop-burst.invariant.lines c.in_ok-write.ensures.bytes;
  later = omega (arith, c.write.ensures.cause.later);
}
