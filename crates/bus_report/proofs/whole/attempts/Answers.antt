use Rattle.std.proofs.Common.{arith, ◌∙◌}
use Rattle.bus_report.proofs.Numbered.{numbered_piece}
use Rattle.std.proofs.lemmas.Result.{MatchResult-from_err}
use Rattle.bus_report.proofs.Numbered.{numbered_more, numbered_front}
use Rattle.bus_report.proofs.whole.attempts.Goals as goal

pub returns-in_err-write-clause-bytes : goal.returns-in_err-write-clause-bytes
returns-in_err-write-clause-bytes g c =
    MatchResult-from_err c.from_residual.result _ _ c.from_residual.ensures.0
    (λ _. numbered_front _ _ _ c.args.attempts.now c.loop-i.i c.index-attempts-i.result _ c.loop-i-test.true
    (numbered_piece c.args.attempts.now c.loop-i.i c.index-attempts-i.result _ c.index-attempts-i.is (c.as_bytes.ensures ∙ c.attempt_line.ensures)) c.loop-i.invariant.lines c.in_err-write.ensures.bytes)

pub loop-i-preserved : goal.loop-i-preserved
loop-i-preserved g c =
    record {
      lines = numbered_more _ _ _ c.args.attempts.now c.loop-i.i c.index-attempts-i.result _ c.loop-i-test.true
          (numbered_piece c.args.attempts.now c.loop-i.i c.index-attempts-i.result _ c.index-attempts-i.is (c.as_bytes.ensures ∙ c.attempt_line.ensures)) c.loop-i.invariant.lines c.in_ok-write.ensures.bytes;
      later = omega (arith, c.write.ensures.cause.later);
    }
