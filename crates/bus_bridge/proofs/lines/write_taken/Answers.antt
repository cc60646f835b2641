use Rattle.std.proofs.Common.{arith, ap, ◌∙◌}
use Rattle.std.proofs.lemmas.Result.{MatchResult-from_err}
use Rattle.bus_report.proofs.Writes.{piece_more, piece_front}
use Rattle.bus_bridge.specs.Lines.{taken_line}
use Rattle.bus_bridge.proofs.lines.write_taken.Goals as goal

pub returns-in_err-write-clause-bytes : goal.returns-in_err-write-clause-bytes
returns-in_err-write-clause-bytes g c =
    MatchResult-from_err c.from_residual.result _ _ c.from_residual.ensures.0
    (λ _. piece_front taken_line _ _ _ c.args.taken.now c.loop-delivery.delivery-index c.delivery-item.result _ c.loop-delivery-test.true
    (c.as_bytes.ensures ∙ c.taken_line.ensures ∙ ap taken_line c.delivery-item.is) c.loop-delivery.invariant.lines c.in_err-write.ensures.bytes)

pub loop-delivery-preserved : goal.loop-delivery-preserved
loop-delivery-preserved g c = record {
  lines = piece_more taken_line _ _ _ c.args.taken.now c.loop-delivery.delivery-index c.delivery-item.result _ c.loop-delivery-test.true
      (c.as_bytes.ensures ∙ c.taken_line.ensures ∙ ap taken_line c.delivery-item.is) c.loop-delivery.invariant.lines c.in_ok-write.ensures.bytes;
  later = omega (arith, c.write.ensures.cause.later);
}
