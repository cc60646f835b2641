use Rattle.std.proofs.Common.{arith, ◌∙◌}
use Rattle.std.proofs.lemmas.Result.{MatchResult-from_err}
use Rattle.bus_text.specs.Texts.{word_line}
use Rattle.bus_report.proofs.Writes.{piece_more, piece_front}
use Rattle.bus_report.proofs.whole.write_words.Goals as goal

pub returns-in_err-write-clause-bytes : goal.returns-in_err-write-clause-bytes
returns-in_err-write-clause-bytes g c =
    MatchResult-from_err c.from_residual.result _ _ c.from_residual.ensures.0
    (λ _. piece_front word_line _ _ _ c.args.words.now c.loop-heard.heard-index _ _ c.loop-heard-test.true
    (c.as_bytes.ensures ∙ c.of_word.ensures.text) c.loop-heard.invariant.lines c.in_err-write.ensures.bytes)

pub loop-heard-preserved : goal.loop-heard-preserved
loop-heard-preserved g c = record {
  lines = piece_more word_line _ _ _ c.args.words.now c.loop-heard.heard-index _ _ c.loop-heard-test.true
      (c.as_bytes.ensures ∙ c.of_word.ensures.text) c.loop-heard.invariant.lines c.in_ok-write.ensures.bytes;
  later = omega (arith, c.write.ensures.cause.later);
}
