use Rattle.std.proofs.Common.{arith, ap, ◌∙◌, ◌+◌}
use Rattle.std.proofs.lemmas.Result.{MatchResult-from_err}
use Rattle.bus_formats.specs.Plans.{FrameData}
use Rattle.bus_load.proofs.Written.{piece_by, frame_more, frame_front}
use Rattle.bus_load.proofs.lines.write_frames.Goals as goal

pub returns-in_err-write-clause-bytes : goal.returns-in_err-write-clause-bytes
returns-in_err-write-clause-bytes g c =
    MatchResult-from_err c.from_residual.result _ _ c.from_residual.ensures.0
    (λ _. frame_front _ _ _ c.args.plan.now c.args.frames.now c.loop-frame.number c.loop-frame.frame-index c.frame-item.result c.as_bytes.result.now c.loop-frame.invariant.number
    c.loop-frame-test.true c.frame-item.is (piece_by c.args.plan.now (c.loop-frame.number + 1) c.frame.inside.ticks c.frame-item.result c.as_bytes.result.now (ap (λ (f : FrameData). f.ticks) c.frame.view_is)
    (c.as_bytes.ensures ∙ c.line_of.ensures)) c.loop-frame.invariant.lines c.in_err-write.ensures.bytes)

pub loop-frame-preserved : goal.loop-frame-preserved
loop-frame-preserved g c =
    let before = c.loop-frame.invariant.number in
    record {
      number = omega (arith, before);
      lines = frame_more _ _ _ c.args.plan.now c.args.frames.now c.loop-frame.number c.loop-frame.frame-index c.frame-item.result c.as_bytes.result.now before
          c.loop-frame-test.true c.frame-item.is (piece_by c.args.plan.now (c.loop-frame.number + 1) c.frame.inside.ticks c.frame-item.result c.as_bytes.result.now (ap (λ (f : FrameData). f.ticks) c.frame.view_is)
          (c.as_bytes.ensures ∙ c.line_of.ensures)) c.loop-frame.invariant.lines c.in_ok-write.ensures.bytes;
      later = omega (arith, c.loop-frame.invariant.later, c.write.ensures.cause.later);
    }
