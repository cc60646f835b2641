use Rattle.std.proofs.Common.{◌∙◌, ap}
use Rattle.std.proofs.lemmas.Result.{MatchResult-from_err}
use Rattle.bus_load.specs.Lines.{verdict_line}
use Rattle.bus_load.proofs.Written.{front_of}
use Rattle.bus_outside.proofs.Writes.{write_then}
use Rattle.bus_load.proofs.lines.write_load.Goals as goal

pub returns-in_err-write_frames-clause-bytes : goal.returns-in_err-write_frames-clause-bytes
returns-in_err-write_frames-clause-bytes g c =
    MatchResult-from_err c.from_residual.result _ _ c.from_residual.ensures.0
    (λ _. front_of _ _ _ _ (rw c.frames_of.ensures.value at c.in_err-write_frames.ensures.bytes))

pub returns-clause-bytes : goal.returns-clause-bytes
returns-clause-bytes g c =
    let last = c.as_bytes.ensures ∙ c.verdict_line.ensures ∙ ap verdict_line c.verdict.ensures.value in
    write_then _ _ _ _ _ c.write.result (rw c.frames_of.ensures.value at c.in_ok-write_frames.ensures.bytes) (rw last at c.write.ensures.bytes)
