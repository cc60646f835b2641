use Rattle.std.proofs.Common.{◌∙◌}
use Rattle.std.proofs.lemmas.Result.{MatchResult-from_err}
use Rattle.bus_outside.proofs.Writes.{front_then, write_then}
use Rattle.bus_report.proofs.Writes.{front_of}
use Rattle.bus_standby.proofs.lines.write_ends.Goals as goal

pub returns-in_err-write-clause-bytes : goal.returns-in_err-write-clause-bytes
returns-in_err-write-clause-bytes g c =
    MatchResult-from_err c.from_residual.result _ _ c.from_residual.ensures.0
    (λ _. front_of _ _ _ _ (rw (c.as_bytes.ensures ∙ c.stop_line.ensures) at c.in_err-write.ensures.bytes))

pub returns-in_err-write-2-clause-bytes : goal.returns-in_err-write-2-clause-bytes
returns-in_err-write-2-clause-bytes g c =
    MatchResult-from_err c.from_residual-in_err-write-2.result _ _ c.from_residual-in_err-write-2.ensures.0
    (λ _. front_then _ _ _ _ _ _ (rw (c.as_bytes.ensures ∙ c.stop_line.ensures) at c.in_ok-write.ensures.bytes)
    (rw (c.as_bytes-2.ensures ∙ c.take_line.ensures) at c.in_err-write-2.ensures.bytes))

pub returns-clause-bytes : goal.returns-clause-bytes
returns-clause-bytes g c =
    write_then _ _ _ _ _ c.write-3.result (rw (c.as_bytes.ensures ∙ c.stop_line.ensures) at c.in_ok-write.ensures.bytes)
    (write_then _ _ _ _ _ c.write-3.result (rw (c.as_bytes-2.ensures ∙ c.take_line.ensures) at c.in_ok-write-2.ensures.bytes)
    (rw (c.as_bytes-3.ensures ∙ c.end_line.ensures) at c.write-3.ensures.bytes))
