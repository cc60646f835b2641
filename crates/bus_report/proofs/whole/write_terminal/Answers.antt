use Rattle.std.proofs.Common.{◌∙◌}
use Rattle.std.proofs.lemmas.Result.{MatchResult-from_err}
use Rattle.bus_outside.proofs.Writes.{write_then}
use Rattle.bus_report.proofs.Writes.{front_of}
use Rattle.bus_report.proofs.whole.write_terminal.Goals as goal

pub returns-in_err-write-clause-bytes : goal.returns-in_err-write-clause-bytes
returns-in_err-write-clause-bytes g c =
    MatchResult-from_err c.from_residual.result _ _ c.from_residual.ensures.0
    (λ _. front_of _ _ _ _ (rw (c.as_bytes.ensures ∙ c.terminal_line.ensures) at c.in_err-write.ensures.bytes))

pub returns-clause-bytes : goal.returns-clause-bytes
returns-clause-bytes g c =
    write_then _ _ _ _ _ c.write_blocks.result (rw (c.as_bytes.ensures ∙ c.terminal_line.ensures) at c.in_ok-write.ensures.bytes) c.write_blocks.ensures.bytes
