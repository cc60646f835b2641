use Rattle.std.proofs.Common.{◌∙◌, ap, subst}
use Rattle.std.proofs.lemmas.Result.{MatchResult-from_err}
use Rattle.bus_outside.specs.Causes.{WriteAdds}
use Rattle.bus_outside.proofs.Writes.{write_then, front_then}
use Rattle.bus_report.proofs.Writes.{front_of}
use Rattle.bus_bridge.specs.Lines.{ends_line}
use Rattle.bus_bridge.specs.Logs.{BridgeLogData}
use Rattle.bus_bridge.proofs.lines.write_bridge.Goals as goal

pub attempts-requires : goal.attempts-requires
attempts-requires g c = rw (c.as_slice-2.ensures.value ∙ ap (λ (l : BridgeLogData). l.attempts) c.log.view_is) c.requires

pub returns-in_err-write_taken-clause-bytes : goal.returns-in_err-write_taken-clause-bytes
returns-in_err-write_taken-clause-bytes g c =
    MatchResult-from_err c.from_residual.result _ _ c.from_residual.ensures.0
    (λ _. front_of _ _ _ _ (rw (c.as_slice.ensures.value ∙ ap (λ (l : BridgeLogData). l.taken) c.log.view_is) at c.in_err-write_taken.ensures.bytes))

pub returns-in_err-attempts-clause-bytes : goal.returns-in_err-attempts-clause-bytes
returns-in_err-attempts-clause-bytes g c =
    MatchResult-from_err c.from_residual-in_err-attempts.result _ _ c.from_residual-in_err-attempts.ensures.0
    (λ _. front_then _ _ _ _ _ _ (rw (c.as_slice.ensures.value ∙ ap (λ (l : BridgeLogData). l.taken) c.log.view_is) at c.in_ok-write_taken.ensures.bytes)
    (rw (c.as_slice-2.ensures.value ∙ ap (λ (l : BridgeLogData). l.attempts) c.log.view_is) at c.in_err-attempts.ensures.bytes))

pub returns-clause-bytes : goal.returns-clause-bytes
returns-clause-bytes g c =
    write_then _ _ _ _ _ c.write.result
    (rw (c.as_slice.ensures.value ∙ ap (λ (l : BridgeLogData). l.taken) c.log.view_is) at c.in_ok-write_taken.ensures.bytes)
    (write_then _ _ _ _ _ c.write.result
    (rw (c.as_slice-2.ensures.value ∙ ap (λ (l : BridgeLogData). l.attempts) c.log.view_is) at c.in_ok-attempts.ensures.bytes)
    (subst (WriteAdds _ _ c.write.result)
    (c.as_bytes.ensures ∙ c.ends_line.ensures ∙ ap (λ (l : BridgeLogData). ends_line l.first_end.0 l.second_end.0 l.clashes) c.log.view_is)
    c.write.ensures.bytes))
