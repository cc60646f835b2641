use Rattle.std.proofs.Common.{◌∙◌, ap, subst}
use Rattle.std.proofs.lemmas.Result.{MatchResult-from_err}
use Rattle.bus_outside.specs.Causes.{WriteAdds}
use Rattle.bus_outside.proofs.Writes.{write_then}
use Rattle.bus_report.proofs.Writes.{front_of}
use Rattle.bus_standby.specs.Lines.{ends_text}
use Rattle.bus_standby.specs.Logs.{StandbyLogData}
use Rattle.bus_standby.proofs.lines.write_standby.Goals as goal

pub attempts-requires : goal.attempts-requires
attempts-requires g c = rw (c.as_slice.ensures.value ∙ ap (λ (l : StandbyLogData). l.attempts) c.log.view_is) c.requires

pub returns-in_err-attempts-clause-bytes : goal.returns-in_err-attempts-clause-bytes
returns-in_err-attempts-clause-bytes g c =
    MatchResult-from_err c.from_residual.result _ _ c.from_residual.ensures.0
    (λ _. front_of _ _ _ _ (rw (c.as_slice.ensures.value ∙ ap (λ (l : StandbyLogData). l.attempts) c.log.view_is) at c.in_err-attempts.ensures.bytes))

pub returns-clause-bytes : goal.returns-clause-bytes
returns-clause-bytes g c =
    write_then _ _ _ _ _ c.write_ends.result
    (rw (c.as_slice.ensures.value ∙ ap (λ (l : StandbyLogData). l.attempts) c.log.view_is) at c.in_ok-attempts.ensures.bytes)
    (subst (WriteAdds _ _ c.write_ends.result) (ap (λ (l : StandbyLogData). ends_text l.stop l.taken l.end.0 l.clashes) c.log.view_is) c.write_ends.ensures.bytes)
