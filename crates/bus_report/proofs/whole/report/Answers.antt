use Rattle.std.proofs.Common.{◌∙◌, map, subst, ap}
use Rattle.std.proofs.lemmas.Result.{MatchResult-from_err}
use Rattle.bus_formats.specs.Logs.{LogData}
use Rattle.bus_outside.specs.Causes.{GrowsByFront, WriteAdds}
use Rattle.bus_report.specs.Report.{end_text}
use Rattle.bus_report.proofs.Parts.{parts}
use Rattle.bus_outside.proofs.Writes.{write_then}
use Rattle.bus_report.proofs.Writes.{front_of, front_after}
use Rattle.bus_report.proofs.whole.report.Goals as goal

pub attempts-requires : goal.attempts-requires
attempts-requires g c = rw (c.as_slice.ensures.value ∙ ap (λ (l : LogData). l.attempts) c.log.view_is) c.requires

pub returns-in_err-attempts-clause-bytes : goal.returns-in_err-attempts-clause-bytes
returns-in_err-attempts-clause-bytes g c =
    let e = c.log.view_is in
    MatchResult-from_err c.from_residual.result _ _ c.from_residual.ensures.0
    (λ _. subst (λ text. GrowsByFront (g.K.Sink.held c.args.sink.now) (g.K.Sink.held c.attempts.new.sink) text)
    (parts c.args.log.now c.args.plan.now (map (λ b. (goal.Subsystem-dyn g (b.vtable, b.value)).said b.value) c.args.subsystems.now.items) c.as_slice.result.now c.log.inside.words.items c.log.inside.bursts.items c.log.inside.blocks.items
    c.log.inside.terminals.items (c.as_slice.ensures.value ∙ ap (λ (l : LogData). l.attempts) e) (ap (λ (l : LogData). l.words) e)
    (ap (λ (l : LogData). l.bursts) e) (ap (λ (l : LogData). l.blocks) e) (ap (λ (l : LogData). l.terminals) e))
    (front_of _ _ _ _ c.in_err-attempts.ensures.bytes))

pub returns-in_err-write_words-clause-bytes : goal.returns-in_err-write_words-clause-bytes
returns-in_err-write_words-clause-bytes g c =
    let e = c.log.view_is in
    MatchResult-from_err c.from_residual-in_err-write_words.result _ _ c.from_residual-in_err-write_words.ensures.0
    (λ _. subst (λ text. GrowsByFront (g.K.Sink.held c.args.sink.now) (g.K.Sink.held c.write_words.new.sink) text)
    (parts c.args.log.now c.args.plan.now (map (λ b. (goal.Subsystem-dyn g (b.vtable, b.value)).said b.value) c.args.subsystems.now.items) c.as_slice.result.now c.as_slice-2.result.now c.log.inside.bursts.items c.log.inside.blocks.items
    c.log.inside.terminals.items (c.as_slice.ensures.value ∙ ap (λ (l : LogData). l.attempts) e)
    (c.as_slice-2.ensures.value ∙ ap (λ (l : LogData). l.words) e)
    (ap (λ (l : LogData). l.bursts) e) (ap (λ (l : LogData). l.blocks) e) (ap (λ (l : LogData). l.terminals) e))
    (front_after _ _ _ _ _ c.in_ok-attempts.ensures.bytes (front_of _ _ _ _ c.in_err-write_words.ensures.bytes)))

pub returns-in_err-write_bursts-clause-bytes : goal.returns-in_err-write_bursts-clause-bytes
returns-in_err-write_bursts-clause-bytes g c =
    let e = c.log.view_is in
    MatchResult-from_err c.from_residual-in_err-write_bursts.result _ _ c.from_residual-in_err-write_bursts.ensures.0
    (λ _. subst (λ text. GrowsByFront (g.K.Sink.held c.args.sink.now) (g.K.Sink.held c.write_bursts.new.sink) text)
    (parts c.args.log.now c.args.plan.now (map (λ b. (goal.Subsystem-dyn g (b.vtable, b.value)).said b.value) c.args.subsystems.now.items) c.as_slice.result.now c.as_slice-2.result.now c.as_slice-3.result.now c.log.inside.blocks.items
    c.log.inside.terminals.items (c.as_slice.ensures.value ∙ ap (λ (l : LogData). l.attempts) e)
    (c.as_slice-2.ensures.value ∙ ap (λ (l : LogData). l.words) e)
    (c.as_slice-3.ensures.value ∙ ap (λ (l : LogData). l.bursts) e) (ap (λ (l : LogData). l.blocks) e) (ap (λ (l : LogData). l.terminals) e))
    (front_after _ _ _ _ _ c.in_ok-attempts.ensures.bytes (front_after _ _ _ _ _ c.in_ok-write_words.ensures.bytes
    (front_of _ _ _ _ c.in_err-write_bursts.ensures.bytes))))

pub returns-in_err-write_terminals-clause-bytes : goal.returns-in_err-write_terminals-clause-bytes
returns-in_err-write_terminals-clause-bytes g c =
    let e = c.log.view_is in
    MatchResult-from_err c.from_residual-in_err-write_terminals.result _ _ c.from_residual-in_err-write_terminals.ensures.0
    (λ _. subst (λ text. GrowsByFront (g.K.Sink.held c.args.sink.now) (g.K.Sink.held c.write_terminals.new.sink) text)
    (parts c.args.log.now c.args.plan.now (map (λ b. (goal.Subsystem-dyn g (b.vtable, b.value)).said b.value) c.args.subsystems.now.items) c.as_slice.result.now c.as_slice-2.result.now c.as_slice-3.result.now c.as_slice-5.result.now
    c.as_slice-4.result.now (c.as_slice.ensures.value ∙ ap (λ (l : LogData). l.attempts) e)
    (c.as_slice-2.ensures.value ∙ ap (λ (l : LogData). l.words) e)
    (c.as_slice-3.ensures.value ∙ ap (λ (l : LogData). l.bursts) e) (c.as_slice-5.ensures.value ∙ ap (λ (l : LogData). l.blocks) e)
    (c.as_slice-4.ensures.value ∙ ap (λ (l : LogData). l.terminals) e))
    (front_after _ _ _ _ _ c.in_ok-attempts.ensures.bytes (front_after _ _ _ _ _ c.in_ok-write_words.ensures.bytes
    (front_after _ _ _ _ _ c.in_ok-write_bursts.ensures.bytes (front_of _ _ _ _ (rw c.as_slice-6.ensures.value at c.in_err-write_terminals.ensures.bytes))))))

pub returns-clause-bytes : goal.returns-clause-bytes
returns-clause-bytes g c =
    let e = c.log.view_is in
    let last = c.as_bytes.ensures ∙ c.end_line.ensures ∙ ap (λ (l : LogData). end_text l.end.0 l.clashes) e in
    subst (λ text. WriteAdds (g.K.Sink.held c.args.sink.now) (g.K.Sink.held c.write.new.self) c.write.result text)
    (parts c.args.log.now c.args.plan.now (map (λ b. (goal.Subsystem-dyn g (b.vtable, b.value)).said b.value) c.args.subsystems.now.items) c.as_slice.result.now c.as_slice-2.result.now c.as_slice-3.result.now c.as_slice-5.result.now
    c.as_slice-4.result.now (c.as_slice.ensures.value ∙ ap (λ (l : LogData). l.attempts) e)
    (c.as_slice-2.ensures.value ∙ ap (λ (l : LogData). l.words) e)
    (c.as_slice-3.ensures.value ∙ ap (λ (l : LogData). l.bursts) e) (c.as_slice-5.ensures.value ∙ ap (λ (l : LogData). l.blocks) e)
    (c.as_slice-4.ensures.value ∙ ap (λ (l : LogData). l.terminals) e))
    (write_then _ _ _ _ _ c.write.result c.in_ok-attempts.ensures.bytes (write_then _ _ _ _ _ c.write.result c.in_ok-write_words.ensures.bytes
    (write_then _ _ _ _ _ c.write.result c.in_ok-write_bursts.ensures.bytes (write_then _ _ _ _ _ c.write.result (rw c.as_slice-6.ensures.value at c.in_ok-write_terminals.ensures.bytes)
    (rw last at c.write.ensures.bytes)))))
