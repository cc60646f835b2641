use Rattle.std.proofs.Common.{◌≡◌, true, arith, ap, sym, ◌∙◌, subst}
use Rattle.std.specs.List.{list_any}
use Rattle.std.specs.Io.KnownBytes.{Appends}
use Rattle.std.proofs.lemmas.Result.{MatchResult-from_err}
use Rattle.bus_formats.specs.Plans.{PlanData}
use Rattle.bus_outside.specs.Causes.{GrowsByFront}
use Rattle.bus_report.specs.Report.{names_subsystem, has_subsystem}
use Rattle.bus_report.proofs.Halfway.{next_text, said_first, said_rest}
use Rattle.bus_report.proofs.whole.write_subsystem.Goals as goal

pub returns-in_err-write-clause-bytes : goal.returns-in_err-write-clause-bytes
returns-in_err-write-clause-bytes g c =
    let named : has_subsystem c.args.plan.now c.args.address ≡ true =
    ap (list_any (names_subsystem c.args.address)) (sym (c.as_slice.ensures.value ∙ ap (λ (p : PlanData). p.stations) c.plan.view_is))
    ∙ sym c.has_subsystem.ensures ∙ c.if-not-has_subsystem.false in
    let said = said_first c.args.plan.now c.args.address _ _ _ named
    (next_text (λ b. (goal.Subsystem-dyn g (b.vtable, b.value)).said b.value) c.args.subsystems.now c.args.place
    c.index-subsystems-place.result (omega arith) c.index-subsystems-place.is) in
    MatchResult-from_err c.from_residual.result _ _ c.from_residual.ensures.0
    (λ _. subst (λ text. GrowsByFront (g.K.Sink.held c.args.sink.now) (g.K.Sink.held c.write.new.self) text)
    (c.as_bytes.ensures ∙ c.subsystem_line.ensures ∙ sym said) c.in_err-write.ensures.bytes)

pub returns-clause-bytes : goal.returns-clause-bytes
returns-clause-bytes g c =
    let named : has_subsystem c.args.plan.now c.args.address ≡ true =
    ap (list_any (names_subsystem c.args.address)) (sym (c.as_slice.ensures.value ∙ ap (λ (p : PlanData). p.stations) c.plan.view_is))
    ∙ sym c.has_subsystem.ensures ∙ c.if-not-has_subsystem.false in
    let said = said_first c.args.plan.now c.args.address _ _ _ named
    (next_text (λ b. (goal.Subsystem-dyn g (b.vtable, b.value)).said b.value) c.args.subsystems.now c.args.place
    c.index-subsystems-place.result (omega arith) c.index-subsystems-place.is) in
    subst (λ text. Appends (g.K.Sink.held c.args.sink.now) (g.K.Sink.held c.write.new.self) text)
    (c.as_bytes.ensures ∙ c.subsystem_line.ensures ∙ sym said) c.in_ok-write.ensures.bytes

pub returns-clause-later : goal.returns-clause-later
returns-clause-later g c =
    let named : has_subsystem c.args.plan.now c.args.address ≡ true =
    ap (list_any (names_subsystem c.args.address)) (sym (c.as_slice.ensures.value ∙ ap (λ (p : PlanData). p.stations) c.plan.view_is))
    ∙ sym c.has_subsystem.ensures ∙ c.if-not-has_subsystem.false in
    sym (said_rest c.args.plan.now c.args.address _ _ _ named
    (next_text (λ b. (goal.Subsystem-dyn g (b.vtable, b.value)).said b.value) c.args.subsystems.now c.args.place
    c.index-subsystems-place.result (omega arith) c.index-subsystems-place.is))
