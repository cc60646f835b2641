use Rattle.std.proofs.Common.{ap, ◌∙◌}
use Rattle.bus_phase.specs.Phases.{with_due_to_last, on_both, lead_over, followed_by, PhaseData}
use Rattle.bus_phase.proofs.phase.Phase.end.Goals as goal

pub returns : goal.returns
returns c =
    c.make_last_due.ensures
    ∙ ap (λ (p : PhaseData). with_due_to_last c.args.now p)
    (c.end_leads.ensures
    ∙ ap (λ (p : PhaseData). on_both lead_over p)
    (c.follow.ensures ∙ ap (λ (p : PhaseData). followed_by 16 18446744073709551615 p) c.hear.ensures))
