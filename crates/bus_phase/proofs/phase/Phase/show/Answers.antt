use Rattle.std.proofs.Common.{◌-◌, ap, ◌∙◌}
use Rattle.bus_phase.specs.Phases.{with_due_at, advanced, hold_time, PhaseData}
use Rattle.bus_phase.proofs.phase.Phase.show.Goals as goal

pub returns : goal.returns
returns c =
    c.make_due.ensures
    ∙ ap (λ (p : PhaseData). with_due_at c.args.now p)
    (c.advance.ensures ∙ rw c.saturating_sub.ensures (ap (λ (p : PhaseData). advanced (c.args.now - hold_time) p) c.notice.ensures))
