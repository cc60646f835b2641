use Rattle.std.proofs.Common.{ℕ, [], ◌∷◌, sym, subst, ◌∙◌}
use Rattle.std.specs.Prelude.{Option}
use Rattle.bus_wave.specs.Delays.{Marked}
use Rattle.bus_wave.specs.Told.{told_at, told_open, open_to}
use Rattle.bus_wave.specs.declared.marks.Mark.TheVariants.{Message}
use Rattle.bus_wave.specs.declared.marks.MessageMark.{MessageMark}
use Rattle.bus_wave.specs.declared.marks.MessageMark.TheVariants as messages
use Rattle.bus_wave.proofs.marking.Marker.mark_open.Goals as goal

pub returns-in-Some : goal.returns-in-Some
returns-in-Some c =
    let l0 = c.args.line.now in
    let l1 = c.mark_name.new.line in
    let l = c.args.self.now.lister in
    subst (λ (o : Option ℕ). Marked l0 l1 c.args.ticks c.args.channel (told_open c.args.stop l.running l.waiting o)) (sym c.in-Some.is ∙ c.open.ensures)
    (subst (λ (m : MessageMark). Marked l0 l1 c.args.ticks c.args.channel
    (told_at c.in-Some.first (Message m) ∷ told_at (open_to c.args.stop l.running l.waiting) (Message messages.Nothing) ∷ [])) c.open_mark-mark.ensures
    (subst (λ t. Marked l0 l1 c.args.ticks c.args.channel (told_at c.in-Some.first (Message c.open_mark-mark.result) ∷ told_at t (Message messages.Nothing) ∷ []))
    c.open_to-to.ensures c.mark_name.ensures))
