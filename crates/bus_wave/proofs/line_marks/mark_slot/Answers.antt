use Rattle.std.proofs.Common.{◌≡◌, ◌+◌, ◌*◌, [], ◌∷◌, subst, arith}
use Rattle.bus_wave.specs.Delays.{Marked}
use Rattle.bus_wave.specs.Told.{told_at}
use Rattle.bus_wave.specs.declared.marks.Mark.TheVariants.{Word}
use Rattle.bus_wave.specs.declared.marks.WordMark.{WordMark}
use Rattle.bus_wave.proofs.line_marks.mark_slot.Goals as goal

pub returns : goal.returns
returns c short =
    let at : c.saturating_add-tick.result ≡ c.args.first + 40 * c.args.index = omega (arith, short, c.saturating_mul.ensures, c.saturating_add-tick.ensures) in
    subst (λ (m : WordMark). Marked c.args.line.now c.mark.new.self c.args.ticks c.args.channel (told_at (c.args.first + 40 * c.args.index) (Word m) ∷ []))
    c.slot_mark.ensures
    (subst (λ t. Marked c.args.line.now c.mark.new.self c.args.ticks c.args.channel (told_at t (Word c.slot_mark.result) ∷ [])) at c.mark.ensures)
