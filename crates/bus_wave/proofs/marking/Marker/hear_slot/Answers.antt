use Rattle.std.proofs.Common.{◌≡◌, ◌+◌, ◌*◌, [], ◌∷◌, subst, arith}
use Rattle.bus_wave.specs.Delays.{Marked}
use Rattle.bus_wave.specs.Told.{told_at, slot_mark}
use Rattle.bus_wave.specs.declared.marks.Mark.TheVariants.{Word}
use Rattle.bus_wave.proofs.marking.Marker.hear_slot.Goals as goal

pub returns-clause-marked : goal.returns-clause-marked
returns-clause-marked c first runs short =
    let f : c.first-first.result ≡ first = c.first-first.ensures first runs in
    subst (λ b. Marked c.args.line.now c.mark_slot.new.line (c.args.now + 1) c.args.channel (told_at (first + 40 * c.args.index) (Word (slot_mark b c.args.word)) ∷ []))
    c.opens-opens.ensures
    (subst (λ n. Marked c.args.line.now c.mark_slot.new.line (c.args.now + 1) c.args.channel
    (told_at (n + 40 * c.args.index) (Word (slot_mark c.opens-opens.result c.args.word)) ∷ [])) f (c.mark_slot.ensures (omega (arith, f, short))))
