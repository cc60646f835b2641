use Rattle.std.proofs.Common.{[], ◌∷◌}
use Rattle.bus_wave.specs.Told.{told_at, told_rest}
use Rattle.bus_wave.specs.declared.marks.Mark.TheVariants.{Word, Sender}
use Rattle.bus_wave.specs.declared.marks.WordMark.TheVariants as words
use Rattle.bus_wave.specs.declared.marks.SenderMark.TheVariants as senders
use Rattle.bus_wave.proofs.DelayLaws.{marked-then}
use Rattle.bus_wave.proofs.line_marks.mark_stop.Goals as goal

pub returns : goal.returns
returns c =
    let end = c.args.end in
    let n = c.args.ticks in
    let ch = c.args.channel in
    let word = told_at end (Word words.Nothing) ∷ [] in
    let sender = told_at end (Sender senders.Nobody) ∷ [] in
    marked-then c.args.line.now c.mark_rest.new.line c.mark-2.new.self n ch (told_rest end c.args.rest)
    (told_at end (Word words.Nothing) ∷ told_at end (Sender senders.Nobody) ∷ []) c.mark_rest.ensures
    (marked-then c.mark_rest.new.line c.mark.new.self c.mark-2.new.self n ch word sender c.mark.ensures c.mark-2.ensures)
