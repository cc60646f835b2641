use Rattle.std.proofs.Common.{ℕ, List, ap, ◌∙◌}
use Rattle.bus_table.specs.Notes.{noted, part_of}
use Rattle.bus_table.proofs.channel_rows.ChannelRows.note_burst.Goals as goal

pub returns-clause-noted : goal.returns-clause-noted
returns-clause-noted c whole kept =
    let old = c.args.self.now in
    c.note_part.ensures.noted
    ∙ ap (λ part. record old { notes = noted part old.notes old.gap c.args.first c.args.end c.words_of-words.result c.args.bad }) c.awaited_part-part.ensures
    ∙ ap (λ (ws : List ℕ). record old { notes = noted (part_of old.lister.waiting) old.notes old.gap c.args.first c.args.end ws c.args.bad }) (c.words_of-words.ensures whole kept)
