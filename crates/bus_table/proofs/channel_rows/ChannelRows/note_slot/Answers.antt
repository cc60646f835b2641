use Rattle.std.proofs.Common.{ap, sym, ◌∙◌}
use Rattle.bus_table.specs.Notes.{slot_noted}
use Rattle.bus_table.proofs.BadLaws.{or-none}
use Rattle.bus_table.proofs.channel_rows.ChannelRows.note_slot.Goals as goal

pub returns-in-Some-clause-noted : goal.returns-in-Some-clause-noted
returns-in-Some-clause-noted c past s =
    ap (λ b. record c.args.self.now { bad = b }) (sym (or-none c.args.self.now.bad))
    ∙ ap (λ w. slot_noted c.args.self.now past c.args.index w c.args.sample) (sym c.in-Some.is)
