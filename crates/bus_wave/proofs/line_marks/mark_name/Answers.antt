use Rattle.std.proofs.Common.{[], ◌∷◌}
use Rattle.bus_wave.specs.Told.{told_at}
use Rattle.bus_wave.specs.declared.marks.Mark.TheVariants.{Message}
use Rattle.bus_wave.specs.declared.marks.MessageMark.TheVariants as messages
use Rattle.bus_wave.proofs.DelayLaws.{marked-then}
use Rattle.bus_wave.proofs.line_marks.mark_name.Goals as goal

pub returns : goal.returns
returns c =
    marked-then c.args.line.now c.mark.new.self c.mark-2.new.self c.args.ticks c.args.channel (told_at c.args.first (Message c.args.mark) ∷ [])
    (told_at c.args.to (Message messages.Nothing) ∷ []) c.mark.ensures c.mark-2.ensures
