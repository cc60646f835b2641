use Rattle.std.proofs.Common.{◌≡◌, ◌*◌, ◌%◌, ◌∷◌, ◌++◌, decimal, ap, ◌∙◌}
use Rattle.bus_base.specs.declared.samples.Channel.TheVariants.{A, B}
use Rattle.bus_text.specs.Texts.{line}
use Rattle.bus_wave.specs.Levels.{four_digits}
use Rattle.bus_wave.specs.Marks.{level_changes}
use Rattle.bus_wave.specs.Texts.{changes_text}
use Rattle.bus_wave.proofs.TextLaws.{late-change}
use Rattle.bus_wave.proofs.unmarked.add_changed.Goals as goal

pub returns-clause-text : goal.returns-clause-text
returns-clause-text c =
    let rest = (line (four_digits (5 * c.args.tick % 10000)) ++ changes_text (level_changes A c.args.before.a c.args.shown.a))
    ++ changes_text (level_changes B c.args.before.b c.args.shown.b) in
    c.add_rest.ensures.text
    ∙ ap (λ t. t ++ rest) (c.add_stamp.ensures.text ∙ ap (λ n. c.args.text.now ++ (35 ∷ decimal n)) c.renew.ensures)
    ∙ late-change c.args.text.now c.args.tick c.args.before c.args.shown c.requires.late c.requires.time
