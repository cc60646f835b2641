use Rattle.std.proofs.Common.{◌++◌, ◌∷◌, [], codes, ap, ◌∙◌}
use Rattle.bus_text.specs.Texts.{line, number}
use Rattle.bus_wave.proofs.TextLaws.{five-parts}
use Rattle.bus_wave.proofs.text.add_offset.Goals as goal

pub returns : goal.returns
returns c =
    c.end.ensures ∙ ap line (c.text-3.ensures.text
    ∙ ap (λ t. t ++ codes " $end") (c.number.ensures.text
    ∙ ap (λ t. t ++ number c.args.offset) (c.text-2.ensures.text
    ∙ ap (λ t. t ++ c.args.name.now) c.text.ensures.text)))
    ∙ five-parts c.args.text.now (codes "$comment capture refused") c.args.name.now (number c.args.offset) (codes " $end") (10 ∷ [])
