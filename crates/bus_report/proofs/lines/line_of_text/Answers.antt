use Rattle.std.proofs.Common.{◌≡◌, ◌∷◌, [], ◌++◌, ap, ◌∙◌, append_assoc}
use Rattle.std.specs.Prelude.{codes}
use Rattle.bus_text.specs.Texts.{line, number, spaced}
use Rattle.bus_report.proofs.lines.line_of_text.Goals as goal

pub returns : goal.returns
returns c =
    let begins : c.number.new.self ≡ codes "subsystem" ++ number c.args.address =
    c.number.ensures.text ∙ ap (λ xs. xs ++ number c.from.result) (c.text.ensures.text ∙ ap (λ xs. xs ++ codes "subsystem") c.new-line.ensures)
    ∙ ap (λ n. codes "subsystem" ++ number n) c.from.ensures in
    c.end.ensures ∙ ap line (c.text-3.ensures.text ∙ ap (λ xs. xs ++ c.args.text.now) c.text-2.ensures.text
    ∙ append_assoc c.number.new.self (32 ∷ []) c.args.text.now ∙ ap (λ xs. xs ++ spaced c.args.text.now) begins)
