use Rattle.std.proofs.Common.{◌≡◌, ◌∙◌, ◌++◌, ap, sym}
use Rattle.std.specs.Prelude.{codes, option_map}
use Rattle.bus_plan.specs.Refusals.{number_of, name_of, place_of}
use Rattle.bus_tool.specs.Due.{place_text}
use Rattle.bus_tool.proofs.RefusedLine.{place-some, place-none, line-told}
use Rattle.bus_tool.proofs.refusals.second_line.Goals.{in-Some, in_default}
use Rattle.bus_tool.proofs.refusals.second_line.Goals as goal

pub returns : goal.returns
returns c =
    let placed : c.match-place.line ≡ c.text-3.new.self ++ place_text (place_of c.args.refusal.now) = elim c.match-place.branch [
      | in-Some w ↦
          place-some c.text-3.new.self w.text-in-Some.new.self c.match-place.line w.as_str.result.now w.in-Some.place.now (place_of c.args.refusal.now)
          (w.line-is ∙ w.text-in-Some-2.ensures.text) w.text-in-Some.ensures.text w.as_str.ensures.value
          (sym c.place.ensures ∙ ap (λ o. option_map (λ p. p.now) o) w.in-Some.is)
      | in_default w ↦
          place-none c.text-3.new.self c.match-place.line (place_of c.args.refusal.now) w.line-is
          (sym c.place.ensures ∙ ap (λ o. option_map (λ p. p.now) o) w.in_default.is)
    ] in
    line-told c.new-line.result c.text.new.self c.number-2.new.self c.text-2.new.self c.text-3.new.self c.match-place.line c.end.new.self
    (codes "bridge refused 3 second") c.name.result.now (name_of c.args.refusal.now) (place_text (place_of c.args.refusal.now)) c.from.result
    (number_of c.args.refusal.now) c.new-line.ensures c.text.ensures.text (c.from.ensures ∙ c.number.ensures) c.number-2.ensures.text c.text-2.ensures.text
    c.text-3.ensures.text c.name.ensures placed c.end.ensures
