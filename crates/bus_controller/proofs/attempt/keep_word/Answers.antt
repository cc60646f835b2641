use Rattle.std.proofs.Common.{◌≡◌, Some, None, sym, ◌∙◌}
use Rattle.bus_formats.specs.Readings.{datum_in}
use Rattle.bus_controller.proofs.Words.{push-is, take-none}
use Rattle.bus_controller.proofs.attempt.keep_word.Goals as goal

pub returns-in-Some : goal.returns-in-Some
returns-in-Some c =
    let is : datum_in c.args.slot ≡ Some c.in-Some.word = sym c.datum_in.ensures ∙ c.in-Some.is in
    rw is (push-is c.args.words.now c.push.new.self c.in-Some.word c.push.result c.requires c.push.ensures.room c.push.ensures.added c.push.ensures.full)

pub returns-in_default : goal.returns-in_default
returns-in_default c =
    let is : datum_in c.args.slot ≡ None = sym c.datum_in.ensures ∙ c.in_default.is in
    rw is (sym (take-none 32 c.args.words.now c.requires))
