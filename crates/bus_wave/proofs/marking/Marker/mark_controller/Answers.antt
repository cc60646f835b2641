use Rattle.std.proofs.Common.{◌≡◌, ◌<◌, ◌^◌, List, sym, subst, ap, ◌∙◌}
use Rattle.std.specs.Prelude.{Option}
use Rattle.bus_formats.specs.declared.plan.Kind.{Kind}
use Rattle.bus_monitor.specs.Messages.{message_of}
use Rattle.bus_words.specs.declared.word.Word.{Word}
use Rattle.bus_wave.specs.Delays.{Marked}
use Rattle.bus_wave.specs.Told.{told_opening}
use Rattle.bus_monitor.proofs.FrontLaws.{opening-front}
use Rattle.bus_wave.proofs.MarkLaws.{some-same}
use Rattle.bus_wave.proofs.marking.Marker.mark_controller.Goals as goal

pub returns-in-Some : goal.returns-in-Some
returns-in-Some c first whole running short slots =
    let same : c.in-Some.first ≡ first = some-same c.in-Some.first first (sym c.in-Some.is ∙ running) in
    let early : c.in-Some.first < 2 ^ 60 = subst (λ f. f < 2 ^ 60) (sym same) short in
    subst (λ f. Marked c.args.line.now c.mark_opening.new.line c.args.ticks c.args.channel (told_opening f (message_of whole c.args.rest))) same
    (subst (λ (k : Option Kind). Marked c.args.line.now c.mark_opening.new.line c.args.ticks c.args.channel (told_opening c.in-Some.first k))
    (c.message_of-kind.ensures.value ∙ ap (λ (ss : List (Option Word)). message_of ss c.args.rest) (c.as_slice.ensures.value ∙ slots) ∙ opening-front whole c.args.rest)
    (c.mark_opening.ensures early))
