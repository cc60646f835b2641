use Rattle.std.proofs.Common.{◌≡◌, ◌∙◌, ap}
use Rattle.bus_formats.specs.Readings.{read_answer}
use Rattle.bus_formats.specs.declared.form.Reading.TheVariants.{Good, Ends}
use Rattle.bus_monitor.specs.Steps.{answered_next}
use Rattle.bus_monitor.specs.declared.waiting.Next.TheVariants.{Closed}
use Rattle.bus_monitor.proofs.ReadingLaws.{answer-whole}
use Rattle.bus_monitor.proofs.waiting.Waiting.answered.Goals as goal

pub returns-in-Good : goal.returns-in-Good
returns-in-Good c whole front =
    let read : Good c.in-Good.status ≡ read_answer c.args.self.kind c.args.self.part whole c.args.rest =
    c.in-Good.ensures ∙ answer-whole c.self.inside.kind c.args.self.kind c.part.result c.args.self.part c.args.slots.now whole c.args.rest
    c.self.invariant (cc) c.part.ensures front in
    c.answered_well.ensures ∙ ap (answered_next c.args.self c.args.end c.args.now) read

pub returns-in-Ends : goal.returns-in-Ends
returns-in-Ends c whole front =
    let read : Ends c.in-Ends.outcome c.in-Ends.status ≡ read_answer c.args.self.kind c.args.self.part whole c.args.rest =
    c.in-Ends.ensures ∙ answer-whole c.self.inside.kind c.args.self.kind c.part.result c.args.self.part c.args.slots.now whole c.args.rest
    c.self.invariant (cc) c.part.ensures front in
    ap Closed c.close.ensures ∙ ap (answered_next c.args.self c.args.end c.args.now) read
