use Rattle.std.proofs.Common.{◌≡◌, ◌∙◌, ap}
use Rattle.bus_monitor.specs.Messages.{message_of}
use Rattle.bus_monitor.specs.Steps.{opens_next}
use Rattle.bus_monitor.proofs.FrontLaws.{opening-front}
use Rattle.bus_monitor.proofs.waiting.take_burst.Goals as goal

pub returns-in-None : goal.returns-in-None
returns-in-None c whole front =
    let kind : c.message_of.result ≡ message_of whole c.args.rest =
    c.message_of.ensures.value ∙ ap (λ slots. message_of slots c.args.rest) front ∙ opening-front whole c.args.rest in
    rw c.in-None.is (c.open.ensures ∙ ap (opens_next c.args.first c.args.end c.args.now) kind)
