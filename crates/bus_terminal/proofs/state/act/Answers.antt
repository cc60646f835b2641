use Rattle.std.proofs.Common.{◌+◌, ◌∷◌, ◌∙◌, arith, ap}
use Rattle.bus_line.specs.declared.cutter.TheConstants.{LAG}
use Rattle.bus_terminal.specs.Steps.{event_told}
use Rattle.bus_terminal.proofs.Nexts.{next-stands}
use Rattle.bus_terminal.proofs.state.act.Goals as goal

pub returns : goal.returns
returns c = λ terminal loads before past moment s order st is handled plan memory hear here may.
    next-stands LAG terminal loads before c.args.common c.perform-performed.new.memory past moment s order c.perform-performed.result
    c.supersede-superseded.result c.args.may_accept
    (c.args.now + 1) c.args.now c.stand.result c.told-event.result st is plan memory hear here may (omega arith)
    (c.perform-performed.ensures.does s order handled)
    (λ left heard on at. c.supersede-superseded.ensures terminal.address (moment ∷ past) left heard on at)
    c.stand.ensures
    (c.told-event.ensures ∙ ap (event_told c.args.now c.perform-performed.result.channel) c.take.ensures.value)
