use Rattle.std.proofs.Common.{sym, subst}
use Rattle.bus_line.specs.declared.cutter.TheConstants.{LAG}
use Rattle.bus_model.specs.Course.{take_control}
use Rattle.bus_controller.specs.Agendas.{AgendaData}
use Rattle.bus_controller.specs.Stands.{WaitStands}
use Rattle.bus_controller.specs.declared.opening.Opening.TheVariants as openings
use Rattle.bus_controller.proofs.Wholes.{taken-waits}
use Rattle.bus_controller.proofs.yielded.Yielded.take.Goals as goal

pub returns-clause-stands : goal.returns-clause-stands
returns-clause-stands c = λ course past st later.
    subst (λ (agenda : AgendaData). WaitStands (take_control c.args.first.0 course) past agenda (openings.Taking c.args.first))
    (sym c.take.ensures) (taken-waits LAG course past c.args.self c.args.first st later)
