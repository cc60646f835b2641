use Rattle.std.proofs.Common.{sym, subst}
use Rattle.bus_line.specs.declared.cutter.TheConstants.{LAG}
use Rattle.bus_controller.specs.Stands.{NextStands}
use Rattle.bus_controller.specs.declared.states.ControllerNext.{ControllerNext}
use Rattle.bus_controller.proofs.Doubts.{doubting-hears}
use Rattle.bus_controller.proofs.doubting.Doubting.hear.Goals as goal

pub returns-clause-stands : goal.returns-clause-stands
returns-clause-stands c = λ course shown past st is.
    subst (λ (next : ControllerNext). NextStands LAG course shown past next) (sym (c.doubt.ensures)) (rw is (doubting-hears LAG course shown past c.args.self st))
