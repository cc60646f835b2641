use Rattle.std.proofs.Common.{ℕ, sym, ap, ◌∙◌, subst, arith}
use Rattle.bus_base.specs.declared.samples.Tick.{Tick}
use Rattle.bus_line.specs.declared.cutter.TheConstants.{LAG}
use Rattle.bus_formats.specs.Times.{settling_quiet}
use Rattle.bus_controller.specs.declared.opening.Opening.TheVariants as openings
use Rattle.bus_controller.specs.Steps.{going, waits}
use Rattle.bus_controller.specs.Stands.{NextStands}
use Rattle.bus_controller.specs.declared.states.ControllerNext.{ControllerNext}
use Rattle.bus_controller.proofs.StateLaws.{settling-hears}
use Rattle.bus_controller.proofs.settling.Settling.hear.Goals as goal

pub returns-clause-stands : goal.returns-clause-stands
returns-clause-stands c = λ course shown past st is.
    subst (λ (next : ControllerNext). NextStands LAG course shown past next)
    (sym (c.going.ensures ∙ ap going (c.wait.ensures
    ∙ ap (λ (t : Tick). waits c.args.self.agenda (openings.Usual settling_quiet) t.0 c.quiet.result) c.next.ensures
    ∙ ap (λ (n : ℕ). waits c.args.self.agenda (openings.Usual settling_quiet) c.args.moment.next.0 n) c.quiet.ensures)))
    (rw is (settling-hears LAG (omega arith) course shown past c.args.self st))
