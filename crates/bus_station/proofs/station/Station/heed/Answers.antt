use Rattle.std.proofs.Common.{◌≡◌, ◌∷◌, length, sym, ap, ◌∙◌, subst, arith}
use Rattle.bus_base.specs.declared.samples.Tick.{Tick}
use Rattle.bus_line.specs.declared.cutter.TheConstants.{LAG}
use Rattle.bus_receiver.specs.declared.receiver.Moment.{Moment}
use Rattle.bus_model.specs.Control.{moment_of}
use Rattle.bus_model.specs.Terminal.{standing}
use Rattle.bus_controller.specs.ControllerStands.{ControllerKeeps}
use Rattle.bus_controller.specs.declared.controller.Controller.{Controller}
use Rattle.bus_station.specs.StationStands.{StationKeeps}
use Rattle.bus_station.proofs.Heeded.{heard-whole}
use Rattle.bus_station.proofs.SoFar.{keeps}
use Rattle.bus_station.proofs.Serving.{sofar, before}
use Rattle.bus_station.proofs.station.Station.heed.Goals as goal

pub settle-requires : goal.settle-requires
settle-requires c =
    let (plan, starts, loads, outside, past, own, was, old, new, m, next, small) = c.requires in
    let s = sofar LAG plan starts loads outside past in
    let long = (keeps LAG plan starts loads outside past).long in
    let at = ap (λ (t : Tick). t.0) (c.tick-now.ensures ∙ ap (λ (m : Moment). m.tick) next.is) in (
      plan.terminal,
      loads,
      s.hearing.ticks,
      moment_of c.args.moment.now.shown (before LAG plan starts loads outside past),
      standing LAG plan.terminal loads s.hearing.memory s.hearing.ticks,
      m.heard,
      omega (arith, long, at),
      omega (arith, small, at),
    )

pub returns-clause-terminal : goal.returns-clause-terminal
unfolding StationKeeps
returns-clause-terminal c = λ plan starts loads outside past own was old new m next.
    let s = sofar LAG plan starts loads outside past in
    let long = (keeps LAG plan starts loads outside past).long in
    let at : c.tick-now.result.0 ≡ length past = ap (λ (t : Tick). t.0) (c.tick-now.ensures ∙ ap (λ (m : Moment). m.tick) next.is) in
    let now = moment_of c.args.moment.now.shown (before LAG plan starts loads outside past) in
    heard-whole LAG plan.terminal loads c.settle.new.self c.settle.result (length past) s.hearing now long
    (c.settle.ensures.next plan.terminal loads s.hearing.ticks now (standing LAG plan.terminal loads s.hearing.memory s.hearing.ticks) m.heard
    (long ∙ sym at) (sym c.shown-shown.ensures)
    (sym (c.has_items-may_accept.ensures plan starts s.takes past
    (subst (λ (value : Controller). ControllerKeeps LAG plan starts s.takes value past) (sym m.controller) m.kept.controller))))
