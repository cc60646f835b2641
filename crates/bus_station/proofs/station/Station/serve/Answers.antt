use Rattle.std.proofs.Common.{◌≡◌, suc, List, ◌∷◌, length, refl, sym, ap, ◌∙◌, subst, arith}
use Rattle.bus_base.specs.declared.samples.Tick.{Tick}
use Rattle.bus_line.specs.declared.cutter.TheConstants.{LAG}
use Rattle.bus_receiver.specs.declared.receiver.Moment.{Moment}
use Rattle.bus_model.specs.Course.{Course}
use Rattle.bus_model.specs.Hearing.{Hearing}
use Rattle.bus_model.specs.Hearing as hearing
use Rattle.bus_model.specs.Terminal.{accepted_now}
use Rattle.bus_model.specs.Control.{hear_more, moment_of}
use Rattle.bus_terminal.specs.Stands.{AcceptedIs}
use Rattle.bus_terminal.specs.TerminalStands.{TerminalStands, TerminalHears}
use Rattle.bus_terminal.specs.declared.state.TerminalEvent.{TerminalEvent}
use Rattle.bus_terminal.specs.declared.state.TerminalEvent.TheVariants as heards
use Rattle.bus_controller.specs.ControllerStands.{ControllerKeeps}
use Rattle.bus_controller.specs.declared.controller.Controller.{Controller}
use Rattle.bus_controller.proofs.Serving.{serving-keeps}
use Rattle.bus_station.specs.Listening.{HearsBy}
use Rattle.bus_station.specs.StationStands.{StationKeeps}
use Rattle.bus_station.proofs.Courses.{serves-more}
use Rattle.bus_station.proofs.Listening.{off-hears, on-hears}
use Rattle.bus_station.proofs.SoFar.{keeps}
use Rattle.bus_station.proofs.Heeded.{heard-whole}
use Rattle.bus_station.specs.Amid.{HeardUpTo, IsAmid}
use Rattle.bus_terminal.specs.declared.state.Step.{Step}
use Rattle.bus_station.proofs.Ticks.{delivery_heard, none-accepted, some-end, accepted-end, made-more}
use Rattle.bus_station.proofs.Serving.{sofar, before, served, served-next, took-over, took-next, accepted-left}
use Rattle.bus_station.proofs.station.Station.serve.Goals as goal

pub listen-requires : goal.listen-requires
listen-requires c = c.requires

pub settle-requires : goal.settle-requires
settle-requires c =
    let (plan, starts, loads, outside, past, old, new, st, off, hears, next, small) = c.requires in (
      plan,
      starts,
      loads,
      outside,
      past,
      c.args.own,
      c.args.self.now,
      old,
      new,
      record {
        kept = st;
        off = off;
        heard = subst (λ (step : Step). HeardUpTo LAG plan.terminal loads c.listen.new.self.terminal step (sofar LAG plan starts loads outside past).hearing
            (moment_of c.args.moment.now.shown (before LAG plan starts loads outside past))) c.in-Changes.is
            (c.listen.ensures.terminal plan starts loads outside past old new st off hears next);
        hears = c.listen.ensures.hears plan starts loads outside past old new st off hears next;
        address = c.listen.ensures.address;
        taking = c.listen.ensures.taking;
        controller = c.listen.ensures.controller;
      },
      next,
      small,
    )

pub returns-in-Stays-clause-tick : goal.returns-in-Stays-clause-tick
unfolding StationKeeps
returns-in-Stays-clause-tick c = λ plan starts loads outside past old new st off hears next.
    let x = c.args.moment.now.shown in
    let heard = heard-whole LAG plan.terminal loads c.listen.new.self.terminal heards.Nothing (length past) (sofar LAG plan starts loads outside past).hearing
    (moment_of x (before LAG plan starts loads outside past)) (keeps LAG plan starts loads outside past).long
    (subst (λ (step : Step). HeardUpTo LAG plan.terminal loads c.listen.new.self.terminal step (sofar LAG plan starts loads outside past).hearing
    (moment_of x (before LAG plan starts loads outside past))) c.in-Stays.is
    (c.listen.ensures.terminal plan starts loads outside past old new st off hears next)) in
    served LAG plan starts loads outside c.args.self.now _ heards.Nothing _ x past st off
    (none-accepted heards.Nothing _ (λ e. (let no : heards.Nothing ≡ heards.Accepted = e in cc)) heard.accepted)
    (subst (λ (value : Controller). ControllerKeeps LAG plan starts (sofar LAG plan starts loads outside past).takes value (x ∷ past))
    (sym c.listen.ensures.controller)
    (serving-keeps plan starts (sofar LAG plan starts loads outside past).takes c.args.self.now.controller x past st.controller off))
    heard c.listen.ensures.address c.listen.ensures.taking refl refl

pub returns-in-Stays-clause-hears : goal.returns-in-Stays-clause-hears
unfolding StationKeeps
returns-in-Stays-clause-hears c = λ plan starts loads outside past old new st off hears next.
    let x = c.args.moment.now.shown in
    let heard = heard-whole LAG plan.terminal loads c.listen.new.self.terminal heards.Nothing (length past) (sofar LAG plan starts loads outside past).hearing
    (moment_of x (before LAG plan starts loads outside past)) (keeps LAG plan starts loads outside past).long
    (subst (λ (step : Step). HeardUpTo LAG plan.terminal loads c.listen.new.self.terminal step (sofar LAG plan starts loads outside past).hearing
    (moment_of x (before LAG plan starts loads outside past))) c.in-Stays.is
    (c.listen.ensures.terminal plan starts loads outside past old new st off hears next)) in
    let now = served-next LAG plan starts loads outside x past st.taken off (none-accepted heards.Nothing _ (λ e. (let no : heards.Nothing ≡ heards.Accepted = e in cc)) heard.accepted) in
    off-hears LAG _ c.args.own c.listen.new.self new _ now.1
    (subst (λ (h : Hearing). HearsBy LAG c.args.own c.listen.new.self new h.ticks) (sym now.0)
    (c.listen.ensures.hears plan starts loads outside past old new st off hears next))

pub returns-in-Changes-clause-tick : goal.returns-in-Changes-clause-tick
returns-in-Changes-clause-tick c = λ plan starts loads outside past old new st off hears next.
    c.settle.ensures.tick plan starts loads outside past c.args.own c.args.self.now old new record {
      kept = st;
      off = off;
      heard = subst (λ (step : Step). HeardUpTo LAG plan.terminal loads c.listen.new.self.terminal step (sofar LAG plan starts loads outside past).hearing
          (moment_of c.args.moment.now.shown (before LAG plan starts loads outside past))) c.in-Changes.is
          (c.listen.ensures.terminal plan starts loads outside past old new st off hears next);
      hears = c.listen.ensures.hears plan starts loads outside past old new st off hears next;
      address = c.listen.ensures.address;
      taking = c.listen.ensures.taking;
      controller = c.listen.ensures.controller;
    } next

pub returns-in-Changes-clause-hears : goal.returns-in-Changes-clause-hears
returns-in-Changes-clause-hears c = λ plan starts loads outside past old new st off hears next.
    c.settle.ensures.hears plan starts loads outside past c.args.own c.args.self.now old new record {
      kept = st;
      off = off;
      heard = subst (λ (step : Step). HeardUpTo LAG plan.terminal loads c.listen.new.self.terminal step (sofar LAG plan starts loads outside past).hearing
          (moment_of c.args.moment.now.shown (before LAG plan starts loads outside past))) c.in-Changes.is
          (c.listen.ensures.terminal plan starts loads outside past old new st off hears next);
      hears = c.listen.ensures.hears plan starts loads outside past old new st off hears next;
      address = c.listen.ensures.address;
      taking = c.listen.ensures.taking;
      controller = c.listen.ensures.controller;
    } next
