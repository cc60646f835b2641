use Rattle.std.proofs.Common.{◌≡◌, List, ◌∷◌, length, refl, sym, ap, ◌∙◌, subst}
use Rattle.bus_base.specs.declared.samples.Tick.{Tick}
use Rattle.bus_line.specs.declared.cutter.TheConstants.{LAG}
use Rattle.bus_receiver.specs.declared.receiver.Moment.{Moment}
use Rattle.bus_model.specs.Hearing as hearing
use Rattle.bus_terminal.specs.TerminalStands.{TerminalHears}
use Rattle.bus_station.specs.Roles.{still_taking}
use Rattle.bus_station.specs.StationStands.{StationKeeps}
use Rattle.bus_station.proofs.Listening.{rested-keeps, rested-hears, hears-step, either-hears}
use Rattle.bus_station.proofs.Ticks.{made-more}
use Rattle.bus_station.proofs.Serving.{sofar}
use Rattle.bus_station.proofs.SoFar.{keeps}
use Rattle.bus_station.proofs.Holding.{rested, rested-next}
use Rattle.bus_station.proofs.station.Station.hold.Goals as goal

pub returns-then-stay-clause-tick : goal.returns-then-stay-clause-tick
unfolding StationKeeps
returns-then-stay-clause-tick c = λ plan starts loads outside past before after st on hears next.
    let s = sofar LAG plan starts loads outside past in
    let x = c.args.moment.now.shown in
    let at : c.tick-now.result.0 ≡ length past = ap (λ (t : Tick). t.0) (c.tick-now.ensures ∙ ap (λ (m : Moment). m.tick) next.is) in
    rested LAG plan starts loads outside c.args.self.now _ x past st on
    (c.stay.ensures.event plan starts s.takes past st.controller next.is c.if-stay.true)
    (c.stay.ensures.stands plan starts s.takes past st.controller next.is c.if-stay.true)
    (rested-keeps LAG plan.terminal loads c.args.self.now.terminal s.hearing (length past) ((keeps LAG plan starts loads outside past).deaf on)
    (made-more plan.terminal.address (length past) loads st.made) st.terminal)
    refl (c.still_taking-self.ensures ∙ ap (still_taking c.args.self.now.taking) at)

pub returns-then-stay-clause-hears : goal.returns-then-stay-clause-hears
unfolding StationKeeps
returns-then-stay-clause-hears c = λ plan starts loads outside past before after st on hears next.
    let s = sofar LAG plan starts loads outside past in
    let now = rested-next LAG plan starts loads outside c.args.moment.now.shown past on
    (c.stay.ensures.event plan starts s.takes past st.controller next.is c.if-stay.true) in
    subst (λ (ticks : List hearing.Moment). TerminalHears LAG c.args.self.now.terminal ticks) (sym now.0)
    (rested-hears LAG c.args.self.now.terminal s.hearing.ticks (length past) ((keeps LAG plan starts loads outside past).deaf on) hears)

pub returns-then-stay-clause-in_step : goal.returns-then-stay-clause-in_step
unfolding StationKeeps
returns-then-stay-clause-in_step c = λ plan starts loads outside past before after st on hears next.
    let s = sofar LAG plan starts loads outside past in
    let x = c.args.moment.now.shown in
    let now = rested-next LAG plan starts loads outside x past on
    (c.stay.ensures.event plan starts s.takes past st.controller next.is c.if-stay.true) in
    hears-step LAG plan starts loads outside _ after (x ∷ past)
    (either-hears LAG _ c.args.self.now.alone c.args.self.now after _
    (subst (λ (ticks : List hearing.Moment). TerminalHears LAG c.args.self.now.terminal ticks) (sym now.0)
    (rested-hears LAG c.args.self.now.terminal s.hearing.ticks (length past) ((keeps LAG plan starts loads outside past).deaf on) hears))
    (λ off free. (let held = now.1 in absurd (cc))))

pub change-requires : goal.change-requires
change-requires c = rw (c.stay.ensures.same c.if-stay.false) c.requires

pub returns-clause-tick : goal.returns-clause-tick
returns-clause-tick c = λ plan starts loads outside past before after st on hears next.
    c.change.ensures.tick plan starts loads outside past before after (rw (c.stay.ensures.same c.if-stay.false) st) on
    hears next

pub returns-clause-hears : goal.returns-clause-hears
returns-clause-hears c = λ plan starts loads outside past before after st on hears next.
    c.change.ensures.hears plan starts loads outside past before after (rw (c.stay.ensures.same c.if-stay.false) st) on
    hears next

pub returns-clause-in_step : goal.returns-clause-in_step
returns-clause-in_step c = λ plan starts loads outside past before after st on hears next.
    c.change.ensures.in_step plan starts loads outside past before after (rw (c.stay.ensures.same c.if-stay.false) st) on
    hears next
