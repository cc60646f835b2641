use Rattle.std.proofs.Common.{◌≡◌, List, ◌∷◌, length, refl, sym, ap, ◌∙◌, subst, arith}
use Rattle.bus_base.specs.declared.samples.Channel.TheVariants.{A, B}
use Rattle.bus_base.specs.declared.samples.Tick.{Tick}
use Rattle.bus_line.specs.declared.cutter.TheConstants.{LAG}
use Rattle.bus_receiver.specs.Cuts.{CuttersStand}
use Rattle.bus_receiver.specs.declared.receiver.Moment.{Moment}
use Rattle.bus_model.specs.Course.{course}
use Rattle.bus_model.specs.Hearing.{heard_on}
use Rattle.bus_model.specs.Hearing as hearing
use Rattle.bus_model.specs.Control.{is_yielded, moment_of}
use Rattle.bus_terminal.specs.TerminalStands.{TerminalStands, TerminalHears}
use Rattle.bus_controller.specs.ControllerStands.{ControllerKeeps}
use Rattle.bus_controller.specs.declared.controller.Controller.{Controller}
use Rattle.bus_station.specs.Roles.{still_taking}
use Rattle.bus_station.specs.StationStands.{StationKeeps}
use Rattle.bus_station.proofs.Listening.{rested-keeps, rested-hears, hears-step, either-hears, given-stand}
use Rattle.bus_station.proofs.Closed.{stands-both, closed-keeps, closed-hears}
use Rattle.bus_station.proofs.Ticks.{made-more}
use Rattle.bus_station.proofs.Serving.{sofar}
use Rattle.bus_station.proofs.SoFar.{keeps}
use Rattle.bus_station.proofs.Holding.{rested, closed, rested-next, closed-next}
use Rattle.bus_station.proofs.station.Station.change.Goals as goal

pub close-requires : goal.close-requires
unfolding StationKeeps TerminalStands
close-requires c =
    let (plan, starts, loads, outside, past, before, after, st, on, hears, next, small) = c.requires in
    let long = (keeps LAG plan starts loads outside past).long in
    let at = ap (λ (m : Moment). m.tick.0) next.is in
    (plan.terminal, loads, (sofar LAG plan starts loads outside past).hearing, (st.terminal, hears), omega (arith, long, at), omega (arith, at, small))

pub returns-in-Nothing-clause-tick : goal.returns-in-Nothing-clause-tick
unfolding StationKeeps
returns-in-Nothing-clause-tick c = λ plan starts loads outside past before after st on hears next.
    let s = sofar LAG plan starts loads outside past in
    let x = c.args.moment.now.shown in
    let at : c.tick-now.result.0 ≡ length past = ap (λ (t : Tick). t.0) (c.tick-now.ensures ∙ ap (λ (m : Moment). m.tick) next.is) in
    rested LAG plan starts loads outside c.args.self.now _ x past st on
    (c.in-Nothing.ensures.event plan starts s.takes past st.controller next.is)
    (c.in-Nothing.ensures.stands plan starts s.takes past st.controller next.is)
    (rested-keeps LAG plan.terminal loads c.args.self.now.terminal s.hearing (length past) ((keeps LAG plan starts loads outside past).deaf on)
    (made-more plan.terminal.address (length past) loads st.made) st.terminal)
    refl (c.still_taking-self.ensures ∙ ap (still_taking c.args.self.now.taking) at)

pub returns-in-Nothing-clause-hears : goal.returns-in-Nothing-clause-hears
unfolding StationKeeps
returns-in-Nothing-clause-hears c = λ plan starts loads outside past before after st on hears next.
    let s = sofar LAG plan starts loads outside past in
    let now = rested-next LAG plan starts loads outside c.args.moment.now.shown past on
    (c.in-Nothing.ensures.event plan starts s.takes past st.controller next.is) in
    subst (λ (ticks : List hearing.Moment). TerminalHears LAG c.args.self.now.terminal ticks) (sym now.0)
    (rested-hears LAG c.args.self.now.terminal s.hearing.ticks (length past) ((keeps LAG plan starts loads outside past).deaf on) hears)

pub returns-in-Nothing-clause-in_step : goal.returns-in-Nothing-clause-in_step
unfolding StationKeeps
returns-in-Nothing-clause-in_step c = λ plan starts loads outside past before after st on hears next.
    let s = sofar LAG plan starts loads outside past in
    let x = c.args.moment.now.shown in
    let now = rested-next LAG plan starts loads outside x past on (c.in-Nothing.ensures.event plan starts s.takes past st.controller next.is) in
    hears-step LAG plan starts loads outside _ after (x ∷ past)
    (either-hears LAG _ c.args.self.now.alone c.args.self.now after _
    (subst (λ (ticks : List hearing.Moment). TerminalHears LAG c.args.self.now.terminal ticks) (sym now.0)
    (rested-hears LAG c.args.self.now.terminal s.hearing.ticks (length past) ((keeps LAG plan starts loads outside past).deaf on) hears))
    (λ off free. (let held = now.1 in absurd (cc))))

pub returns-in-Ended-clause-tick : goal.returns-in-Ended-clause-tick
unfolding StationKeeps
returns-in-Ended-clause-tick c = λ plan starts loads outside past before after st on hears next.
    let s = sofar LAG plan starts loads outside past in
    let x = c.args.moment.now.shown in
    let at = ap (λ (m : Moment). m.tick.0) next.is in
    let here = (keeps LAG plan starts loads outside past).long ∙ sym at in
    let learned = c.in-Ended.ensures.stands plan starts s.takes past st.controller next.is in
    closed LAG plan starts loads outside c.args.self.now _ x past c.in-Ended.attempt st on
    (c.in-Ended.ensures.event plan starts s.takes past st.controller next.is)
    (subst (λ (value : Controller). ControllerKeeps LAG plan starts s.takes value (x ∷ past)) (sym c.close.ensures.controller) learned)
    (closed-keeps LAG plan.terminal loads c.args.self.now.terminal c.close.new.self.terminal s.hearing (length past)
    (is_yielded c.in-Ended.attempt.outcome) _ ((keeps LAG plan starts loads outside past).deaf on)
    (made-more plan.terminal.address (length past) loads st.made) st.terminal hears
    (λ y. c.close.ensures.yields plan.terminal loads s.hearing plan starts s.takes (x ∷ past) y (stands-both LAG plan.terminal loads c.args.self.now.terminal s.hearing st.terminal hears) here learned)
    c.close.ensures.rests)
    c.close.ensures.address refl

pub returns-in-Ended-clause-hears : goal.returns-in-Ended-clause-hears
unfolding StationKeeps
returns-in-Ended-clause-hears c = λ plan starts loads outside past before after st on hears next.
    let s = sofar LAG plan starts loads outside past in
    let x = c.args.moment.now.shown in
    let at = ap (λ (m : Moment). m.tick.0) next.is in
    let here = (keeps LAG plan starts loads outside past).long ∙ sym at in
    let learned = c.in-Ended.ensures.stands plan starts s.takes past st.controller next.is in
    let now = closed-next LAG plan starts loads outside x past c.in-Ended.attempt on
    (c.in-Ended.ensures.event plan starts s.takes past st.controller next.is) in
    subst (λ (ticks : List hearing.Moment). TerminalHears LAG c.close.new.self.terminal ticks) (sym now)
    (closed-hears LAG plan.terminal loads c.args.self.now.terminal c.close.new.self.terminal s.hearing (length past)
    (is_yielded c.in-Ended.attempt.outcome) _ ((keeps LAG plan starts loads outside past).deaf on) hears
    (λ y. c.close.ensures.yields plan.terminal loads s.hearing plan starts s.takes (x ∷ past) y (stands-both LAG plan.terminal loads c.args.self.now.terminal s.hearing st.terminal hears) here learned)
    c.close.ensures.rests)

pub returns-in-Ended-clause-in_step : goal.returns-in-Ended-clause-in_step
unfolding StationKeeps
returns-in-Ended-clause-in_step c = λ plan starts loads outside past before after st on hears next.
    let s = sofar LAG plan starts loads outside past in
    let x = c.args.moment.now.shown in
    let at = ap (λ (m : Moment). m.tick.0) next.is in
    let here = (keeps LAG plan starts loads outside past).long ∙ sym at in
    let learned = c.in-Ended.ensures.stands plan starts s.takes past st.controller next.is in
    let deaf = (keeps LAG plan starts loads outside past).deaf on in
    let y = is_yielded c.in-Ended.attempt.outcome in
    let now = closed-next LAG plan starts loads outside x past c.in-Ended.attempt on
    (c.in-Ended.ensures.event plan starts s.takes past st.controller next.is) in
    hears-step LAG plan starts loads outside _ after (x ∷ past)
    (either-hears LAG _ c.close.new.self.alone c.close.new.self after _
    (subst (λ (ticks : List hearing.Moment). TerminalHears LAG c.close.new.self.terminal ticks) (sym now)
    (closed-hears LAG plan.terminal loads c.args.self.now.terminal c.close.new.self.terminal s.hearing (length past) y _ deaf hears
    (λ yes. c.close.ensures.yields plan.terminal loads s.hearing plan starts s.takes (x ∷ past) yes (stands-both LAG plan.terminal loads c.args.self.now.terminal s.hearing st.terminal hears) here learned)
    c.close.ensures.rests))
    (λ off free. subst (λ (ticks : List hearing.Moment). CuttersStand LAG after (heard_on A ticks) (heard_on B ticks)) (sym now)
    (given-stand LAG c.args.moment.now before after past (moment_of x (course LAG plan starts s.takes (x ∷ past))) s.hearing.ticks (length past) y next deaf refl
    (sym c.close.ensures.alone ∙ free))))
