use Rattle.std.proofs.Common.{◌≡◌, suc, List, ◌∷◌, length, refl, sym, ap, ◌∙◌, subst, arith}
use Rattle.bus_base.specs.declared.samples.Tick.{Tick}
use Rattle.bus_line.specs.declared.cutter.TheConstants.{LAG}
use Rattle.bus_receiver.specs.declared.receiver.Moment.{Moment}
use Rattle.bus_model.specs.Course.{Course}
use Rattle.bus_model.specs.Hearing.{Hearing}
use Rattle.bus_model.specs.Hearing as hearing
use Rattle.bus_model.specs.Terminal.{accepted_now}
use Rattle.bus_model.specs.Control.{hear_more, moment_of}
use Rattle.bus_terminal.specs.Stands.{AcceptedIs}
use Rattle.bus_terminal.specs.TerminalStands.{TerminalStands, TerminalHears}
use Rattle.bus_terminal.specs.declared.state.TerminalEvent.{TerminalEvent}
use Rattle.bus_terminal.specs.declared.state.TerminalEvent.TheVariants as heards
use Rattle.bus_controller.specs.ControllerStands.{ControllerKeeps}
use Rattle.bus_controller.specs.declared.controller.Controller.{Controller}
use Rattle.bus_controller.proofs.Serving.{serving-keeps}
use Rattle.bus_station.specs.Listening.{HearsBy}
use Rattle.bus_station.specs.StationStands.{StationKeeps}
use Rattle.bus_station.proofs.Courses.{serves-more}
use Rattle.bus_station.proofs.Listening.{off-hears, on-hears, hears-same}
use Rattle.bus_station.proofs.SoFar.{keeps}
use Rattle.bus_station.proofs.Ticks.{delivery_heard, none-accepted, some-end, accepted-end, made-more}
use Rattle.bus_station.proofs.Serving.{sofar, before, served, served-next, took-over, took-next, accepted-left}
use Rattle.bus_station.proofs.station.Station.settle.Goals as goal

pub heed-requires : goal.heed-requires
heed-requires c = c.requires

pub first_command-requires : goal.first_command-requires
first_command-requires c =
    let (plan, starts, loads, outside, past, own, was, old, new, m, next, small) = c.requires in
    let st = m.kept in
    let off = m.off in
    let at = ap (λ (t : Tick). t.0) (c.tick-now.ensures ∙ ap (λ (m : Moment). m.tick) next.is) in
    omega (arith, small, at)

pub take_over-requires : goal.take_over-requires
unfolding StationKeeps
take_over-requires c =
    let (plan, starts, loads, outside, past, own, was, old, new, m, next, small) = c.requires in
    let st = m.kept in
    let off = m.off in
    let x = c.args.moment.now.shown in
    let at = ap (λ (t : Tick). t.0) (c.tick-now.ensures ∙ ap (λ (m : Moment). m.tick) next.is) in
    let heard = c.heed.ensures.terminal plan starts loads outside past own was old new m next in
    let (end, accepted) = some-end _ (subst (λ (e : TerminalEvent). AcceptedIs e (accepted_now LAG plan.terminal loads
    (hear_more (sofar LAG plan starts loads outside past).hearing
    (moment_of x (before LAG plan starts loads outside past))))) c.in-Accepted.is heard.accepted) in
    let same = serves-more LAG plan starts (sofar LAG plan starts loads outside past).takes x past
    (keeps LAG plan starts loads outside past).later off in (
      plan,
      starts,
      (sofar LAG plan starts loads outside past).takes,
      x ∷ past,
      subst (λ (value : Controller). ControllerKeeps LAG plan starts (sofar LAG plan starts loads outside past).takes value (x ∷ past))
          (sym (c.heed.ensures.controller ∙ m.controller))
          (serving-keeps plan starts (sofar LAG plan starts loads outside past).takes was.controller x past st.controller off),
      ap (λ (d : Course). d.holds) same ∙ off,
      λ none. accepted-left LAG plan starts loads outside x past end off accepted (sym (ap (λ (d : Course). d.left) same) ∙ none),
      omega (arith, at, c.first_command.ensures),
    )

pub returns-in-Nothing-clause-tick : goal.returns-in-Nothing-clause-tick
unfolding StationKeeps
returns-in-Nothing-clause-tick c = λ plan starts loads outside past own was old new m next.
    let st = m.kept in
    let off = m.off in
    let x = c.args.moment.now.shown in
    let heard = c.heed.ensures.terminal plan starts loads outside past own was old new m next in
    served LAG plan starts loads outside was _ c.heed.result _ x past st off
    (none-accepted c.heed.result _ (λ e. (let no : heards.Nothing ≡ heards.Accepted = sym c.in-Nothing.is ∙ e in cc)) heard.accepted)
    (subst (λ (value : Controller). ControllerKeeps LAG plan starts (sofar LAG plan starts loads outside past).takes value (x ∷ past))
    (sym (c.heed.ensures.controller ∙ m.controller))
    (serving-keeps plan starts (sofar LAG plan starts loads outside past).takes was.controller x past st.controller off))
    heard (c.heed.ensures.address ∙ m.address) (c.heed.ensures.taking ∙ m.taking) refl (sym (ap delivery_heard c.in-Nothing.is))

pub returns-in-Took-clause-tick : goal.returns-in-Took-clause-tick
unfolding StationKeeps
returns-in-Took-clause-tick c = λ plan starts loads outside past own was old new m next.
    let st = m.kept in
    let off = m.off in
    let x = c.args.moment.now.shown in
    let heard = c.heed.ensures.terminal plan starts loads outside past own was old new m next in
    served LAG plan starts loads outside was _ c.heed.result _ x past st off
    (none-accepted c.heed.result _ (λ e. (let no : heards.Took c.in-Took.delivery ≡ heards.Accepted = sym c.in-Took.is ∙ e in cc)) heard.accepted)
    (subst (λ (value : Controller). ControllerKeeps LAG plan starts (sofar LAG plan starts loads outside past).takes value (x ∷ past))
    (sym (c.heed.ensures.controller ∙ m.controller))
    (serving-keeps plan starts (sofar LAG plan starts loads outside past).takes was.controller x past st.controller off))
    heard (c.heed.ensures.address ∙ m.address) (c.heed.ensures.taking ∙ m.taking) refl (sym (ap delivery_heard c.in-Took.is))

pub returns-in-Accepted-clause-tick : goal.returns-in-Accepted-clause-tick
unfolding StationKeeps TerminalStands
returns-in-Accepted-clause-tick c = λ plan starts loads outside past own was old new m next.
    let st = m.kept in
    let off = m.off in
    let x = c.args.moment.now.shown in
    let s = sofar LAG plan starts loads outside past in
    let kept = keeps LAG plan starts loads outside past in
    let at = ap (λ (t : Tick). t.0) (c.tick-now.ensures ∙ ap (λ (m : Moment). m.tick) next.is) in
    let next_at = ap (λ (t : Tick). t.0) (c.next-next.ensures ∙ ap (λ (m : Moment). m.next) next.is) in
    let heard = c.heed.ensures.terminal plan starts loads outside past own was old new m next in
    let (end, accepted) = some-end _ (subst (λ (e : TerminalEvent). AcceptedIs e (accepted_now LAG plan.terminal loads
    (hear_more s.hearing (moment_of x (before LAG plan starts loads outside past))))) c.in-Accepted.is heard.accepted) in
    let same = serves-more LAG plan starts s.takes x past kept.later off in
    let known = accepted-end LAG plan.terminal loads (moment_of x (before LAG plan starts loads outside past)) s.hearing end accepted in
    took-over LAG plan starts loads outside was c.take_over.new.self c.heed.result _ x past _ end c.first_command.result.0 st off
    accepted
    (omega (arith, known, kept.long, at, c.first_command.ensures)) (omega (arith, at, c.first_command.ensures))
    (c.take_over.ensures.controller plan starts s.takes (x ∷ past)
    (subst (λ (value : Controller). ControllerKeeps LAG plan starts s.takes value (x ∷ past)) (sym (c.heed.ensures.controller ∙ m.controller))
    (serving-keeps plan starts s.takes was.controller x past st.controller off))
    (ap (λ (d : Course). d.holds) same ∙ off) (omega (arith, at, c.first_command.ensures)) next_at
    (c.quiet-quiet.ensures ∙ ap (λ (m : Moment). m.quiet) next.is))
    heard
    (c.take_over.ensures.terminal plan.terminal loads _ (suc (length past)) heard.stands (made-more plan.terminal.address (length past) loads st.made)).0
    (c.take_over.ensures.address ∙ c.heed.ensures.address ∙ m.address) c.take_over.ensures.taking refl (sym (ap delivery_heard c.in-Accepted.is))

pub returns-in-Nothing-clause-hears : goal.returns-in-Nothing-clause-hears
unfolding StationKeeps
returns-in-Nothing-clause-hears c = λ plan starts loads outside past own was old new m next.
    let st = m.kept in
    let off = m.off in
    let x = c.args.moment.now.shown in
    let heard = c.heed.ensures.terminal plan starts loads outside past own was old new m next in
    let now = served-next LAG plan starts loads outside x past st.taken off
    (none-accepted c.heed.result _ (λ e. (let no : heards.Nothing ≡ heards.Accepted = sym c.in-Nothing.is ∙ e in cc)) heard.accepted) in
    off-hears LAG _ own c.heed.new.self new _ now.1
    (subst (λ (h : Hearing). HearsBy LAG own c.heed.new.self new h.ticks) (sym now.0)
    (hears-same LAG own c.args.self.now c.heed.new.self new
    (moment_of x (before LAG plan starts loads outside past) ∷ (sofar LAG plan starts loads outside past).hearing.ticks) c.heed.ensures.cutters m.hears))

pub returns-in-Took-clause-hears : goal.returns-in-Took-clause-hears
unfolding StationKeeps
returns-in-Took-clause-hears c = λ plan starts loads outside past own was old new m next.
    let st = m.kept in
    let off = m.off in
    let x = c.args.moment.now.shown in
    let heard = c.heed.ensures.terminal plan starts loads outside past own was old new m next in
    let now = served-next LAG plan starts loads outside x past st.taken off
    (none-accepted c.heed.result _ (λ e. (let no : heards.Took c.in-Took.delivery ≡ heards.Accepted = sym c.in-Took.is ∙ e in cc)) heard.accepted) in
    off-hears LAG _ own c.heed.new.self new _ now.1
    (subst (λ (h : Hearing). HearsBy LAG own c.heed.new.self new h.ticks) (sym now.0)
    (hears-same LAG own c.args.self.now c.heed.new.self new
    (moment_of x (before LAG plan starts loads outside past) ∷ (sofar LAG plan starts loads outside past).hearing.ticks) c.heed.ensures.cutters m.hears))

pub returns-in-Accepted-clause-hears : goal.returns-in-Accepted-clause-hears
unfolding StationKeeps TerminalStands
returns-in-Accepted-clause-hears c = λ plan starts loads outside past own was old new m next.
    let st = m.kept in
    let off = m.off in
    let x = c.args.moment.now.shown in
    let s = sofar LAG plan starts loads outside past in
    let kept = keeps LAG plan starts loads outside past in
    let at = ap (λ (t : Tick). t.0) (c.tick-now.ensures ∙ ap (λ (m : Moment). m.tick) next.is) in
    let heard = c.heed.ensures.terminal plan starts loads outside past own was old new m next in
    let (end, accepted) = some-end _ (subst (λ (e : TerminalEvent). AcceptedIs e (accepted_now LAG plan.terminal loads
    (hear_more s.hearing (moment_of x (before LAG plan starts loads outside past))))) c.in-Accepted.is heard.accepted) in
    let known = accepted-end LAG plan.terminal loads (moment_of x (before LAG plan starts loads outside past)) s.hearing end accepted in
    let now = took-next LAG plan starts loads outside x past end c.first_command.result.0 st.taken off accepted
    (omega (arith, known, kept.long, at, c.first_command.ensures)) in
    on-hears LAG _ own c.take_over.new.self new _ now.1
    (subst (λ (ticks : List hearing.Moment). TerminalHears LAG c.take_over.new.self.terminal ticks) (sym now.0)
    (c.take_over.ensures.terminal plan.terminal loads _ (suc (length past)) heard.stands (made-more plan.terminal.address (length past) loads st.made)).1)
