use Rattle.std.proofs.Common.{◌≡◌, ◌∷◌, length, sym, ap, ◌∙◌, subst, arith, if◌then◌else◌}
use Rattle.bus_base.specs.declared.samples.Channel.TheVariants.{A, B}
use Rattle.bus_base.specs.declared.samples.Pair.{Pair}
use Rattle.bus_base.specs.declared.samples.Tick.{Tick}
use Rattle.bus_line.specs.declared.cutter.TheConstants.{LAG}
use Rattle.bus_receiver.specs.Cuts.{CuttersStand}
use Rattle.bus_receiver.specs.declared.cutters.Cutters.{Cutters}
use Rattle.bus_receiver.specs.declared.receiver.Moment.{Moment}
use Rattle.bus_model.specs.Hearing.{heard_on}
use Rattle.bus_terminal.specs.Holding.{AreCuts}
use Rattle.bus_terminal.proofs.Resting.{keeps-alike}
use Rattle.bus_station.specs.StationStands.{StationKeeps}
use Rattle.bus_model.specs.Course.{course}
use Rattle.bus_model.specs.Starts.{has_items}
use Rattle.bus_station.specs.Amid.{HeardUpTo}
use Rattle.bus_station.proofs.SoFar.{keeps}
use Rattle.bus_station.proofs.Serving.{sofar}
use Rattle.bus_station.proofs.station.Station.listen.Goals as goal

pub cuts-cuts-requires : goal.cuts-cuts-requires
cuts-cuts-requires c =
    let (plan, starts, loads, outside, past, before, after, st, off, hears, next, small) = c.requires in
    ((sofar LAG plan starts loads outside past).hearing.ticks, before, hears, omega (arith, (keeps LAG plan starts loads outside past).long, small))

pub listen-requires : goal.listen-requires
unfolding StationKeeps
listen-requires c =
    let (plan, starts, loads, outside, past, before, after, st, off, hears, next, small) = c.requires in
    let s = sofar LAG plan starts loads outside past in
    let long = (keeps LAG plan starts loads outside past).long in
    let at = ap (λ (t : Tick). t.0) (c.tick-now.ensures ∙ ap (λ (m : Moment). m.tick) next.is) in (
      plan.terminal,
      loads,
      s.hearing,
      keeps-alike LAG plan.terminal loads c.args.self.now.terminal c.cuts-cuts.new.self.terminal s.hearing c.cuts-cuts.ensures.state st.terminal,
      subst (λ (x : Pair). AreCuts LAG c.cuts-cuts.result x s.hearing.ticks) (sym c.shown-shown.ensures)
          ((c.cuts-cuts.ensures.hears before after next.hears).tells (heard_on A s.hearing.ticks) (heard_on B s.hearing.ticks) hears),
      omega (arith, long, at),
      omega (arith, small, at),
    )

pub returns-clause-terminal : goal.returns-clause-terminal
unfolding StationKeeps
returns-clause-terminal c = λ plan starts loads outside past before after st off hears next.
    let s = sofar LAG plan starts loads outside past in
    let long = (keeps LAG plan starts loads outside past).long in
    let at : c.tick-now.result.0 ≡ length past = ap (λ (t : Tick). t.0) (c.tick-now.ensures ∙ ap (λ (m : Moment). m.tick) next.is) in
    let kept = keeps-alike LAG plan.terminal loads c.args.self.now.terminal c.cuts-cuts.new.self.terminal s.hearing c.cuts-cuts.ensures.state st.terminal in
    let are : AreCuts LAG c.cuts-cuts.result c.shown-shown.result s.hearing.ticks =
    subst (λ (x : Pair). AreCuts LAG c.cuts-cuts.result x s.hearing.ticks) (sym c.shown-shown.ensures)
    ((c.cuts-cuts.ensures.hears before after next.hears).tells (heard_on A s.hearing.ticks) (heard_on B s.hearing.ticks) hears) in
    let may = has_items (course LAG plan starts s.takes past).left in
    subst (λ (x : Pair). HeardUpTo LAG plan.terminal loads c.listen.new.self c.listen.result s.hearing (record { shown = x; has_items = may }))
    c.shown-shown.ensures (c.listen.ensures.listened plan.terminal loads s.hearing may kept are (long ∙ sym at))

pub returns-clause-hears : goal.returns-clause-hears
returns-clause-hears c = λ plan starts loads outside past before after st off hears next.
    let ticks = (sofar LAG plan starts loads outside past).hearing.ticks in
    subst (λ (cutters : Cutters). CuttersStand LAG (if c.args.own then cutters else after) (c.args.moment.now.shown.a ∷ heard_on A ticks)
    (c.args.moment.now.shown.b ∷ heard_on B ticks)) (sym c.listen.ensures.cutters)
    ((c.cuts-cuts.ensures.hears before after next.hears).stands (heard_on A ticks) (heard_on B ticks) hears)
