use Rattle.std.proofs.Common.{List, ◌∷◌, suc, length, refl, sym, subst, arith}
use Rattle.bus_line.specs.declared.cutter.TheConstants.{LAG}
use Rattle.bus_model.specs.Hearing.{Moment}
use Rattle.bus_terminal.specs.TerminalStands.{TerminalHears}
use Rattle.bus_station.specs.StationStands.{StationStands, StationKeeps}
use Rattle.bus_station.proofs.Closed.{both-stand}
use Rattle.bus_station.proofs.Own.{controls, controlled}
use Rattle.bus_station.proofs.Serving.{sofar}
use Rattle.bus_station.proofs.Outside.{took-itself, itself-rests}
use Rattle.bus_station.proofs.station.Station.take.Goals as goal

pub take-requires : goal.take-requires
unfolding StationStands StationKeeps
take-requires c =
    let (plan, starts, loads, outside, shown, past, st, off, after, left, early) = c.requires in (
      plan,
      starts,
      (sofar LAG plan starts loads outside (shown ∷ past)).takes,
      shown ∷ past,
      controls LAG plan starts _ c.args.self.now.controller (shown ∷ past) st.1.receiver st.0.controller,
      after,
      left,
      omega (arith, early),
    )

pub returns-clause-stands : goal.returns-clause-stands
unfolding StationStands StationKeeps
returns-clause-stands c = λ plan starts loads outside shown past st off after early.
    let s = sofar LAG plan starts loads outside (shown ∷ past) in
    let woken = both-stand LAG plan.terminal loads c.wake.new.self _
    (c.wake.ensures plan.terminal loads s.hearing (suc (length past)) st.0.terminal st.0.made) in
    let taken = controlled LAG plan starts _ c.take.new.self (shown ∷ past)
    (c.take.ensures plan starts s.takes (shown ∷ past) (controls LAG plan starts _ c.args.self.now.controller (shown ∷ past) st.1.receiver st.0.controller)
    after (omega (arith, early))) in (
      took-itself LAG plan starts loads c.args.self.now _ outside shown past c.args.first.0 st.0 off after (omega (arith, early)) refl refl
          taken.1 woken.0,
      record {
        receiver = taken.0;
        cutters = subst (λ (ticks : List Moment). TerminalHears LAG c.wake.new.self ticks)
            (sym (itself-rests LAG plan starts loads outside shown past c.args.first.0 off after)) woken.1;
      },
    )
