use Rattle.std.proofs.Common.{◌∷◌, ◌++◌, ◌∙◌, [], suc, map, length, ap, sym, arith, subst, add-one}
use Rattle.bus_base.specs.declared.samples.Pair.{Pair}
use Rattle.bus_run.specs.Amounts.{most_attempts}
use Rattle.bus_run.specs.Deliveries.{taken_in}
use Rattle.bus_run.specs.Joined.{JoinedStands}
use Rattle.bus_run.specs.Parts.{StationsStandIn}
use Rattle.bus_run.specs.StationRows.{RowKeeps, ended_in, count_after}
use Rattle.bus_run.proofs.CalledLaws.{called-named}
use Rattle.bus_run.proofs.JoinedLaws.{nobody-serves, nobody-few}
use Rattle.bus_run.proofs.joined.JoinedBus.tick.Goals as goal

pub show-shown-requires : goal.show-shown-requires
unfolding JoinedStands
show-shown-requires c =
    let (w, found, count, trace, st, few, small) = c.requires in
    let ticks = st.driven_are in (
      w,
      trace.shown,
      trace.driven,
      subst (λ ss. StationsStandIn w ss trace.shown) (sym c.stations.ensures) st.row.stations,
      called-named _ _ _ _ _ _ st.row.present_are c.stations.ensures c.places.ensures st.row.calls.called,
      st.wire,
      omega (arith, small, ticks),
    )

pub hear-requires : goal.hear-requires
unfolding JoinedStands
hear-requires c =
    let (w, found, count, trace, st, few, small) = c.requires in
    let ticks = st.ticks_are in
    let are = ap length st.row.attempts_are in (
      most_attempts w.plan,
      w,
      found,
      count,
      trace.shown,
      [],
      st.row,
      nobody-serves w trace.shown _ _ st.unserved (ap (map _) c.new-nobody.ensures.items) (ap (map _) c.new-nobody.ensures.items),
      sym st.ticks_are,
      omega (arith, small, ticks),
      omega (arith, few, are),
      nobody-few w trace.shown st.unserved,
    )

pub overflow_add-self : goal.overflow_add-self
unfolding JoinedStands
overflow_add-self c =
    let (w, found, count, trace, st, few, small) = c.requires in
    let ticks = st.ticks_are in
    omega (arith, small, ticks)

pub returns-clause-shown : goal.returns-clause-shown
unfolding JoinedStands
returns-clause-shown c w found count trace st =
    ap (λ x. x ∷ trace.shown) (c.show-shown.ensures.pair w trace.shown trace.driven
    (subst (λ ss. StationsStandIn w ss trace.shown) (sym c.stations.ensures) st.row.stations) (called-named _ _ _ _ _ _ st.row.present_are c.stations.ensures c.places.ensures st.row.calls.called) st.wire)

pub returns-clause-taken : goal.returns-clause-taken
unfolding JoinedStands
returns-clause-taken c w found count trace st =
    c.hear.ensures.taken (most_attempts w.plan) w found count trace.shown st.row (sym st.ticks_are)
    ∙ ap (λ x. taken_in w (x ∷ trace.shown)) (c.show-shown.ensures.pair w trace.shown trace.driven
    (subst (λ ss. StationsStandIn w ss trace.shown) (sym c.stations.ensures) st.row.stations) (called-named _ _ _ _ _ _ st.row.present_are c.stations.ensures c.places.ensures st.row.calls.called) st.wire)

pub returns-clause-stands : goal.returns-clause-stands
unfolding JoinedStands
returns-clause-stands c w found count trace st =
    let stations = subst (λ ss. StationsStandIn w ss trace.shown) (sym c.stations.ensures) st.row.stations in
    let present = called-named _ _ _ _ _ _ st.row.present_are c.stations.ensures c.places.ensures st.row.calls.called in
    let shown = c.show-shown.ensures.pair w trace.shown trace.driven stations present st.wire in
    record {
      row = subst (λ (x : Pair). RowKeeps (most_attempts w.plan) w (found ++ ended_in w (x ∷ trace.shown)) (count_after w (x ∷ trace.shown) count)
          c.hear.new.self (x ∷ trace.shown)) shown
          (c.hear.ensures.stands (most_attempts w.plan) w found count trace.shown st.row (sym st.ticks_are));
      wire = c.show-shown.ensures.stands w trace.shown trace.driven stations present st.wire;
      unserved = st.unserved;
      ticks_are = add-one c.args.self.now.ticks ∙ ap suc st.ticks_are;
      driven_are = ap suc st.driven_are;
      most_attempts_are = st.most_attempts_are;
    }
