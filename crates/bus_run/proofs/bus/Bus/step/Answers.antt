use Rattle.std.proofs.Common.{◌≡◌, ◌∷◌, [], suc, ◌∙◌, List, length, ap, sym, arith, subst, add-one}
use Rattle.bus_base.specs.declared.samples.Pair.{Pair}
use Rattle.bus_line.specs.declared.cutter.TheConstants.{LAG}
use Rattle.bus_model.specs.Wire.{shown}
use Rattle.bus_model.specs.World.{world, trace}
use Rattle.bus_run.specs.Amounts.{most_attempts, most_words, most_bursts}
use Rattle.bus_run.specs.Parts.{StationsStand, DrivenWireStands}
use Rattle.bus_run.specs.StationRows.{RowStands}
use Rattle.bus_run.specs.Monitors.{MonitorStands}
use Rattle.bus_run.specs.Stands.{BusStands}
use Rattle.bus_model.specs.WorldLog.{attempts}
use Rattle.bus_run.specs.Deliveries.{delivering}
use Rattle.bus_run.specs.Settings.{alone}
use Rattle.bus_run.proofs.DeliveryLaws.{serves-moved, alone-few, row-next}
use Rattle.bus_receiver.specs.declared.receiver.Moment.{Moment}
use Rattle.bus_run.proofs.CalledLaws.{called-named}
use Rattle.bus_run.proofs.MonitorLaws.{own-moment}
use Rattle.bus_run.proofs.BusLaws.{world-next, driven-next, world-length, driven-length}
use Rattle.bus_run.proofs.TableRun.{goes-on}
use Rattle.bus_run.proofs.bus.Bus.step.Goals as goal

pub show-shown-requires : goal.show-shown-requires
unfolding BusStands
show-shown-requires g c =
    let (plan, t, before, st, on, serves) = c.requires in
    let small = (goes-on plan st.accepted t st.within).small in
    let ticks = driven-length plan t in (
      alone plan,
      world LAG plan [] [] [] t,
      (trace LAG plan [] [] [] t).driven,
      subst (λ ss. StationsStand plan ss (world LAG plan [] [] [] t)) (sym c.stations.ensures) st.row.stations,
      called-named _ _ _ _ _ _ st.row.present_are c.stations.ensures c.places.ensures st.row.calls.called,
      st.wire,
      omega (arith, small, ticks),
    )

pub hear-moment-requires : goal.hear-moment-requires
unfolding BusStands
hear-moment-requires g c =
    let (plan, t, before, st, on, serves) = c.requires in
    let going = goes-on plan st.accepted t st.within in
    let small = going.small in
    let ticks = st.ticks_are in
    let left = going.attempts_left in
    let are = ap length st.row.attempts_are in (
      most_attempts plan,
      alone plan,
      attempts LAG plan [] [] [] (world LAG plan [] [] [] t),
      delivering plan (world LAG plan [] [] [] t),
      world LAG plan [] [] [] t,
      before,
      st.row,
      serves,
      world-length plan t ∙ sym st.ticks_are,
      omega (arith, small, ticks),
      omega (arith, left, are),
      alone-few plan _ (world LAG plan [] [] [] t) st.row.objects going.deliveries_left,
    )

pub hear-requires : goal.hear-requires
unfolding BusStands
hear-requires g c =
    let (plan, t, before, st, on, serves) = c.requires in
    let going = goes-on plan st.accepted t st.within in
    let small = going.small in
    let ticks = st.ticks_are in
    let words = going.words_left in
    let bursts = going.bursts_left in
    let words-are = ap length st.monitor.lists.words_are in
    let bursts-are = ap length st.monitor.lists.bursts_are in (
      most_words plan,
      most_bursts plan,
      world LAG plan [] [] [] t,
      st.monitor,
      own-moment LAG c.hear-moment.result c.show-shown.result (world LAG plan [] [] [] t)
          (c.hear-moment.ensures.moment (most_attempts plan) (alone plan) _ _ (world LAG plan [] [] [] t) st.row),
      (let here = world-length plan t in omega (arith, small, here)),
      omega (arith, words, words-are),
      omega (arith, bursts, bursts-are),
    )

pub overflow_add-self : goal.overflow_add-self
unfolding BusStands
overflow_add-self g c =
    let (plan, t, before, st, on, serves) = c.requires in
    let small = (goes-on plan st.accepted t st.within).small in
    let ticks = st.ticks_are in
    omega (arith, small, ticks)

pub returns-clause-shown : goal.returns-clause-shown
unfolding BusStands
returns-clause-shown g c plan t st on =
    let stations : StationsStand plan c.stations.result.now (world LAG plan [] [] [] t) =
    subst (λ ss. StationsStand plan ss (world LAG plan [] [] [] t)) (sym c.stations.ensures) st.row.stations in
    c.show-shown.ensures.pair (alone plan) (world LAG plan [] [] [] t) (trace LAG plan [] [] [] t).driven stations
    (called-named _ _ _ _ _ _ st.row.present_are c.stations.ensures c.places.ensures st.row.calls.called) st.wire
    ∙ ap (λ ds. shown plan.faults ds) (sym (driven-next plan t))

pub returns-clause-stands : goal.returns-clause-stands
unfolding BusStands
returns-clause-stands g c plan t st on =
    let past : List Pair = world LAG plan [] [] [] t in
    let stations : StationsStand plan c.stations.result.now past = subst (λ ss. StationsStand plan ss past) (sym c.stations.ensures) st.row.stations in
    let here : length past ≡ c.args.self.now.ticks = world-length plan t ∙ sym st.ticks_are in
    let next : c.show-shown.result ∷ past ≡ world LAG plan [] [] [] (suc t) =
    ap (λ p. p ∷ past) (c.show-shown.ensures.pair (alone plan) past (trace LAG plan [] [] [] t).driven stations
    (called-named _ _ _ _ _ _ st.row.present_are c.stations.ensures c.places.ensures st.row.calls.called) st.wire ∙ ap (λ ds. shown plan.faults ds) (sym
    (driven-next plan t)))
    ∙ sym (world-next plan t) in
    let moment = c.hear-moment.ensures.moment (most_attempts plan) (alone plan) _ _ past st.row in
    record {
      accepted = st.accepted;
      within = omega (arith, on);
      row = subst (λ p. RowStands (most_attempts plan) plan c.hear-moment.new.self p) next
          (row-next (most_attempts plan) plan c.hear-moment.new.self c.show-shown.result past
          (c.hear-moment.ensures.stands (most_attempts plan) (alone plan) _ _ past st.row here));
      wire = subst (λ ds. DrivenWireStands plan c.show-shown.new.self ds) (sym (driven-next plan t))
          (c.show-shown.ensures.stands (alone plan) past (trace LAG plan [] [] [] t).driven stations
          (called-named _ _ _ _ _ _ st.row.present_are c.stations.ensures c.places.ensures st.row.calls.called) st.wire);
      monitor = subst (λ p. MonitorStands (most_words plan) (most_bursts plan) c.hear.new.self p)
          (ap (λ (m : Moment). m.shown ∷ past) moment ∙ next)
          (c.hear.ensures (most_words plan) (most_bursts plan) past st.monitor (own-moment LAG c.hear-moment.result c.show-shown.result past moment));
      ends = st.ends;
      ticks_are = add-one c.args.self.now.ticks ∙ ap suc st.ticks_are;
    }

pub returns-clause-serves : goal.returns-clause-serves
unfolding BusStands
returns-clause-serves g c plan t before st on serves =
    let past : List Pair = world LAG plan [] [] [] t in
    let stations : StationsStand plan c.stations.result.now past = subst (λ ss. StationsStand plan ss past) (sym c.stations.ensures) st.row.stations in
    let here : length past ≡ c.args.self.now.ticks = world-length plan t ∙ sym st.ticks_are in
    let next : c.show-shown.result ∷ past ≡ world LAG plan [] [] [] (suc t) =
    ap (λ p. p ∷ past) (c.show-shown.ensures.pair (alone plan) past (trace LAG plan [] [] [] t).driven stations
    (called-named _ _ _ _ _ _ st.row.present_are c.stations.ensures c.places.ensures st.row.calls.called) st.wire ∙ ap (λ ds. shown plan.faults ds) (sym
    (driven-next plan t)))
    ∙ sym (world-next plan t) in
    serves-moved (alone plan) before _ _ _ _ next (c.hear-moment.ensures.serves (most_attempts plan) (alone plan) _ _ past before st.row here serves)
