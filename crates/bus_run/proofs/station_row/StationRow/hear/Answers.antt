use Rattle.std.proofs.Common.{◌≡◌, ◌++◌, ◌∙◌, ◌∷◌, ap, sym, arith, refl, subst, length, if◌then◌else◌, suc}
use Rattle.std.proofs.lemmas.List.{length-map}
use Rattle.bus_base.specs.declared.samples.Pair.{Pair}
use Rattle.bus_line.specs.declared.cutter.TheConstants.{LAG}
use Rattle.bus_model.specs.World.{is_present}
use Rattle.bus_receiver.specs.Moments.{ReceiverStands}
use Rattle.bus_receiver.specs.declared.receiver.Moment.{Moment}
use Rattle.bus_receiver.specs.declared.receiver.Receiver.{Receiver}
use Rattle.bus_station.proofs.Own.{own-next}
use Rattle.bus_run.specs.Deliveries.{is_delivering_in, taken_in}
use Rattle.bus_run.specs.StationRows.{RowKeeps, count_after, ended_in}
use Rattle.bus_run.specs.declared.station_row.StationRow.{StationRow}
use Rattle.bus_run.proofs.DeliveryLaws.{count-few, serves-moved}
use Rattle.bus_run.proofs.ObjectLaws.{objects-start, objects-end, objects-moved}
use Rattle.bus_run.proofs.RowLaws.{hears-start, hears-end, taken-end}
use Rattle.bus_run.proofs.station_row.StationRow.hear.Goals as goal

pub hear-moment-requires : goal.hear-moment-requires
hear-moment-requires g c =
    let (most, w, found, count, past, before, st, serves, here, small, few, left) = c.requires in
    (past, st.receiver, sym here, omega (arith, here, small))

pub hear_moment-took-requires-clause-stands : goal.hear_moment-took-requires-clause-stands
hear_moment-took-requires-clause-stands g c =
    let (most, w, found, count, past, before, st, serves, here, small, few, left) = c.requires in (
      w,
      found,
      past,
      before,
      c.args.self.now.receiver.cutters,
      hears-start most w found count c.hear-moment.result.shown past c.args.self.now _ refl refl refl refl c.clear.ensures.items st,
      objects-start w c.args.self.now.objects.items before c.hear-moment.result.shown past _ _ st.objects serves,
      own-next LAG c.args.self.now.receiver c.hear-moment.new.self c.args.shown c.hear-moment.result past st.receiver
          (c.hear-moment.ensures.moment past st.receiver) c.hear-moment.ensures.hears,
      omega (arith, here, small),
      left,
    )

pub hear_moment-took-requires-clause-calls : goal.hear_moment-took-requires-clause-calls
hear_moment-took-requires-clause-calls g c =
    let (most, w, found, count, past, before, st, serves, here, small, few, left) = c.requires in
    record { few = st.calls.few; called = st.calls.called }

pub hear_moment-took-requires-clause-present : goal.hear_moment-took-requires-clause-present
hear_moment-took-requires-clause-present g c =
    let (most, w, found, count, past, before, st, serves, here, small, few, left) = c.requires in
    ap length st.present_are ∙ length-map w.plan.stations (is_present w.absent) ∙ sym st.stations.all

pub hear_moment-took-requires-clause-room : goal.hear_moment-took-requires-clause-room
hear_moment-took-requires-clause-room g c =
    let (most, w, found, count, past, before, st, serves, here, small, few, left) = c.requires in
    let room = st.room in
    omega (arith, few, room)

pub hear_moment-took-requires-clause-taken_room : goal.hear_moment-took-requires-clause-taken_room
hear_moment-took-requires-clause-taken_room g c =
    let (most, w, found, count, past, before, st, serves, here, small, few, left) = c.requires in
    let room = st.taken_room in
    let none = ap length c.clear.ensures.items in
    let same = c.clear.ensures.capacity in
    omega (arith, room, none, same)

pub counted-self-requires : goal.counted-self-requires
counted-self-requires g c =
    let (most, w, found, count, past, before, st, serves, here, small, few, left) = c.requires in
    let same = c.hear_moment-took.ensures.delivering in
    let is = st.delivering_is in
    let bound = st.delivering_few in
    omega (arith, same, is, bound, here, small)

pub returns-clause-moment : goal.returns-clause-moment
returns-clause-moment g c most w found count past st = c.hear-moment.ensures.moment past st.receiver

pub returns-clause-stands : goal.returns-clause-stands
returns-clause-stands g c most w found count past st here =
    let next = own-next LAG c.args.self.now.receiver c.hear-moment.new.self c.args.shown c.hear-moment.result past st.receiver
    (c.hear-moment.ensures.moment past st.receiver) c.hear-moment.ensures.hears in
    let begins = hears-start most w found count c.hear-moment.result.shown past c.args.self.now _ refl refl refl refl c.clear.ensures.items st in
    let hears = c.hear_moment-took.ensures.stands w found past c.args.self.now.receiver.cutters begins next in
    let all = c.hear_moment-took.ensures.all in
    let room = c.hear_moment-took.ensures.room in
    let taken-room = c.hear_moment-took.ensures.taken_room in
    let cleared = c.clear.ensures.capacity in
    let before = st.room in
    let taken-before = st.taken_room in
    let x = c.hear-moment.result.shown in
    let shown : x ≡ c.args.shown = ap (λ (m : Moment). m.shown) (c.hear-moment.ensures.moment past st.receiver) in
    let counted : c.counted-self.result ≡ count_after w (x ∷ past) count =
    c.counted-self.ensures
    ∙ ap (λ b. if b then suc c.hear_moment-took.new.self.delivering else c.hear_moment-took.new.self.delivering)
    (c.hear_moment-took.ensures.took w found past c.args.self.now.receiver.cutters begins next)
    ∙ ap (λ n. if is_delivering_in w (x ∷ past) w.plan.stations then suc n else n) (c.hear_moment-took.ensures.delivering ∙ st.delivering_is) in
    let few = count-few w x past count st.delivering_few in
    let receives : ReceiverStands LAG c.hear_moment-took.new.self.receiver (x ∷ past) =
    subst (λ (r : Receiver). ReceiverStands LAG r (x ∷ past)) (sym c.hear_moment-took.ensures.receiver)
    (subst (λ (y : Pair). ReceiverStands LAG c.hear-moment.new.self (y ∷ past)) (sym shown) (c.hear-moment.ensures.stands past st.receiver)) in
    let row : StationRow = record c.hear_moment-took.new.self { delivering = c.counted-self.result } in
    subst (λ (y : Pair). RowKeeps most w (found ++ ended_in w (y ∷ past)) (count_after w (y ∷ past) count) row (y ∷ past)) shown
    (subst (λ n. RowKeeps most w (found ++ ended_in w (x ∷ past)) n row (x ∷ past)) counted
    (hears-end most (length c.args.self.now.stations.items) c.counted-self.result w found c.args.self.now.receiver.cutters x past
    c.hear_moment-took.new.self (sym all) (omega (arith, all, room, before)) (omega (arith, all, taken-room, taken-before, cleared))
    (omega (arith, counted, few)) receives c.hear_moment-took.ensures.calls hears))

pub returns-clause-taken : goal.returns-clause-taken
returns-clause-taken g c most w found count past st here =
    let next = own-next LAG c.args.self.now.receiver c.hear-moment.new.self c.args.shown c.hear-moment.result past st.receiver
    (c.hear-moment.ensures.moment past st.receiver) c.hear-moment.ensures.hears in
    let begins = hears-start most w found count c.hear-moment.result.shown past c.args.self.now _ refl refl refl refl c.clear.ensures.items st in
    let shown = ap (λ (m : Moment). m.shown) (c.hear-moment.ensures.moment past st.receiver) in
    taken-end (length c.args.self.now.stations.items) w found c.args.self.now.receiver.cutters c.hear-moment.result.shown past
    c.hear_moment-took.new.self (sym c.hear_moment-took.ensures.all)
    (c.hear_moment-took.ensures.stands w found past c.args.self.now.receiver.cutters begins next)
    ∙ ap (λ (y : Pair). taken_in w (y ∷ past)) shown

pub returns-clause-serves : goal.returns-clause-serves
returns-clause-serves g c most w found count past before st here serves =
    let next = own-next LAG c.args.self.now.receiver c.hear-moment.new.self c.args.shown c.hear-moment.result past st.receiver
    (c.hear-moment.ensures.moment past st.receiver) c.hear-moment.ensures.hears in
    let begins = hears-start most w found count c.hear-moment.result.shown past c.args.self.now _ refl refl refl refl c.clear.ensures.items st in
    let hears = c.hear_moment-took.ensures.stands w found past c.args.self.now.receiver.cutters begins next in
    let whole = st.stations.all in
    serves-moved w before _ _ _ _ (ap (λ (m : Moment). m.shown ∷ past) (c.hear-moment.ensures.moment past st.receiver))
    (objects-end w c.hear_moment-took.new.self.objects.items before (length c.args.self.now.stations.items) c.hear-moment.result.shown past _ _
    hears.objects whole
    (objects-moved w _ _ before (length c.args.self.now.stations.items) c.hear-moment.result.shown past _ _
    (ap (λ v. v.items) c.hear_moment-took.ensures.objects)
    (c.hear_moment-took.ensures.objects_hear w found past before c.args.self.now.receiver.cutters begins next
    (objects-start w c.args.self.now.objects.items before c.hear-moment.result.shown past _ _ st.objects serves))))
