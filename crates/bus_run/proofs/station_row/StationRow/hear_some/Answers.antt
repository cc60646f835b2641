use Rattle.std.proofs.Common.{◌<◌, ◌≤◌, ◌+◌, ◌∙◌, ◌∷◌, ap, sym, arith, refl, subst, length, drop, ℕ}
use Rattle.std.specs.Prelude.{slice_get}
use Rattle.std.proofs.lemmas.List.{drop_all}
use Rattle.bus_line.specs.declared.cutter.TheConstants.{LAG}
use Rattle.bus_receiver.specs.declared.receiver.Receiver.{Receiver}
use Rattle.bus_station.specs.Listening.{IsNext}
use Rattle.bus_wire.specs.Places.{is_among}
use Rattle.bus_wire.proofs.PlaceLaws.{rising-within}
use Rattle.bus_run.proofs.CalledLaws.{called-same, among-at}
use Rattle.bus_run.proofs.DeliveryLaws.{delivering-more, delivering-all}
use Rattle.bus_run.proofs.ObjectLaws.{objects-moved}
use Rattle.bus_run.proofs.RowLaws.{found-at}
use Rattle.bus_run.proofs.PassedLaws.{Passes, step-of, passes-called, hears-up, took-up, objects-up, apart-places}
use Rattle.bus_run.proofs.station_row.StationRow.hear_some.Goals as goal

pub loop-index-init : goal.loop-index-init
loop-index-init g c = record {
  count = ap length c.as_slice-count.ensures.value;
  from = 0;
  rising = c.requires.calls.called.rising;
  alike = λ i low. refl;
  places = refl;
  rest = λ i low. refl;
  others = λ i none. refl;
  all = refl;
  used = omega arith;
  room = refl;
  taken_used = omega arith;
  taken_room = refl;
  objects = refl;
  delivering = refl;
  receiver = refl;
  present = refl;
  stands = λ w found past bus hears next. hears;
  took_is = λ w found past bus hears next. refl;
  objects_hear = λ w found past before bus hears next objs. objs;
}

pub place_called-place-requires : goal.place_called-place-requires
place_called-place-requires g c =
    let l = c.loop-index.invariant in
    let count = l.count in
    let same = ap (λ v. length v.items) l.places in
    omega (arith, count, same)

pub hear_at-took-requires-clause-place : goal.hear_at-took-requires-clause-place
hear_at-took-requires-clause-place g c =
    let l = c.loop-index.invariant in
    let step = step-of c.args.self.now.places.items (length c.args.self.now.stations.items) c.loop-index.index l.from c.place_called-place.result
    (ap (λ v. slice_get v.items c.loop-index.index) (sym l.places) ∙ c.place_called-place.ensures) l.rising l.alike in
    let within = step.within in
    let all = l.all in
    omega (arith, within, all)

pub hear_at-took-requires-clause-stands : goal.hear_at-took-requires-clause-stands
hear_at-took-requires-clause-stands g c =
    let (w, found, past, before, bus, hears, objs, next, small, few) = c.requires.stands in
    let l = c.loop-index.invariant in
    let step = step-of c.args.self.now.places.items (length c.args.self.now.stations.items) c.loop-index.index l.from c.place_called-place.result
    (ap (λ v. slice_get v.items c.loop-index.index) (sym l.places) ∙ c.place_called-place.ensures) l.rising l.alike in
    let within = step.within in
    let all = l.all in
    let now = l.stands w found past bus hears next in
    let later = subst (λ (r : Receiver). IsNext LAG c.args.moment.now bus r.cutters past) (sym l.receiver) next in
    let passes : (i : ℕ) → l.from ≤ i → i < c.place_called-place.result → Passes w c.loop-index.self i = λ i low below. passes-called w c.args.self.now c.loop-index.self i c.requires.calls.called now.present_are l.present (l.rest i low)
    (step.between i low below) in (
      w,
      found,
      past,
      before,
      bus,
      hears-up w found bus c.args.moment.now past c.loop-index.self c.requires.nothing later l.from c.place_called-place.result step.low
          (omega (arith, within, all)) passes now,
      objects-up w found bus c.args.moment.now past c.loop-index.self c.requires.nothing later l.from c.place_called-place.result step.low
          (omega (arith, within, all)) passes now c.loop-index.self.objects.items before _ _ (l.objects_hear w found past before bus hears next objs),
      later,
      small,
      few,
    )

pub hear_at-took-requires-clause-room : goal.hear_at-took-requires-clause-room
hear_at-took-requires-clause-room g c =
    let l = c.loop-index.invariant in
    let step = step-of c.args.self.now.places.items (length c.args.self.now.stations.items) c.loop-index.index l.from c.place_called-place.result
    (ap (λ v. slice_get v.items c.loop-index.index) (sym l.places) ∙ c.place_called-place.ensures) l.rising l.alike in
    let within = step.within in
    let low = step.low in
    let room = c.requires.room in
    let used = l.used in
    let same = l.room in
    omega (arith, room, used, same, within, low)

pub hear_at-took-requires-clause-taken_room : goal.hear_at-took-requires-clause-taken_room
hear_at-took-requires-clause-taken_room g c =
    let l = c.loop-index.invariant in
    let step = step-of c.args.self.now.places.items (length c.args.self.now.stations.items) c.loop-index.index l.from c.place_called-place.result
    (ap (λ v. slice_get v.items c.loop-index.index) (sym l.places) ∙ c.place_called-place.ensures) l.rising l.alike in
    let within = step.within in
    let low = step.low in
    let room = c.requires.taken_room in
    let used = l.taken_used in
    let same = l.taken_room in
    omega (arith, room, used, same, within, low)

pub loop-index-preserved : goal.loop-index-preserved
loop-index-preserved g c =
    let l = c.loop-index.invariant in
    let at = ap (λ v. slice_get v.items c.loop-index.index) (sym l.places) ∙ c.place_called-place.ensures in
    let step = step-of c.args.self.now.places.items (length c.args.self.now.stations.items) c.loop-index.index l.from c.place_called-place.result
    at l.rising l.alike in
    let within = step.within in
    let low = step.low in
    let all = l.all in
    record {
      count = l.count;
      from = c.place_called-place.result + 1;
      rising = step.rising;
      alike = step.later;
      places = c.hear_at-took.ensures.places ∙ l.places;
      rest = λ i past. c.hear_at-took.ensures.others i (apart-places i c.place_called-place.result past) ∙ l.rest i (omega (arith, past, low));
      others = λ i none. c.hear_at-took.ensures.others i (among-at i c.place_called-place.result c.args.self.now.places.items c.loop-index.index at none)
          ∙ l.others i none;
      all = c.hear_at-took.ensures.all ∙ l.all;
      used = (let a = c.hear_at-took.ensures.len in let b = l.used in omega (arith, a, b, low));
      room = c.hear_at-took.ensures.room ∙ l.room;
      taken_used = (let a = c.hear_at-took.ensures.taken_len in let b = l.taken_used in omega (arith, a, b, low));
      taken_room = c.hear_at-took.ensures.taken_room ∙ l.taken_room;
      objects = c.hear_at-took.ensures.objects ∙ l.objects;
      delivering = c.hear_at-took.ensures.delivering ∙ l.delivering;
      receiver = c.hear_at-took.ensures.receiver ∙ l.receiver;
      present = c.hear_at-took.ensures.present ∙ l.present;
      stands = λ w found past bus hears next.
          let now = l.stands w found past bus hears next in
          let later = subst (λ (r : Receiver). IsNext LAG c.args.moment.now bus r.cutters past) (sym l.receiver) next in
          let passes : (i : ℕ) → l.from ≤ i → i < c.place_called-place.result → Passes w c.loop-index.self i = λ i lower below. passes-called w c.args.self.now c.loop-index.self i c.requires.calls.called now.present_are l.present (l.rest i lower)
          (step.between i lower below) in
          c.hear_at-took.ensures.stands w found past bus (hears-up w found bus c.args.moment.now past c.loop-index.self c.requires.nothing later l.from
          c.place_called-place.result step.low (omega (arith, within, all)) passes now) later;
      took_is = λ w found past bus hears next.
          let now = l.stands w found past bus hears next in
          let later = subst (λ (r : Receiver). IsNext LAG c.args.moment.now bus r.cutters past) (sym l.receiver) next in
          let passes : (i : ℕ) → l.from ≤ i → i < c.place_called-place.result → Passes w c.loop-index.self i = λ i lower below. passes-called w c.args.self.now c.loop-index.self i c.requires.calls.called now.present_are l.present (l.rest i lower)
          (step.between i lower below) in
          let here = hears-up w found bus c.args.moment.now past c.loop-index.self c.requires.nothing later l.from c.place_called-place.result step.low
          (omega (arith, within, all)) passes now in
          let (s, there) = found-at w.plan.stations c.place_called-place.result (let whole = now.all in omega (arith, whole, within, all)) in
          delivering-more w (c.args.moment.now.shown ∷ past) c.place_called-place.result s c.loop-index.took c.hear_at-took.result there
          (took-up w found bus c.args.moment.now past c.loop-index.self c.requires.nothing later l.from c.place_called-place.result step.low
          (omega (arith, within, all)) passes now c.loop-index.took (l.took_is w found past bus hears next))
          (c.hear_at-took.ensures.took w found past bus s here later there);
      objects_hear = λ w found past before bus hears next objs.
          let now = l.stands w found past bus hears next in
          let later = subst (λ (r : Receiver). IsNext LAG c.args.moment.now bus r.cutters past) (sym l.receiver) next in
          let passes : (i : ℕ) → l.from ≤ i → i < c.place_called-place.result → Passes w c.loop-index.self i = λ i lower below. passes-called w c.args.self.now c.loop-index.self i c.requires.calls.called now.present_are l.present (l.rest i lower)
          (step.between i lower below) in
          let here = hears-up w found bus c.args.moment.now past c.loop-index.self c.requires.nothing later l.from c.place_called-place.result step.low
          (omega (arith, within, all)) passes now in
          objects-moved w _ _ before (c.place_called-place.result + 1) c.args.moment.now.shown past _ _ (ap (λ v. v.items) c.hear_at-took.ensures.objects)
          (c.hear_at-took.ensures.objects_hear w found past before bus here later
          (objects-up w found bus c.args.moment.now past c.loop-index.self c.requires.nothing later l.from c.place_called-place.result step.low
          (omega (arith, within, all)) passes now c.loop-index.self.objects.items before _ _ (l.objects_hear w found past before bus hears next objs)));
    }

pub returns-clause-stands : goal.returns-clause-stands
returns-clause-stands g c w found past bus hears next =
    let l = c.loop-index.invariant in
    let all = l.all in
    let count = l.count in
    let none = drop_all c.loop-index.index c.args.self.now.places.items (omega (arith, count)) in
    let low = rising-within l.from (length c.args.self.now.stations.items) (drop c.loop-index.index c.args.self.now.places.items) l.rising in
    let now = l.stands w found past bus hears next in
    let later = subst (λ (r : Receiver). IsNext LAG c.args.moment.now bus r.cutters past) (sym l.receiver) next in
    let passes : (i : ℕ) → l.from ≤ i → i < length c.args.self.now.stations.items → Passes w c.loop-index.self i = λ i lower below. passes-called w c.args.self.now c.loop-index.self i c.requires.calls.called now.present_are l.present (l.rest i lower)
    (l.alike i lower ∙ ap (is_among i) none) in
    hears-up w found bus c.args.moment.now past c.loop-index.self c.requires.nothing later l.from (length c.args.self.now.stations.items) low
    (omega (arith, all)) passes now

pub returns-clause-took : goal.returns-clause-took
returns-clause-took g c w found past bus hears next =
    let l = c.loop-index.invariant in
    let all = l.all in
    let count = l.count in
    let none = drop_all c.loop-index.index c.args.self.now.places.items (omega (arith, count)) in
    let low = rising-within l.from (length c.args.self.now.stations.items) (drop c.loop-index.index c.args.self.now.places.items) l.rising in
    let now = l.stands w found past bus hears next in
    let later = subst (λ (r : Receiver). IsNext LAG c.args.moment.now bus r.cutters past) (sym l.receiver) next in
    let passes : (i : ℕ) → l.from ≤ i → i < length c.args.self.now.stations.items → Passes w c.loop-index.self i = λ i lower below. passes-called w c.args.self.now c.loop-index.self i c.requires.calls.called now.present_are l.present (l.rest i lower)
    (l.alike i lower ∙ ap (is_among i) none) in
    delivering-all w (c.args.moment.now.shown ∷ past) (length c.args.self.now.stations.items) c.loop-index.took
    (let whole = now.all in omega (arith, all, whole))
    (took-up w found bus c.args.moment.now past c.loop-index.self c.requires.nothing later l.from (length c.args.self.now.stations.items) low
    (omega (arith, all)) passes now c.loop-index.took (l.took_is w found past bus hears next))

pub returns-clause-objects_hear : goal.returns-clause-objects_hear
returns-clause-objects_hear g c w found past before bus hears next objs =
    let l = c.loop-index.invariant in
    let all = l.all in
    let count = l.count in
    let none = drop_all c.loop-index.index c.args.self.now.places.items (omega (arith, count)) in
    let low = rising-within l.from (length c.args.self.now.stations.items) (drop c.loop-index.index c.args.self.now.places.items) l.rising in
    let now = l.stands w found past bus hears next in
    let later = subst (λ (r : Receiver). IsNext LAG c.args.moment.now bus r.cutters past) (sym l.receiver) next in
    let passes : (i : ℕ) → l.from ≤ i → i < length c.args.self.now.stations.items → Passes w c.loop-index.self i = λ i lower below. passes-called w c.args.self.now c.loop-index.self i c.requires.calls.called now.present_are l.present (l.rest i lower)
    (l.alike i lower ∙ ap (is_among i) none) in
    objects-moved w _ _ before (length c.args.self.now.stations.items) c.args.moment.now.shown past _ _ (sym (ap (λ v. v.items) l.objects))
    (objects-up w found bus c.args.moment.now past c.loop-index.self c.requires.nothing later l.from (length c.args.self.now.stations.items) low
    (omega (arith, all)) passes now c.loop-index.self.objects.items before _ _ (l.objects_hear w found past before bus hears next objs))

pub returns-clause-calls : goal.returns-clause-calls
returns-clause-calls g c =
    let l = c.loop-index.invariant in
    let all = l.all in
    record {
      few = (let few = c.requires.calls.few in omega (arith, few, all));
      called = called-same c.args.self.now.present.items c.loop-index.self.present.items c.args.self.now.stations.items c.loop-index.self.stations.items
          c.args.self.now.places.items c.loop-index.self.places.items (ap (λ v. v.items) l.present) all (ap (λ v. v.items) l.places) l.others c.requires.calls.called;
    }
