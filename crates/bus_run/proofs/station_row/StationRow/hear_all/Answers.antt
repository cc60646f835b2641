use Rattle.std.proofs.Common.{◌≡◌, ◌<◌, ◌+◌, ◌∙◌, ◌∷◌, ap, sym, arith, refl, subst, length}
use Rattle.bus_line.specs.declared.cutter.TheConstants.{LAG}
use Rattle.bus_receiver.specs.declared.receiver.Receiver.{Receiver}
use Rattle.bus_station.specs.Listening.{IsNext}
use Rattle.bus_run.proofs.CalledLaws.{called-named}
use Rattle.bus_run.proofs.DeliveryLaws.{delivering-more, delivering-all}
use Rattle.bus_run.proofs.ObjectLaws.{objects-moved}
use Rattle.bus_run.proofs.PassedLaws.{hears-named}
use Rattle.bus_run.proofs.RowLaws.{found-at}
use Rattle.bus_run.proofs.station_row.StationRow.hear_all.Goals as goal

pub loop-place-init : goal.loop-place-init
loop-place-init g c = record {
  all = refl;
  used = omega arith;
  room = refl;
  taken_used = omega arith;
  taken_room = refl;
  objects = refl;
  delivering = refl;
  receiver = refl;
  present = refl;
  stands = λ w found past bus hears next. hears;
  took_is = λ w found past bus hears next. refl;
  objects_hear = λ w found past before bus hears next objs. objs;
}

pub hear_at-took-requires-clause-stands : goal.hear_at-took-requires-clause-stands
hear_at-took-requires-clause-stands g c =
    let (w, found, past, before, bus, hears, objs, next, small, few) = c.requires.stands in (
      w,
      found,
      past,
      before,
      bus,
      c.loop-place.invariant.stands w found past bus hears next,
      c.loop-place.invariant.objects_hear w found past before bus hears next objs,
      subst (λ (r : Receiver). IsNext LAG c.args.moment.now bus r.cutters past) (sym c.loop-place.invariant.receiver) next,
      small,
      few,
    )

pub hear_at-took-requires-clause-room : goal.hear_at-took-requires-clause-room
hear_at-took-requires-clause-room g c =
    let room = c.requires.room in
    let used = c.loop-place.invariant.used in
    let same = c.loop-place.invariant.room in
    let all = c.loop-place.invariant.all in
    omega (arith, room, used, same, all)

pub hear_at-took-requires-clause-taken_room : goal.hear_at-took-requires-clause-taken_room
hear_at-took-requires-clause-taken_room g c =
    let room = c.requires.taken_room in
    let used = c.loop-place.invariant.taken_used in
    let same = c.loop-place.invariant.taken_room in
    let all = c.loop-place.invariant.all in
    omega (arith, room, used, same, all)

pub loop-place-preserved : goal.loop-place-preserved
loop-place-preserved g c = record {
  all = c.hear_at-took.ensures.all ∙ c.loop-place.invariant.all;
  used = (let a = c.hear_at-took.ensures.len in let b = c.loop-place.invariant.used in omega (arith, a, b));
  room = c.hear_at-took.ensures.room ∙ c.loop-place.invariant.room;
  taken_used = (let a = c.hear_at-took.ensures.taken_len in let b = c.loop-place.invariant.taken_used in omega (arith, a, b));
  taken_room = c.hear_at-took.ensures.taken_room ∙ c.loop-place.invariant.taken_room;
  objects = c.hear_at-took.ensures.objects ∙ c.loop-place.invariant.objects;
  delivering = c.hear_at-took.ensures.delivering ∙ c.loop-place.invariant.delivering;
  receiver = c.hear_at-took.ensures.receiver ∙ c.loop-place.invariant.receiver;
  present = c.hear_at-took.ensures.present ∙ c.loop-place.invariant.present;
  stands = λ w found past bus hears next.
      c.hear_at-took.ensures.stands w found past bus (c.loop-place.invariant.stands w found past bus hears next)
      (subst (λ (r : Receiver). IsNext LAG c.args.moment.now bus r.cutters past) (sym c.loop-place.invariant.receiver) next);
  took_is = λ w found past bus hears next.
      let now = c.loop-place.invariant.stands w found past bus hears next in
      let within : c.loop-place.place < length w.plan.stations = (let all = now.all in omega (arith, all)) in
      let (s, at) = found-at w.plan.stations c.loop-place.place within in
      delivering-more w (c.args.moment.now.shown ∷ past) c.loop-place.place s c.loop-place.took c.hear_at-took.result at
      (c.loop-place.invariant.took_is w found past bus hears next)
      (c.hear_at-took.ensures.took w found past bus s now
      (subst (λ (r : Receiver). IsNext LAG c.args.moment.now bus r.cutters past) (sym c.loop-place.invariant.receiver) next) at);
  objects_hear = λ w found past before bus hears next objs.
      objects-moved w _ _ before (c.loop-place.place + 1) c.args.moment.now.shown past _ _ (ap (λ v. v.items) c.hear_at-took.ensures.objects)
      (c.hear_at-took.ensures.objects_hear w found past before bus (c.loop-place.invariant.stands w found past bus hears next)
      (subst (λ (r : Receiver). IsNext LAG c.args.moment.now bus r.cutters past) (sym c.loop-place.invariant.receiver) next)
      (c.loop-place.invariant.objects_hear w found past before bus hears next objs));
}

pub places_called-self-requires-clause-few : goal.places_called-self-requires-clause-few
places_called-self-requires-clause-few g c =
    let few = c.requires.calls.few in
    let all = c.loop-place.invariant.all in
    let is = ap length c.deref.ensures.value in
    omega (arith, few, all, is)

pub places_called-self-requires-clause-present : goal.places_called-self-requires-clause-present
places_called-self-requires-clause-present g c =
    let present = ap (λ v. length v.items) c.loop-place.invariant.present in
    let all = c.loop-place.invariant.all in
    let same = c.requires.present in
    let is = ap length c.deref.ensures.value in
    let presents = ap length c.deref-2.ensures.value in
    omega (arith, present, all, same, is, presents)

pub returns-clause-stands : goal.returns-clause-stands
returns-clause-stands g c w found past bus hears next =
    let l = c.loop-place.invariant in
    let all = l.all in
    let whole : c.loop-place.place ≡ length c.args.self.now.stations.items = omega (arith, all) in
    hears-named w found (length c.args.self.now.stations.items) bus c.args.moment.now.shown past c.loop-place.self _ refl refl refl refl refl refl
    (rw (← whole) (l.stands w found past bus hears next))

pub returns-clause-took : goal.returns-clause-took
returns-clause-took g c w found past bus hears next =
    let l = c.loop-place.invariant in
    let all = l.all in
    let whole : c.loop-place.place ≡ length w.plan.stations = (let same = hears.all in omega (arith, all, same)) in
    delivering-all w (c.args.moment.now.shown ∷ past) c.loop-place.place c.loop-place.took whole (l.took_is w found past bus hears next)

pub returns-clause-objects_hear : goal.returns-clause-objects_hear
returns-clause-objects_hear g c w found past before bus hears next objs =
    let l = c.loop-place.invariant in
    let all = l.all in
    let whole : c.loop-place.place ≡ length c.args.self.now.stations.items = omega (arith, all) in
    objects-moved w _ _ before (length c.args.self.now.stations.items) c.args.moment.now.shown past _ _ (sym (ap (λ v. v.items) l.objects))
    (rw (← whole) (l.objects_hear w found past before bus hears next objs))

pub returns-clause-calls : goal.returns-clause-calls
returns-clause-calls g c = record {
  few = (let few = c.requires.calls.few in let all = c.loop-place.invariant.all in omega (arith, few, all));
  called = called-named c.deref-2.result.now _ c.deref.result.now _ _ _ c.deref-2.ensures.value (sym c.deref.ensures.value) refl
      c.places_called-self.ensures;
}
