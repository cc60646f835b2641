use Rattle.std.proofs.Common.{◌∙◌, ap, sym, length, refl, arith}
use Rattle.std.proofs.lemmas.List.{length-map}
use Rattle.bus_model.specs.World.{is_present}
use Rattle.bus_run.proofs.CalledLaws.{called-named}
use Rattle.bus_run.proofs.LoadingLaws.{row-loaded, all-loaded}
use Rattle.bus_run.proofs.station_row.StationRow.load.Goals as goal

pub loop-place-init : goal.loop-place-init
loop-place-init c = record {
  loaded = record { all = refl; done = λ i old new below was at. absurd (omega (arith, below)); rest = λ i low. refl };
  present = refl;
  attempts = refl;
  objects = refl;
  delivering = refl;
  taken = refl;
  receiver = refl;
}

pub loop-place-preserved : goal.loop-place-preserved
loop-place-preserved c = record {
  loaded = c.load_at.ensures.loaded _ c.loop-place.invariant.loaded;
  present = c.load_at.ensures.present ∙ c.loop-place.invariant.present;
  attempts = c.load_at.ensures.attempts ∙ c.loop-place.invariant.attempts;
  objects = c.load_at.ensures.objects ∙ c.loop-place.invariant.objects;
  delivering = c.load_at.ensures.delivering ∙ c.loop-place.invariant.delivering;
  taken = c.load_at.ensures.taken ∙ c.loop-place.invariant.taken;
  receiver = c.load_at.ensures.receiver ∙ c.loop-place.invariant.receiver;
}

pub load_at-requires-clause-place : goal.load_at-requires-clause-place
load_at-requires-clause-place c = (let all = c.loop-place.invariant.loaded.all in omega (arith, all, c.loop-place-test.true))

pub places_called-self-requires-clause-few : goal.places_called-self-requires-clause-few
places_called-self-requires-clause-few c =
    let (most, w, found, count, shown, past, st) = c.requires.row in
    let few = st.calls.few in
    let all = c.loop-place.invariant.loaded.all in
    let is = ap length c.deref.ensures.value in
    omega (arith, few, all, is)

pub places_called-self-requires-clause-present : goal.places_called-self-requires-clause-present
places_called-self-requires-clause-present c =
    let (most, w, found, count, shown, past, st) = c.requires.row in
    let all = c.loop-place.invariant.loaded.all in
    let same = ap (λ v. length v.items) c.loop-place.invariant.present in
    let present = ap length st.present_are ∙ length-map w.plan.stations (is_present w.absent) ∙ sym st.stations.all in
    let is = ap length c.deref.ensures.value in
    let presents = ap length c.deref-2.ensures.value in
    omega (arith, all, same, present, is, presents)

pub returns-clause-keeps : goal.returns-clause-keeps
returns-clause-keeps c = λ most w found count shown past st.
    let all = c.loop-place.invariant.loaded.all in
    row-loaded most w found count shown past c.args.address c.args.sub c.args.words.now c.args.self.now
    (record c.loop-place.self { places = c.places_called-self.result }) all
    (all-loaded c.args.address c.args.sub c.args.words.now c.args.self.now.stations.items c.loop-place.self.stations.items c.loop-place.place
    (omega (arith, all)) c.loop-place.invariant.loaded)
    c.loop-place.invariant.present c.loop-place.invariant.attempts c.loop-place.invariant.objects c.loop-place.invariant.delivering
    c.loop-place.invariant.taken c.loop-place.invariant.receiver
    (record {
      few = (let few = st.calls.few in omega (arith, few, all));
      called = called-named c.deref-2.result.now _ c.deref.result.now _ _ _ c.deref-2.ensures.value (sym c.deref.ensures.value)
          refl c.places_called-self.ensures;
    }) st
