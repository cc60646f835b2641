-- A row of stations into which a block was loaded.
use Rattle.std.proofs.Common.{◌≡◌, ◌≢◌, ◌<◌, ◌+◌, ◌∙◌, ◌++◌, Bool, ◌⊎◌, inl, inr, ℕ, List, ◌∷◌, [], length, ap, sym, subst, arith, Some}
use Rattle.std.specs.Prelude.{slice_get, set, vec_capacity}
use Rattle.std.proofs.lemmas.Bool.{cases_eq}
use Rattle.std.proofs.lemmas.List.{length-set}
use Rattle.std.proofs.lemmas.Option.{slice_get_within, same_Some}
use Rattle.bus_base.specs.declared.samples.Pair.{Pair}
use Rattle.bus_line.specs.declared.cutter.TheConstants.{LAG}
use Rattle.bus_formats.specs.Plans.{StationData}
use Rattle.bus_formats.specs.declared.log.Attempt.{Attempt}
use Rattle.bus_model.specs.Memory.{TimedLoad}
use Rattle.bus_model.specs.Control.{OutsideTake}
use Rattle.bus_receiver.specs.Moments.{ReceiverStands}
use Rattle.bus_receiver.specs.declared.cutters.Cutters.{Cutters}
use Rattle.bus_receiver.specs.declared.receiver.Receiver.{Receiver}
use Rattle.bus_station.specs.Listening.{InStep}
use Rattle.bus_station.specs.StationStands.{StationKeeps}
use Rattle.bus_station.specs.declared.station.Station.{Station}
use Rattle.bus_model.specs.Starts.{starts}
use Rattle.bus_run.specs.Deliveries.{ObjectsIn}
use Rattle.bus_run.specs.Joined.{with_load}
use Rattle.bus_run.specs.Loading.{TakesLoad, AreLoaded, loads_with}
use Rattle.bus_run.specs.Settings.{Setting}
use Rattle.bus_run.specs.StationRows.{RowKeeps, RowCalls}
use Rattle.bus_run.specs.declared.station_row.StationRow.{StationRow}
use Rattle.bus_run.proofs.RowLaws.{found-at, set-same, set-other, keeps-address}

-- a station that doesn't have the address stays as it is
pub takes-none : (address sub : ℕ) (words : List ℕ) (value : Station) → value.address ≢ address →
    ((s : StationData) (starts : Bool) (loads : List TimedLoad) (outside : List OutsideTake) (load : TimedLoad) (past : List Pair) →
    load.address ≢ s.terminal.address → StationKeeps LAG s starts loads outside value past → StationKeeps LAG s starts (loads ++ load ∷ []) outside value past) →
    ((s : StationData) (starts : Bool) (loads : List TimedLoad) (outside : List OutsideTake) (load : TimedLoad) (bus : Cutters) (past : List Pair) →
    load.address ≢ s.terminal.address → InStep LAG s starts loads outside value bus past → InStep LAG s starts (loads ++ load ∷ []) outside value bus past) →
    TakesLoad address sub words value value
takes-none address sub words value other keeps in-step = record {
  keeps = λ s starts loads outside shown past st.
      keeps s starts loads outside _ (shown ∷ past) (λ same. other (keeps-address s starts loads outside value (shown ∷ past) st ∙ sym same)) st;
  in_step = λ s starts loads outside bus shown past st step.
      in-step s starts loads outside _ bus (shown ∷ past) (λ same. other (keeps-address s starts loads outside value (shown ∷ past) st ∙ sym same)) step;
}

-- one that has it takes the load
pub takes-own : (address sub : ℕ) (words : List ℕ) (old new : Station) → old.address ≡ address →
    ((s : StationData) (starts : Bool) (loads : List TimedLoad) (outside : List OutsideTake) (shown : Pair) (past : List Pair) →
    StationKeeps LAG s starts loads outside old (shown ∷ past) →
    StationKeeps LAG s starts (loads_with loads past s.terminal.address sub words) outside new (shown ∷ past)) →
    ((s : StationData) (starts : Bool) (loads : List TimedLoad) (outside : List OutsideTake) (bus : Cutters) (shown : Pair) (past : List Pair) →
    InStep LAG s starts loads outside old bus (shown ∷ past) →
    InStep LAG s starts (loads_with loads past s.terminal.address sub words) outside new bus (shown ∷ past)) → TakesLoad address sub words old new
takes-own address sub words old new own keeps in-step = record {
  keeps = λ s starts loads outside shown past st.
      subst (λ (a : ℕ). StationKeeps LAG s starts (loads_with loads past a sub words) outside new (shown ∷ past))
      (sym (keeps-address s starts loads outside old (shown ∷ past) st) ∙ own) (keeps s starts loads outside shown past st);
  in_step = λ s starts loads outside bus shown past st step.
      subst (λ (a : ℕ). InStep LAG s starts (loads_with loads past a sub words) outside new bus (shown ∷ past))
      (sym (keeps-address s starts loads outside old (shown ∷ past) st) ∙ own) (in-step s starts loads outside bus shown past step);
}

-- one station more took it
pub loaded-more : (address sub : ℕ) (words : List ℕ) (first now next : List Station) (place : ℕ) (old new : Station) → place < length now →
    slice_get now place ≡ Some old → next ≡ set now place new → TakesLoad address sub words old new → AreLoaded address sub words place first now →
    AreLoaded address sub words (place + 1) first next
loaded-more address sub words first now next place old new within here is takes loaded = record {
  all = ap length is ∙ length-set now place new ∙ loaded.all;
  done = λ i a b below was at. done-by i a b below was (ap (λ xs. slice_get xs i) (sym is) ∙ at) (cases_eq i place);
  rest = λ i high. ap (λ xs. slice_get xs i) is
      ∙ set-other now place i new (λ same. absurd (let s : i ≡ place = same in omega (arith, high, s))) ∙ loaded.rest i (omega (arith, high));
} where
  done-by : (i : ℕ) (a b : Station) → i < place + 1 → slice_get first i ≡ Some a → slice_get (set now place new) i ≡ Some b → (i ≡ place) ⊎ (i ≢ place) →
      TakesLoad address sub words a b
  done-by i a b below was at (inl same) =
      let a-is : a ≡ old = same_Some a old (sym was ∙ ap (slice_get first) same ∙ sym (loaded.rest place (omega arith)) ∙ here) in
      let b-is : b ≡ new = same_Some b new (sym at ∙ ap (slice_get (set now place new)) same ∙ set-same now place new within) in
      subst (λ (x : Station). TakesLoad address sub words x b) (sym a-is) (subst (λ (y : Station). TakesLoad address sub words old y) (sym b-is) takes)
  done-by i a b below was at (inr other) = loaded.done i a b (omega (arith, below, other)) was (sym (set-other now place i new other) ∙ at)

-- all of them took it
pub all-loaded : (address sub : ℕ) (words : List ℕ) (first now : List Station) (place : ℕ) → place ≡ length now → AreLoaded address sub words place first now →
    (i : ℕ) (a b : Station) → slice_get first i ≡ Some a → slice_get now i ≡ Some b → TakesLoad address sub words a b
all-loaded address sub words first now place whole loaded i a b was at =
    let within = slice_get_within now i b at in
    loaded.done i a b (omega (arith, within, whole)) was at

-- the row stands for the loads with this one
pub row-loaded : (most : ℕ) (w : Setting) (found : List Attempt) (count : ℕ) (shown : Pair) (past : List Pair) (address sub : ℕ) (words : List ℕ)
    (old new : StationRow) → length new.stations.items ≡ length old.stations.items →
    ((i : ℕ) (a b : Station) → slice_get old.stations.items i ≡ Some a → slice_get new.stations.items i ≡ Some b → TakesLoad address sub words a b) →
    new.present ≡ old.present → new.attempts ≡ old.attempts → new.objects ≡ old.objects → new.delivering ≡ old.delivering → new.taken ≡ old.taken →
    new.receiver ≡ old.receiver → RowCalls new → RowKeeps most w found count old (shown ∷ past) →
    RowKeeps most (with_load w (record { tick = length past; address = address; sub = sub; words = words })) found count new (shown ∷ past)
row-loaded most w found count shown past address sub words old new all each present attempts objects delivering taken receiver calls st =
    let before : (i : ℕ) (b : Station) → slice_get new.stations.items i ≡ Some b → (a : Station) × (slice_get old.stations.items i ≡ Some a) =
    λ i b at. found-at old.stations.items i (let within = slice_get_within new.stations.items i b at in omega (arith, within, all)) in
    record {
      stations = record {
        all = all ∙ st.stations.all;
        each = λ i s value there at here.
            let (a, was) = before i value at in
            (each i a value was at).keeps s (starts w.plan s) w.loads w.outside shown past (st.stations.each i s a there was here);
      };
      present_are = ap (λ v. v.items) present ∙ st.present_are;
      attempts_are = ap (λ v. v.items) attempts ∙ st.attempts_are;
      room = (let same = ap (λ v. vec_capacity v) attempts in let room = st.room in omega (arith, all, same, room));
      taken_room = (let same = ap (λ v. vec_capacity v) taken in let room = st.taken_room in omega (arith, all, same, room));
      objects = subst (λ v. ObjectsIn (with_load w (record { tick = length past; address = address; sub = sub; words = words })) v.items) (sym objects)
          (record { all = st.objects.all; there = st.objects.there; whole = st.objects.whole; apart = st.objects.apart });
      delivering_is = delivering ∙ st.delivering_is;
      delivering_few = st.delivering_few;
      receiver = subst (λ r. ReceiverStands LAG r (shown ∷ past)) (sym receiver) st.receiver;
      in_step = λ i s value there at here.
          let (a, was) = before i value at in
          subst (λ (r : Receiver). InStep LAG s (starts w.plan s) (loads_with w.loads past address sub words) w.outside value r.cutters (shown ∷ past))
          (sym receiver)
          ((each i a value was at).in_step s (starts w.plan s) w.loads w.outside old.receiver.cutters shown past (st.stations.each i s a there was here)
          (st.in_step i s a there was here));
      calls = calls;
    }
