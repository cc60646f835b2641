-- Stations of which nothing is due, over fewer ticks, and over quiet ticks.
use Rattle.std.proofs.Common.{◌≡◌, inl, inr, ℕ, zero, suc, ◌+◌, ◌<◌, ◌≤◌, Bool, false, List, [], ◌∷◌, ◌++◌, length, None, refl, ap, ◌∙◌, arith}
use Rattle.std.proofs.lemmas.Bool.{ne_eqb}
use Rattle.std.proofs.lemmas.List.{append-nil}
use Rattle.std.proofs.lemmas.List.Elements.{All-head}
use Rattle.std.specs.Prelude.{◌==◌, flat_map, option_map}
use Rattle.std.specs.List.{All}
use Rattle.bus_base.specs.Samples.{quiet_pairs}
use Rattle.bus_base.specs.declared.samples.Pair.{Pair}
use Rattle.bus_formats.specs.Plans.{StationData}
use Rattle.bus_formats.specs.declared.log.Attempt.{Attempt}
use Rattle.bus_model.specs.Course.{Course}
use Rattle.bus_model.specs.Memory.{TimedLoad}
use Rattle.bus_model.specs.Starts.{starts}
use Rattle.bus_model.specs.Control.{OutsideTake, so_far}
use Rattle.bus_model.specs.World.{is_present}
use Rattle.bus_model.specs.WorldLog.{present_stations, attempt_at, ended_by, attempts}
use Rattle.bus_law_control.proofs.Holding.{ended-before}
use Rattle.bus_law_stations.specs.Silence.{StationRests}
use Rattle.bus_law_stations.proofs.StillController.{pairs-long}
use Rattle.bus_law_stations.proofs.StillStation.{still-after}
use Rattle.bus_law_table.specs.Happened.{block_at, took_in, blocks_in as blocks_now, blocks_found}
use Rattle.bus_law_table.proofs.Pairing.{Each, none-each, each-filter}
use Rattle.bus_law_table.proofs.Still.{rests-takes}
use Rattle.bus_law_phases.specs.Scenarios.{Scenario, blocks_in, attempts_in, course_of, standing_of, IsPresentAt}
use Rattle.bus_law_phases.specs.Silences.{AllRest}

-- ---- fewer ticks

pub rests-fewer : (k : ℕ) (station : StationData) (starts : Bool) (loads : List TimedLoad) (outside : List OutsideTake) (past : List Pair) (n m : ℕ) →
    m ≤ n → StationRests k station starts loads outside past n → StationRests k station starts loads outside past m
rests-fewer k station starts loads outside past n m few h = record {
  controller = record {
    waits = λ begun is. let x = h.controller.waits begun is in (x.0, x.1, omega (arith, x.2, few));
    starts = λ idle holds entry later left. let late = h.controller.starts idle holds entry later left in omega (arith, late, few);
  };
  terminal = record {
    rests_a = h.terminal.rests_a;
    rests_b = h.terminal.rests_b;
    answer = λ owed. elim (h.terminal.answer owed) [
      | inl early ↦ inl (omega (arith, early, few))
      | inr over ↦ inr over
    ];
    promise = λ made. elim (h.terminal.promise made) [
      | inl early ↦ inl (omega (arith, early, few))
      | inr out ↦ inr out
    ];
  };
  serves = λ tick low high. h.serves tick low (omega (arith, high, few));
}

module _ (w : Scenario) (past : List Pair) where
  pub all-fewer : (n m : ℕ) → m ≤ n → AllRest w past n → AllRest w past m
  all-fewer n m few rests place station at =
      rests-fewer w.lag station (starts w.plan station) w.loads w.outside past n m few (rests place station at)

  -- ---- a fact of each station that is present

  pub each-present : (P : StationData → Type 0) → ((place : ℕ) (station : StationData) → IsPresentAt w place station → P station) →
      Each P (present_stations w.lag w.plan w.loads w.outside w.absent)
  each-present P make =
      each-filter P (is_present w.absent) w.plan.stations (λ place station there is. make place station record { there = there; present = is })

-- ---- no block is taken, and no attempt ends

pub no-attempt : (w : Scenario) (address tick n : ℕ) (ended : List Attempt) → n ≤ tick → All (λ (a : Attempt). a.ended.0 < n) ended →
    attempt_at w.lag w.plan w.loads w.outside w.absent address tick ended ≡ []
no-attempt w address tick n [] late before = refl
no-attempt w address tick n (attempt ∷ ended) late before =
    let early : attempt.ended.0 < n = All-head (λ (a : Attempt). a.ended.0 < n) attempt ended before in
    let other : (attempt.ended.0 == tick) ≡ false = ne_eqb attempt.ended.0 tick (λ same. omega (arith, same, early, late)) in rw other refl

pub none-of-each : {X Y : Type 0} (P : X → Type 0) (f : X → List Y) (xs : List X) → Each P xs → ((x : X) → P x → f x ≡ []) → flat_map f xs ≡ []
none-of-each P f [] each none = refl
none-of-each P f (x ∷ xs) each none = rw (none x each.0) (none-of-each P f xs each.1 none)

module _ (w : Scenario) (past : List Pair) where
  abbrev later : ℕ → List Pair
  later n = quiet_pairs n ++ past

  pub course-still : (n : ℕ) → AllRest w past n → (place : ℕ) (station : StationData) → IsPresentAt w place station →
      course_of w station (later n) ≡ course_of w station past
  course-still n rests place station at = still-after w.lag station (starts w.plan station) w.loads w.outside past n (rests place station at)

  took-nothing : (n tick : ℕ) → AllRest w past (suc n) → (place : ℕ) (station : StationData) → IsPresentAt w place station →
      took_in w.lag w.plan w.loads w.outside w.absent (later (suc n)) tick station ≡ None
  took-nothing n tick rests place station at =
      ap (option_map (block_at tick (standing_of w station (later (suc n))).channel station))
      (rests-takes w.lag w.plan w.loads w.outside w.absent station past n (rests place station at))

  pub blocks-still : (n : ℕ) → AllRest w past n → blocks_in w (later n) ≡ blocks_in w past
  unfolding blocks_found
  blocks-still zero rests = refl
  blocks-still (suc n) rests =
      let tick = length (later n) in
      let none : blocks_now w.lag w.plan w.loads w.outside w.absent (later (suc n)) tick ≡ [] =
      none-each (λ st. took_in w.lag w.plan w.loads w.outside w.absent (later (suc n)) tick st ≡ None)
      (took_in w.lag w.plan w.loads w.outside w.absent (later (suc n)) tick) (present_stations w.lag w.plan w.loads w.outside w.absent)
      (each-present w past (λ st. took_in w.lag w.plan w.loads w.outside w.absent (later (suc n)) tick st ≡ None) (took-nothing n tick rests))
      (λ st is. is) in
      ap (λ bs. blocks_in w (later n) ++ bs) none ∙ append-nil (blocks_in w (later n)) ∙ blocks-still n (all-fewer w past (suc n) n (omega arith) rests)

  ended-nothing : (n : ℕ) → AllRest w past (suc n) → (place : ℕ) (station : StationData) → IsPresentAt w place station →
      ended_by w.lag w.plan w.loads w.outside w.absent (later (suc n)) (length (later n)) station ≡ []
  ended-nothing n rests place station at =
      let long : length (quiet_pairs n ++ past) ≡ n + length past = pairs-long n past in
      ap (λ (c : Course). attempt_at w.lag w.plan w.loads w.outside w.absent station.terminal.address (length (later n)) c.ended) (course-still (suc n) rests place station at)
      ∙ no-attempt w station.terminal.address (length (later n)) (length past) (course_of w station past).ended (omega (arith, long))
      (ended-before w.lag station (starts w.plan station) (so_far w.lag station (starts w.plan station) w.loads w.outside past).takes past)

  pub attempts-still : (n : ℕ) → AllRest w past n → attempts_in w (later n) ≡ attempts_in w past
  unfolding attempts
  attempts-still zero rests = refl
  attempts-still (suc n) rests =
      let none : flat_map (ended_by w.lag w.plan w.loads w.outside w.absent (later (suc n)) (length (later n)))
      (present_stations w.lag w.plan w.loads w.outside w.absent) ≡ [] =
      none-of-each (λ st. ended_by w.lag w.plan w.loads w.outside w.absent (later (suc n)) (length (later n)) st ≡ [])
      (ended_by w.lag w.plan w.loads w.outside w.absent (later (suc n)) (length (later n)))
      (present_stations w.lag w.plan w.loads w.outside w.absent)
      (each-present w past (λ st. ended_by w.lag w.plan w.loads w.outside w.absent (later (suc n)) (length (later n)) st ≡ []) (ended-nothing n rests))
      (λ st is. is) in
      ap (λ xs. attempts_in w (later n) ++ xs) none ∙ append-nil (attempts_in w (later n)) ∙ attempts-still n (all-fewer w past (suc n) n (omega arith) rests)
