-- A serving station whose terminal keeps what it kept: the table's station stays the same, but for the blocks that are put up for sending.
use Rattle.std.proofs.Common.{◌≡◌, inr, ℕ, suc, ◌+◌, ◌<◌, ◌≤◌, Bool, true, false, not, List, [], ◌∷◌, ◌++◌, length, None, sym, ap, ◌∙◌, arith, length-append}
use Rattle.std.proofs.lemmas.Bool.{true≢false}
use Rattle.std.proofs.lemmas.Option.{none-some}
use Rattle.bus_base.specs.declared.samples.Channel.TheVariants.{A, B}
use Rattle.bus_base.specs.Samples.{same_channel}
use Rattle.bus_base.specs.declared.samples.Pair.{Pair}
use Rattle.bus_formats.specs.Plans.{StationData, PlanData}
use Rattle.bus_model.specs.Memory.{TimedLoad, with_loads}
use Rattle.bus_model.specs.Message.{Present}
use Rattle.bus_model.specs.Hearing.{Hearing}
use Rattle.bus_model.specs.Standing.{Standing, is_promise, superseded, promised_on}
use Rattle.bus_model.specs.Starts.{starts}
use Rattle.bus_model.specs.Terminal.{standing_after, took_now}
use Rattle.bus_model.specs.Course.{Course}
use Rattle.bus_model.specs.Control.{OutsideTake, StationSoFar, outside_takes, course_after, hearing_after}
use Rattle.bus_model.specs.WorldLog.{present_after}
use Rattle.bus_base.specs.Samples.{quiet_pairs}
use Rattle.bus_law_stations.specs.Silence.{quiet_moments, NothingDue, StationRests}
use Rattle.bus_law_stations.proofs.Ready.{three-first}
use Rattle.bus_law_stations.proofs.StillStation.{still-so-far, still-after, still-terminal}
use Rattle.bus_law_stations.proofs.StillTerminal.{still-takes}
use Rattle.bus_law_messages.specs.Settled.{IsServing}
use Rattle.bus_law_messages.proofs.Heard.{hearing-long}
use Rattle.bus_law_table.specs.Stations.{loaded_at}
use Rattle.bus_law_table.proofs.Loads.{loaded-alike}

module _ (k : ℕ) (plan : PlanData) (loads : List TimedLoad) (outside : List OutsideTake) (absent : List ℕ) (station : StationData) where
  abbrev hearing : List Pair → Hearing
  hearing past = hearing_after k station (starts plan station) loads outside past

  abbrev stands : List Pair → Standing
  stands past = standing_after k station.terminal loads (hearing past)

  abbrev course : List Pair → Course
  course past = course_after k station (starts plan station) loads outside past

  abbrev present : List Pair → Present
  present past = present_after k plan loads outside absent past station

  -- what it keeps, by what stands of its terminal
  keeps-by : (past : List Pair) → (present past).memory ≡ with_loads station.terminal.address (length past) loads (stands past).memory
  keeps-by past =
      ap (λ n. with_loads station.terminal.address n loads (stands past).memory) (hearing-long k station (starts plan station) loads outside past)

  pub still-told : (past ticks : List Pair) (p : Present) → present past ≡ loaded_at loads (length past) p → course (ticks ++ past) ≡ course past →
      (stands (ticks ++ past)).memory ≡ (stands past).memory → present (ticks ++ past) ≡ loaded_at loads (length (ticks ++ past)) p
  still-told past ticks p same still kept =
      let now = length (ticks ++ past) in
      let long : length (ticks ++ past) ≡ length ticks + length past = length-append ticks past in
      let plan_is : station ≡ p.plan = ap (λ (q : Present). q.plan) same in
      let before : with_loads station.terminal.address (length past) loads (stands past).memory
      ≡ with_loads station.terminal.address (length past) loads p.memory =
      sym (keeps-by past) ∙ ap (λ (q : Present). q.memory) same
      ∙ sym (ap (λ (st : StationData). with_loads st.terminal.address (length past) loads p.memory) plan_is) in
      let memory : (present (ticks ++ past)).memory ≡ (loaded_at loads now p).memory =
      keeps-by (ticks ++ past)
      ∙ ap (with_loads station.terminal.address now loads) kept
      ∙ loaded-alike station.terminal.address (length past) now loads (stands past).memory p.memory (omega (arith, long)) before
      ∙ ap (λ (st : StationData). with_loads st.terminal.address now loads p.memory) plan_is in
      ap (λ (c : Course). record {
        plan = station;
        memory = (present (ticks ++ past)).memory;
        left = c.left;
        live = c.live;
        serves = not c.holds;
      }) still
      ∙ ap (λ m. record (present past) { memory = m }) memory
      ∙ ap (λ (q : Present). record q { memory = (loaded_at loads now p).memory }) same

  -- ---- quiet ticks

  module _ (past : List Pair) (n : ℕ) (rests : StationRests k station (starts plan station) loads outside past n) where
    pub rests-told : (p : Present) → present past ≡ loaded_at loads (length past) p →
        present (quiet_pairs n ++ past) ≡ loaded_at loads (length (quiet_pairs n ++ past)) p
    rests-told p same =
        still-told past (quiet_pairs n) p same (still-after k station (starts plan station) loads outside past n rests)
        (ap (λ (s : Standing). s.memory) (still-terminal k station (starts plan station) loads outside past n rests))

  took-quiet : (past : List Pair) (n : ℕ) (mays : List Bool) → length mays ≡ suc n →
      NothingDue k station.terminal (stands past) (hearing past).ticks (suc n) →
      took_now k station.terminal loads record { memory = (hearing past).memory; ticks = quiet_moments mays ++ (hearing past).ticks } ≡ None
  took-quiet past n [] many due = absurd (omega (arith, many))
  took-quiet past n (may ∷ mays) many due =
      let enough : suc n ≡ suc (length mays) = sym many in
      still-takes k station.terminal loads (hearing past).memory (hearing past).ticks may mays (rw enough at due)

  pub rests-takes : (past : List Pair) (n : ℕ) → StationRests k station (starts plan station) loads outside past (suc n) →
      took_now k station.terminal loads (hearing (quiet_pairs (suc n) ++ past)) ≡ None
  rests-takes past n rests =
      let so = still-so-far k station (starts plan station) loads outside past (suc n) rests in
      ap (λ (b : StationSoFar). took_now k station.terminal loads b.hearing) so.2 ∙ took-quiet past n so.0 so.1 rests.terminal

  -- ---- a free one

  promised-not : (s : Standing) → is_promise s.duty ≡ false → promised_on k s s.channel ≡ true → ⊥
  promised-not s none made = true≢false (sym made ∙ three-first (is_promise s.duty) (same_channel s.channel s.channel) (not (superseded k s)) none)

  pub serving-rests : (past : List Pair) → IsServing k station (starts plan station) loads outside past → (n : ℕ) →
      ((tick : ℕ) → length past ≤ tick → tick < length past + n → outside_takes k station (starts plan station) loads outside tick outside ≡ []) →
      StationRests k station (starts plan station) loads outside past n
  serving-rests past serving n stays = record {
    controller = record {
      waits = λ begun runs. absurd (none-some begun (sym serving.serves.idle ∙ runs));
      starts = λ idle holds entry later left. absurd (true≢false (sym holds ∙ serving.serves.serves));
    };
    terminal = record {
      rests_a = serving.free.rests A;
      rests_b = serving.free.rests B;
      answer = λ owed. inr (inr (serving.free.over owed));
      promise = λ made. absurd (promised-not (stands past) serving.free.promise made);
    };
    serves = stays;
  }
