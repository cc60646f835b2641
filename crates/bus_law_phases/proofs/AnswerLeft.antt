-- One station where the end of an answer becomes known: it is what the message table says, and took the block that the table says.
use Rattle.std.proofs.Common.{◌≡◌, ℕ, suc, ◌+◌, ◌%◌, ◌<◌, ◌≤◌, true, false, List, [], ◌∷◌, ◌++◌, length, Option, Some, None, refl, sym, ap, ◌∙◌, subst, arith, length-append}
use Rattle.std.proofs.lemmas.Bool.{true≢false}
use Rattle.std.proofs.lemmas.Option.{none-some}
use Rattle.std.specs.Prelude.{not, option_map}
use Rattle.bus_base.specs.Samples.{other_of}
use Rattle.bus_base.specs.declared.samples.Channel.{Channel}
use Rattle.bus_base.specs.declared.samples.Pair.{Pair}
use Rattle.bus_base.specs.declared.samples.Part.{Part}
use Rattle.bus_base.specs.declared.samples.Part.TheVariants.{Second}
use Rattle.bus_words.specs.declared.word.Word.{Word}
use Rattle.bus_line.specs.Past.{Burst, quiet_ticks, rest_of}
use Rattle.bus_line.specs.Channels.{on_channel}
use Rattle.bus_formats.specs.Plans.{StationData}
use Rattle.bus_formats.specs.declared.fault.Hit.{Hit}
use Rattle.bus_model.specs.Memory.{Memory, with_loads}
use Rattle.bus_model.specs.Message.{Present, After, unmoved, delivered, moved, memory_at, after_answer_of, after_answer}
use Rattle.bus_model.specs.Orders.{Duty, free, owes, promises, Taken, Obeyed, Order, last_order, due_after, keep_promise}
use Rattle.bus_model.specs.Standing.{Standing, is_owed, is_promise}
use Rattle.bus_model.specs.Starts.{starts}
use Rattle.bus_model.specs.Strikes.{ShownBurst, struck, burst_end}
use Rattle.bus_model.specs.Terminal.{took_now}
use Rattle.bus_model.specs.Course.{Course}
use Rattle.bus_model.specs.Control.{outside_takes}
use Rattle.bus_law_control.proofs.Holding.{heard-nothing}
use Rattle.bus_law_duties.proofs.Settled.{none-stands, others-stay}
use Rattle.bus_law_line.specs.Shown.{first_samples}
use Rattle.bus_law_parts.specs.Parts.{part_ticks, part_sample, HitsFit}
use Rattle.bus_law_messages.specs.Promises.{Listens, HeardBurst}
use Rattle.bus_law_messages.proofs.Heard.{hearing-long}
use Rattle.bus_law_stations.specs.Legs.{settled_in, after_promise}
use Rattle.bus_law_stations.specs.Turns.{KeepsControl}
use Rattle.bus_law_table.specs.Happened.{block_at, took_in}
use Rattle.bus_law_table.specs.Stations.{loaded_at}
use Rattle.bus_law_table.proofs.Loads.{loaded-alike}
use Rattle.bus_law_table.proofs.Takes.{unheard-alike}
use Rattle.bus_law_phases.specs.Moments.{HasDuty, Owes, Promises, IsHolder, IsServer}
use Rattle.bus_law_phases.specs.PartRuns.{burst_shown, RunsAlone}
use Rattle.bus_law_phases.specs.Scenarios.{Scenario, course_of, hearing_of, standing_of, present_of, IsPresentAt, NoneTakesFrom}
use Rattle.bus_law_phases.proofs.AnswerSending.{listens-from}
use Rattle.bus_law_phases.proofs.AnswerSpeaking.{replies-from, spoken-keeps, spoken-same, spoken-takes, spoken-serving}
use Rattle.bus_law_phases.proofs.PartLeft.{heard, left-serving, settled-owes}

-- ---- a station of the table and of the world

-- a station whose controller did nothing, and whose terminal keeps this memory
pub told-with : (w : Scenario) (past ticks : List Pair) (station : StationData) (p : Present) (m : Memory) →
    present_of w station past ≡ loaded_at w.loads (length past) p → course_of w station (ticks ++ past) ≡ course_of w station past →
    with_loads station.terminal.address (length (ticks ++ past)) w.loads (standing_of w station (ticks ++ past)).memory
    ≡ with_loads station.terminal.address (length (ticks ++ past)) w.loads m →
    present_of w station (ticks ++ past) ≡ loaded_at w.loads (length (ticks ++ past)) (record p { memory = m })
told-with w past ticks station p m same still kept =
    let now = length (ticks ++ past) in
    let plan_is : station ≡ p.plan = ap (λ (q : Present). q.plan) same in
    let memory : (present_of w station (ticks ++ past)).memory ≡ with_loads p.plan.terminal.address now w.loads m =
    ap (λ n. with_loads station.terminal.address n w.loads (standing_of w station (ticks ++ past)).memory)
    (hearing-long w.lag station (starts w.plan station) w.loads w.outside (ticks ++ past))
    ∙ kept
    ∙ ap (λ (st : StationData). with_loads st.terminal.address now w.loads m) plan_is in
    ap (λ (c : Course). record {
      plan = station;
      memory = (present_of w station (ticks ++ past)).memory;
      left = c.left;
      live = c.live;
      serves = not c.holds;
    }) still
    ∙ ap (λ x. record (present_of w station past) { memory = x }) memory
    ∙ ap (λ (q : Present). record q { memory = with_loads p.plan.terminal.address now w.loads m }) same

-- what it keeps, with the loads of a later tick
pub alike-later : (w : Scenario) (past : List Pair) (station : StationData) (p : Present) (n : ℕ) →
    present_of w station past ≡ loaded_at w.loads (length past) p → length past ≤ n →
    with_loads station.terminal.address n w.loads (standing_of w station past).memory ≡ with_loads station.terminal.address n w.loads p.memory
alike-later w past station p n same late =
    let plan_is : station ≡ p.plan = ap (λ (q : Present). q.plan) same in
    loaded-alike station.terminal.address (length past) n w.loads (standing_of w station past).memory p.memory late
    (sym (ap (λ m. with_loads station.terminal.address m w.loads (standing_of w station past).memory)
    (hearing-long w.lag station (starts w.plan station) w.loads w.outside past))
    ∙ ap (λ (q : Present). q.memory) same
    ∙ sym (ap (λ (st : StationData). with_loads st.terminal.address (length past) w.loads p.memory) plan_is))

-- the terminal of the one in control keeps what it kept, since it hears nothing while control is kept
pub holder-left : (w : Scenario) (past ticks : List Pair) (holder : StationData) → (course_of w holder past).holds ≡ true →
    KeepsControl w.lag holder (starts w.plan holder) w.loads w.outside past ticks → (after : After) → IsHolder w past holder after →
    IsHolder w (ticks ++ past) holder (unmoved after.station)
holder-left w past ticks holder holds kept after is =
    let same : with_loads holder.terminal.address (length past) w.loads after.station.memory ≡ (present_of w holder past).memory =
    ap (λ (st : StationData). with_loads st.terminal.address (length past) w.loads after.station.memory) (sym is.plan) ∙ sym is.memory in
    record {
      plan = is.plan;
      memory = sym (unheard-alike w.lag holder (starts w.plan holder) w.loads w.outside past ticks
          (heard-nothing w.lag holder (starts w.plan holder) w.loads w.outside past holds) kept after.station.memory same)
          ∙ sym (ap (λ (st : StationData). with_loads st.terminal.address (length (ticks ++ past)) w.loads after.station.memory) is.plan);
      serves = is.serves;
      duty = refl;
    }

-- ---- the end of the answer

-- an answer's burst, as the message table has it
abbrev pub answer_burst : Channel → ℕ → List Hit → List Word → ShownBurst
answer_burst c start hits words = record { channel = c; start = start; slots = struck hits words; rest = 0 }

-- a station that serves is what the table has of it after the answer, and took the same block
pub record IsSettled (w : Scenario) (before past : List Pair) (tick : ℕ) (c : Channel) (answer : ShownBurst) (station : StationData) (after : After) :
    Type 0 where
  pub course : course_of w station past ≡ course_of w station before
  pub server : IsServer w past c (burst_end answer) Second station (after_answer w.lag w.loads answer after)
  pub took : took_in w.lag w.plan w.loads w.outside w.absent past tick station
      ≡ option_map (delivered tick c (after_answer w.lag w.loads answer after)) (after_answer w.lag w.loads answer after).taken

pub took-none : (w : Scenario) (past : List Pair) (tick : ℕ) (station : StationData) →
    took_now w.lag station.terminal w.loads (hearing_of w station past) ≡ None → took_in w.lag w.plan w.loads w.outside w.absent past tick station ≡ None
took-none w past tick station none = ap (option_map (block_at tick (standing_of w station past).channel station)) none

module _ (w : Scenario) (past : List Pair) (x : Pair) (ticks : List Pair) (c : Channel) (part : Part) (hits : List Hit) (words : List Word) (e : ℕ)
    (lag : w.lag ≡ 3) (some : 0 < part_ticks hits words) (fits : HitsFit part hits words) (many : length ticks ≡ w.lag + part_ticks hits words)
    (alone : RunsAlone w.lag c ticks)
    (shown : on_channel c (x ∷ ticks) ≡ first_samples (part_sample hits words) (part_ticks hits words + suc w.lag))
    (quiet : on_channel (other_of c) (x ∷ ticks) ≡ quiet_ticks (length (x ∷ ticks)))
    (stays : NoneTakesFrom w (length past)) (other : ℕ) (station : StationData) (at : IsPresentAt w other station) (after : After)
    (server : IsServer w past c e part station after) where
  abbrev burst : Burst
  burst = burst_shown (length past) hits words

  abbrev answer : ShownBurst
  answer = answer_burst c (length past) hits words

  abbrev later : List Pair
  later = (x ∷ ticks) ++ past

  abbrev tick : ℕ
  tick = burst_end answer + w.lag

  abbrev s : Standing
  s = standing_of w station past

  stays-for : (i : ℕ) → length past ≤ i → i < length past + length (x ∷ ticks) →
      outside_takes w.lag station (starts w.plan station) w.loads w.outside i w.outside ≡ []
  stays-for i low high = stays other station at i low

  long : length later ≡ length past + part_ticks hits words + suc w.lag
  long = let both : length ((x ∷ ticks) ++ past) ≡ length (x ∷ ticks) + length past = length-append (x ∷ ticks) past in omega (arith, both, many)

  same-end : length past + part_ticks hits words ≡ burst_end answer
  same-end = omega arith

  -- who promised nothing is as it was, where its controller and its memory are as before, and it is free
  is-still : is_promise after.duty ≡ false → course_of w station later ≡ course_of w station past → (standing_of w station later).memory ≡ s.memory →
      HasDuty w later station c (burst_end answer) Second free → took_now w.lag station.terminal w.loads (hearing_of w station later) ≡ None →
      IsSettled w past later tick c answer station after
  is-still none course memory has took =
      let a = others-stay w.lag w.loads answer after none in
      let now = length later in
      record {
        course = course;
        server = subst (IsServer w later c (burst_end answer) Second station) (sym a) record {
          is = told-with w past (x ∷ ticks) station after.station after.station.memory server.is course
              (ap (with_loads station.terminal.address now w.loads) memory ∙ alike-later w past station after.station now server.is (omega (arith, long)));
          duty = has;
        };
        took = took-none w later tick station took ∙ sym (ap (λ (b : After). option_map (delivered tick c b) b.taken) a);
      }

  -- ---- the one that answered

  pub spoken-settled : after.duty ≡ owes words false → due_after station.terminal e ≡ length past → IsSettled w past later tick c answer station after
  spoken-settled owed due = by-ticks ticks many alone refl where
    owed-now : Owes w past station c e part words false
    owed-now = subst (HasDuty w past station c e part) owed server.duty

    by-ticks : (ms : List Pair) → length ms ≡ w.lag + part_ticks hits words → RunsAlone w.lag c ms → ticks ≡ ms → IsSettled w past later tick c answer station after
    by-ticks [] none runs is = absurd (omega (arith, none, some))
    by-ticks (y ∷ ms) count runs is =
        let replies = replies-from w past station c e part words owed-now due in
        let hush : on_channel (other_of c) (x ∷ (y ∷ ms)) ≡ quiet_ticks (length (x ∷ (y ∷ ms))) =
        subst (λ ts. on_channel (other_of c) (x ∷ ts) ≡ quiet_ticks (length (x ∷ ts))) is quiet in
        let shows : on_channel c (x ∷ (y ∷ ms)) ≡ first_samples (part_sample hits words) (part_ticks hits words + suc w.lag) =
        subst (λ ts. on_channel c (x ∷ ts) ≡ first_samples (part_sample hits words) (part_ticks hits words + suc w.lag)) is shown in
        let stays_on : (i : ℕ) → length past ≤ i → i < length past + length (x ∷ (y ∷ ms)) →
        outside_takes w.lag station (starts w.plan station) w.loads w.outside i w.outside ≡ [] = λ i low high. stays other station at i low in
        let back : (y ∷ ms) ≡ ticks = sym is in
        is-still (ap is_promise owed)
        (subst (λ ts. course_of w station ((x ∷ ts) ++ past) ≡ course_of w station past) back
        (spoken-same w.lag station (starts w.plan station) w.loads w.outside past c part words replies x y ms runs stays_on hush))
        (subst (λ ts. (standing_of w station ((x ∷ ts) ++ past)).memory ≡ (standing_of w station past).memory) back
        (spoken-keeps w.lag station (starts w.plan station) w.loads w.outside past c part words replies x y ms runs stays_on hush))
        (subst (λ ts. HasDuty w ((x ∷ ts) ++ past) station c (burst_end answer) Second free) back
        (spoken-serving w.lag station (starts w.plan station) w.loads w.outside past c part words replies x y ms runs stays_on hush hits lag fits some shows))
        (subst (λ ts. took_now w.lag station.terminal w.loads (hearing_of w station ((x ∷ ts) ++ past)) ≡ None) back
        (spoken-takes w.lag station (starts w.plan station) w.loads w.outside past c part words replies x y ms runs stays_on hush))

  -- ---- one that listened

  module _ (unowed : is_owed after.duty ≡ false) (unaddressed : last_order station.terminal.address (struck hits words) ≡ None)
      (prompt : 8 ≤ station.terminal.delay) where
    listens : Listens w.lag station (starts w.plan station) w.loads w.outside past c
    listens = listens-from w past station c e part after.duty server.duty unowed

    heard-it : HeardBurst w.lag station (starts w.plan station) w.loads w.outside past (x ∷ ticks) c burst
    heard-it = heard w past station c listens x ticks part hits words lag some fits many alone.leg shown quiet stays-for

    not-ordered : (order : Order) → last_order station.terminal.address burst.slots ≡ Some order → ⊥
    not-ordered order is = none-some order (sym unaddressed ∙ is)

    free-settled : after.duty ≡ free → IsSettled w past later tick c answer station after
    free-settled is =
        let has : HasDuty w past station c e part free = subst (HasDuty w past station c e part) is server.duty in
        let o = heard-it.passed unaddressed has.free.promise in
        is-still (ap is_promise is) heard-it.course (ap (λ (u : Standing). u.memory) o.0)
        (left-serving w past station c listens x ticks part hits words lag some fits many alone.leg shown quiet stays-for
        (λ order found. absurd (not-ordered order found))
        (λ command transmitter none made. absurd (true≢false (sym (ap is_promise made) ∙ has.free.promise))))
        o.1

    -- ---- one that promised

    module _ (command transmitter : ℕ) (is : after.duty ≡ promises command transmitter) where
      made : Promises w past station c e command transmitter
      made = subst (HasDuty w past station c e part) is server.duty

      -- what the table says of it, and what its terminal makes of the burst
      abbrev told : Obeyed
      told = keep_promise after.station.plan.terminal (memory_at w.lag w.loads answer after.station) c command transmitter answer.slots answer.rest

      abbrev settles : ℕ → ℕ → Obeyed
      settles m t = settled_in station.terminal w.loads (length past + part_ticks hits words + w.lag) s c m t burst

      same-rest : rest_of burst ≡ 0
      same-rest = let none : part_ticks hits words % 40 ≡ 0 = omega arith in none

      same-told : settles command transmitter ≡ told
      same-told =
          let plan_is : station ≡ after.station.plan = ap (λ (q : Present). q.plan) server.is in
          let at_tick : length past + part_ticks hits words + w.lag ≡ tick = omega arith in
          ap (λ m. keep_promise station.terminal m c command transmitter (struck hits words) (rest_of burst))
          (ap (λ n. with_loads station.terminal.address n w.loads s.memory) at_tick
          ∙ alike-later w past station after.station tick server.is (omega arith))
          ∙ ap (keep_promise station.terminal (with_loads station.terminal.address tick w.loads after.station.memory) c command transmitter (struck hits words))
          same-rest
          ∙ ap (λ (st : StationData). keep_promise st.terminal (with_loads st.terminal.address tick w.loads after.station.memory) c command transmitter
          (struck hits words) 0) plan_is

      after-is : after_answer w.lag w.loads answer after ≡ moved after.station told
      after-is = ap (after_answer_of w.lag w.loads answer after.station) is

      stands : standing_of w station later ≡ after_promise s (length past + part_ticks hits words) (settles command transmitter)
      stands = (heard-it.settled command transmitter unaddressed made.duty).0

      same-promise : (m t : ℕ) → s.duty ≡ promises m t → (command ≡ m) × (transmitter ≡ t)
      same-promise m t other = let both : promises command transmitter ≡ promises m t = sym made.duty ∙ other in (cc, cc)

      duty-then : (d : Duty) → told.duty ≡ d → is_promise d ≡ false → HasDuty w later station c (burst_end answer) Second d
      duty-then free none calm =
          left-serving w past station c listens x ticks part hits words lag some fits many alone.leg shown quiet stays-for
          (λ order found. absurd (not-ordered order found))
          (λ m t last other. let p = same-promise m t other in
          ap (λ n. (settles n t).duty) (sym p.0) ∙ ap (λ n. (settles command n).duty) (sym p.1) ∙ ap (λ (o : Obeyed). o.duty) same-told ∙ none)
      duty-then (owes ws acceptance) owed calm =
          subst (λ n. Owes w later station c n Second ws acceptance) same-end
          (settled-owes w past station c listens x ticks part hits words lag some fits many alone.leg shown quiet stays-for command transmitter ws acceptance
          unaddressed made.duty made.channel (ap (λ (o : Obeyed). o.duty) same-told ∙ owed) (omega (arith, long, prompt, lag)))
      duty-then (promises m t) again calm = absurd (true≢false calm)

      taken-so : (o : Option Taken) → option_map (block_at tick c station) o ≡ option_map (delivered tick c (moved after.station told)) o
      taken-so None = refl
      taken-so (Some taken) =
          ap (λ (st : StationData). Some (block_at tick c st taken)) (ap (λ (q : Present). q.plan) server.is)

      pub promised-settled : IsSettled w past later tick c answer station after
      promised-settled =
          let now = length later in
          record {
            course = heard-it.course;
            server = subst (IsServer w later c (burst_end answer) Second station) (sym after-is) record {
              is = told-with w past (x ∷ ticks) station after.station told.memory server.is heard-it.course
                  (ap (λ (u : Standing). with_loads station.terminal.address now w.loads u.memory) stands
                  ∙ ap (λ (o : Obeyed). with_loads station.terminal.address now w.loads o.memory) same-told);
              duty = duty-then told.duty refl
                  (ap (λ (b : After). is_promise b.duty) (sym after-is) ∙ none-stands w.lag w.loads answer after);
            };
            took = ap (λ (u : Standing). option_map (block_at tick u.channel station) (took_now w.lag station.terminal w.loads (hearing_of w station later))) stands
                ∙ ap (λ d. option_map (block_at tick d station) (took_now w.lag station.terminal w.loads (hearing_of w station later))) made.channel
                ∙ ap (option_map (block_at tick c station)) ((heard-it.settled command transmitter unaddressed made.duty).1
                ∙ ap (λ (o : Obeyed). o.taken) same-told)
                ∙ taken-so told.taken
                ∙ sym (ap (λ (b : After). option_map (delivered tick c b) b.taken) after-is);
          }

    -- ---- each of them

    by-duty : (duty : Duty) → after.duty ≡ duty → IsSettled w past later tick c answer station after
    by-duty free is = free-settled is
    by-duty (promises command transmitter) is = promised-settled command transmitter is
    by-duty (owes ws acceptance) is = absurd (true≢false (sym (ap is_owed is) ∙ unowed))

    pub listened-settled : IsSettled w past later tick c answer station after
    listened-settled = by-duty after.duty refl
