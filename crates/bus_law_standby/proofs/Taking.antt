-- The tick in which one station takes control by itself, where nobody holds it.
use Rattle.std.proofs.Common.{◌≡◌, ◌≢◌, inl, inr, ℕ, zero, suc, ◌+◌, ◌<◌, ◌≤◌, Bool, true, false, not, List, [], ◌∷◌, ◌++◌, length, map, None, Some, refl, sym, ap, ◌∙◌, subst, arith}
use Rattle.std.proofs.lemmas.Bool.{true≢false, eq-eqb, ne_eqb, cases_eq}
use Rattle.std.proofs.lemmas.Option.{same_Some}
use Rattle.std.specs.Prelude.{if◌then◌else◌, slice_get}
use Rattle.bus_base.specs.Samples.{quiet_pair, quiet_pairs, same_channel}
use Rattle.bus_base.specs.declared.samples.Channel.{Channel}
use Rattle.bus_base.specs.declared.samples.Channel.TheVariants.{A, B}
use Rattle.bus_base.specs.declared.samples.Drive.{Drive}
use Rattle.bus_base.specs.declared.samples.Drive.TheVariants.{Silent}
use Rattle.bus_base.specs.declared.samples.Pair.{Pair}
use Rattle.bus_line.specs.Past.{runs}
use Rattle.bus_line.specs.Channels.{on_channel}
use Rattle.bus_formats.specs.Accepted.{IsAccepted}
use Rattle.bus_formats.specs.Plans.{StationData}
use Rattle.bus_model.specs.Control.{StationSoFar, unheard_ticks, moment_of, hear_more, outside_takes, takes_in, so_far, course_after, drives_next}
use Rattle.bus_model.specs.Course.{Take, Course, drive_course, take_control}
use Rattle.bus_model.specs.Hearing.{Hearing, Moment}
use Rattle.bus_model.specs.Memory.{Memory, TimedLoad, with_loads}
use Rattle.bus_model.specs.Message.{Present}
use Rattle.bus_model.specs.Run.{is_at}
use Rattle.bus_model.specs.Standing.{Standing, is_promise, superseded, promised_on}
use Rattle.bus_model.specs.Starts.{starts, has_items}
use Rattle.bus_model.specs.Terminal.{standing, drives, accepted_now}
use Rattle.bus_model.specs.Transmissions.{station_drive}
use Rattle.bus_model.specs.World.{Trace, drives_after, next_tick, ticks_on}
use Rattle.bus_model.specs.WorldLog.{present_stations}
use Rattle.bus_law_control.proofs.Accepting.{taking-hears, taking-control}
use Rattle.bus_law_line.specs.Senders.{LeftAlone}
use Rattle.bus_law_line.proofs.Sent.{left-spent}
use Rattle.bus_law_messages.specs.Settled.{IsServing}
use Rattle.bus_law_messages.proofs.Heard.{hearing-long}
use Rattle.bus_law_messages.proofs.Pausing.{serving-still, on-quiet, paused}
use Rattle.bus_law_messages.proofs.Sending.{place-silent}
use Rattle.bus_law_stations.specs.Silence.{NothingDue}
use Rattle.bus_law_stations.proofs.Ready.{three-first}
use Rattle.bus_law_stations.proofs.Resting.{rests-quiet}
use Rattle.bus_law_stations.proofs.StillTerminal.{still-stands, still-silent, still-accepts}
use Rattle.bus_law_table.specs.Stations.{loaded_at, ArePresent}
use Rattle.bus_law_table.proofs.Loads.{absorbed, loaded-alike}
use Rattle.bus_law_table.proofs.Pairing.{beside, beside-map, map-map}
use Rattle.bus_law_table.proofs.Still.{rests-told, serving-rests}
use Rattle.bus_law_table.proofs.Takes.{unheard-keeps}
use Rattle.bus_law_phases.specs.Rests.{Rested}
use Rattle.bus_law_phases.specs.Scenarios.{Scenario, IsPresentAt, trace_at, shown_at, driven_at, course_of, hearing_of, standing_of, present_of}
use Rattle.bus_law_phases.proofs.AnswerBegun.{addresses-apart}
use Rattle.bus_law_phases.proofs.Lasting.{fresh-later}
use Rattle.bus_law_phases.proofs.Resting.{each-present}
use Rattle.bus_law_whole.specs.Leaving.{RestsUncontrolled}
use Rattle.bus_law_standby.specs.Taking.{TakesAlone, controlled_by}

-- ---- a serving station in one quiet tick

module _ (w : Scenario) (past : List Pair) (station : StationData) (serving : IsServing w.lag station (starts w.plan station) w.loads w.outside past) where
  abbrev s : Standing
  s = standing_of w station past

  promised-not : is_promise (standing_of w station past).duty ≡ false → promised_on w.lag (standing_of w station past) (standing_of w station past).channel ≡ true → ⊥
  promised-not none made =
      true≢false (sym made ∙ three-first (is_promise s.duty) (same_channel s.channel s.channel) (not (superseded w.lag s)) none)

  -- nothing is due of its terminal
  nothing-due : NothingDue w.lag station.terminal (standing_of w station past) (hearing_of w station past).ticks 1
  nothing-due = record {
    rests_a = serving.free.rests A;
    rests_b = serving.free.rests B;
    answer = λ owed. inr (inr (serving.free.over owed));
    promise = λ made. absurd (promised-not serving.free.promise made);
  }

  -- it drives nothing
  drives-nothing : drives_next w.lag station (starts w.plan station) w.loads w.outside past ≡ Silent
  drives-nothing =
      let h = hearing_of w station past in
      ap (λ (b : Bool). if b then drive_course w.lag past (course_of w station past) else drives w.lag station.terminal w.loads h) serving.serves.serves
      ∙ still-silent w.lag station.terminal w.loads h.memory h.ticks [] nothing-due

  abbrev hearing_then : Hearing
  hearing_then = hear_more (hearing_of w station past) (moment_of quiet_pair (course_of w station past))

  -- its terminal accepts nothing
  accepts-nothing : accepted_now w.lag station.terminal w.loads (hear_more (hearing_of w station past) (moment_of quiet_pair (course_of w station past))) ≡ None
  accepts-nothing =
      let h = hearing_of w station past in
      still-accepts w.lag station.terminal w.loads h.memory h.ticks (has_items (course_of w station past).left) [] nothing-due

  takes-by : (take : Take) → outside_takes w.lag station (starts w.plan station) w.loads w.outside (length past) w.outside ≡ take ∷ [] →
      takes_in w.lag station (starts w.plan station) w.loads w.outside (length past)
      (hear_more (hearing_of w station past) (moment_of quiet_pair (course_of w station past))) ≡ take ∷ []
  takes-by take takes = rw (accepts-nothing, takes) refl

  -- ---- it takes control

  module _ (take : Take) (takes : outside_takes w.lag station (starts w.plan station) w.loads w.outside (length past) w.outside ≡ take ∷ [])
      (heard : take.heard ≡ suc (length past)) where
    course-then : course_of w station (quiet_pair ∷ past) ≡ take_control take.first (course_of w station past)
    course-then =
        taking-control w.lag station (starts w.plan station) w.loads w.outside quiet_pair past take serving.serves (takes-by take takes) heard

    abbrev a : ℕ
    a = station.terminal.address

    -- its terminal keeps what it kept, and heard nothing
    hears-then : hearing_of w station (quiet_pair ∷ past)
        ≡ record { memory = with_loads station.terminal.address (suc (length past)) w.loads (standing_of w station past).memory; ticks = unheard_ticks (quiet_pair ∷ past) }
    hears-then =
        let h = hearing_of w station past in
        ap (λ (so : StationSoFar). so.hearing)
        (taking-hears w.lag station (starts w.plan station) w.loads w.outside quiet_pair past take serving.serves (takes-by take takes))
        ∙ ap (λ (u : Standing). record { memory = with_loads a (suc (length h.ticks)) w.loads u.memory; ticks = unheard_ticks (quiet_pair ∷ past) })
        (still-stands w.lag station.terminal w.loads h.memory h.ticks (has_items (course_of w station past).left ∷ []) nothing-due)
        ∙ ap (λ n. record { memory = with_loads a (suc n) w.loads s.memory; ticks = unheard_ticks (quiet_pair ∷ past) })
        (hearing-long w.lag station (starts w.plan station) w.loads w.outside past)

    -- it is the same station of the table, in control
    taker-then : (p : Present) → present_of w station past ≡ loaded_at w.loads (length past) p →
        present_of w station (quiet_pair ∷ past) ≡ loaded_at w.loads (length (quiet_pair ∷ past)) (record p { serves = false })
    taker-then p same =
        let later = quiet_pair ∷ past in
        let n : ℕ = suc (length past) in
        let plan_is : station ≡ p.plan = ap (λ (q : Present). q.plan) same in
        let before : with_loads station.terminal.address (length past) w.loads (standing_of w station past).memory
        ≡ with_loads station.terminal.address (length past) w.loads p.memory =
        ap (λ m. with_loads a m w.loads (standing_of w station past).memory) (sym (hearing-long w.lag station (starts w.plan station) w.loads w.outside past))
        ∙ ap (λ (q : Present). q.memory) same
        ∙ ap (λ (st : StationData). with_loads st.terminal.address (length past) w.loads p.memory) (sym plan_is) in
        let memory : (present_of w station later).memory ≡ with_loads p.plan.terminal.address n w.loads p.memory =
        unheard-keeps w.lag station (starts w.plan station) w.loads w.outside later (ap (λ (h : Hearing). h.ticks) hears-then)
        ∙ ap (λ (h : Hearing). with_loads a n w.loads h.memory) hears-then
        ∙ absorbed a n n w.loads (omega arith) (standing_of w station past).memory
        ∙ loaded-alike a (length past) n w.loads (standing_of w station past).memory p.memory (omega arith) before
        ∙ ap (λ (st : StationData). with_loads st.terminal.address n w.loads p.memory) plan_is in
        ap (λ (d : Course). record { plan = station; memory = (present_of w station later).memory; left = d.left; live = d.live; serves = not d.holds }) course-then
        ∙ ap (λ m. record { plan = station; memory = m; left = (course_of w station past).left; live = (course_of w station past).live; serves = false }) memory
        ∙ ap (λ (q : Present). record q { memory = with_loads p.plan.terminal.address n w.loads p.memory; serves = false }) same

-- ---- the tick

module _ (w : Scenario) (t place : ℕ) (station : StationData) (first : ℕ) (stations : List Present) (long : length (shown_at w t) ≡ t)
    (next : trace_at w (suc t) ≡ next_tick w.lag w.plan w.loads w.outside w.absent (trace_at w t)) (moment : RestsUncontrolled w (trace_at w t) stations)
    (taking : TakesAlone w t place station first) where
  abbrev past : List Pair
  past = shown_at w t

  abbrev Silences : List (List Drive) → Type 0
  Silences silent =
      (ticks_on w.lag w.plan w.loads w.outside w.absent (trace_at w t) 1 ≡ record { shown = quiet_pair ∷ shown_at w t; driven = silent ++ driven_at w t })
      × ((d : Channel) → LeftAlone w.plan.faults d (driven_at w t) silent)

  all-silent : (n : ℕ) → n < 1 → (i : ℕ) → station_drive i (drives_after w.lag w.plan w.loads w.outside w.absent (quiet_pairs n ++ shown_at w t)) ≡ Silent
  all-silent zero few i =
      place-silent w.lag w.plan w.loads w.outside w.absent past i
      (λ st there present. drives-nothing w past st (moment.serves i st record { there = there; present = present }))
  all-silent (suc n) few i = absurd (omega (arith, few))

  tick : (silent : List (List Drive)) × Silences silent
  tick = paused w.lag w.plan w.loads w.outside w.absent (trace_at w t) 1 moment.spent all-silent 1 (omega arith)

  world-is : trace_at w (suc t) ≡ record { shown = quiet_pair ∷ shown_at w t; driven = tick.0 ++ driven_at w t }
  unfolding ticks_on
  world-is = next ∙ tick.1.0

  pub quiet-so : shown_at w (suc t) ≡ quiet_pair ∷ shown_at w t
  quiet-so = ap (λ (tr : Trace). tr.shown) world-is

  abbrev take : Take
  take = record { heard = suc t; first = first }

  takes-then : outside_takes w.lag station (starts w.plan station) w.loads w.outside (length (shown_at w t)) w.outside ≡ record { heard = suc t; first = first } ∷ []
  takes-then = ap (λ n. outside_takes w.lag station (starts w.plan station) w.loads w.outside n w.outside) long ∙ taking.takes

  heard-then : suc t ≡ suc (length (shown_at w t))
  heard-then = ap suc (sym long)

  taken : course_of w station (quiet_pair ∷ shown_at w t) ≡ take_control first (course_of w station (shown_at w t))
  taken = course-then w past station (moment.serves place station taking.at) take takes-then heard-then

  pub takes-so : course_of w station (shown_at w (suc t)) ≡ take_control first (course_of w station (shown_at w t))
  takes-so = ap (course_of w station) quiet-so ∙ taken

  -- ---- the others

  still-none : (other : ℕ) (o : StationData) → IsPresentAt w other o → other ≢ place → (n : ℕ) → length (shown_at w t) ≤ n → n < length (shown_at w t) + 1 →
      outside_takes w.lag o (starts w.plan o) w.loads w.outside n w.outside ≡ []
  still-none other o at apart n low high =
      let same : n ≡ t = omega (arith, low, high, long) in
      ap (λ m. outside_takes w.lag o (starts w.plan o) w.loads w.outside m w.outside) same ∙ taking.others other o at apart

  other-then : (other : ℕ) (o : StationData) → IsPresentAt w other o → other ≢ place → (p : Present) →
      present_of w o (shown_at w t) ≡ loaded_at w.loads (length (shown_at w t)) p →
      present_of w o (quiet_pair ∷ shown_at w t) ≡ loaded_at w.loads (length (quiet_pair ∷ shown_at w t)) p
  other-then other o at apart p same =
      rests-told w.lag w.plan w.loads w.outside w.absent o past 1
      (serving-rests w.lag w.plan w.loads w.outside w.absent o past (moment.serves other o at) 1 (still-none other o at apart)) p same

  -- ---- the stations of the table

  module _ (accepted : IsAccepted w.plan) where
    abbrev n : ℕ
    n = suc (length (shown_at w t))

    abbrev change : Present → Present
    change p = if is_at station.terminal.address p then record p { serves = false } else p

    change-own : (p : Present) → p.plan ≡ station → change p ≡ record p { serves = false }
    change-own p is =
        ap (λ (b : Bool). if b then record p { serves = false } else p)
        (eq-eqb p.plan.terminal.address station.terminal.address (ap (λ (st : StationData). st.terminal.address) is))

    change-other : (o : StationData) (p : Present) → p.plan ≡ o → o.terminal.address ≢ station.terminal.address → change p ≡ p
    change-other o p is apart =
        ap (λ (b : Bool). if b then record p { serves = false } else p)
        (ne_eqb p.plan.terminal.address station.terminal.address (λ same. apart (ap (λ (st : StationData). st.terminal.address) (sym is) ∙ same)))

    abbrev IsThere : StationData → Type 0
    IsThere o = (other : ℕ) × IsPresentAt w other o

    abbrev IsTold : StationData → Present → Type 0
    IsTold o p = IsThere o × (present_of w o (shown_at w t) ≡ loaded_at w.loads (length (shown_at w t)) p)

    agree : (o : StationData) (p : Present) → IsTold o p → present_of w o (quiet_pair ∷ shown_at w t) ≡ loaded_at w.loads n (change p)
    agree o p told =
        let plan : p.plan ≡ o = sym (ap (λ (q : Present). q.plan) told.1) in
        elim (cases_eq told.0.0 place) [
          | inl same ↦ (let here : slice_get w.plan.stations place ≡ Some o = ap (slice_get w.plan.stations) (sym same) ∙ told.0.1.there in
              let own : o ≡ station = same_Some o station (sym here ∙ taking.at.there) in
              ap (λ st. present_of w st (quiet_pair ∷ shown_at w t)) own
              ∙ taker-then w past station (moment.serves place station taking.at) take takes-then heard-then p
              (ap (λ st. present_of w st (shown_at w t)) (sym own) ∙ told.1)
              ∙ ap (loaded_at w.loads n) (sym (change-own p (plan ∙ own))))
          | inr apart ↦ other-then told.0.0 o told.0.1 apart p told.1
              ∙ ap (loaded_at w.loads n) (sym (change-other o p plan
              (addresses-apart w.plan told.0.0 place o station accepted told.0.1.there taking.at.there apart)))
        ]

    are-then : ArePresent w.lag w.plan w.loads w.outside w.absent (quiet_pair ∷ shown_at w t) (controlled_by station.terminal.address stations)
    are-then =
        beside-map IsTold (λ o. present_of w o (quiet_pair ∷ shown_at w t)) (λ p. loaded_at w.loads n (change p))
        (present_stations w.lag w.plan w.loads w.outside w.absent) stations
        (beside IsThere IsTold (λ o. present_of w o (shown_at w t)) (loaded_at w.loads (length (shown_at w t)))
        (present_stations w.lag w.plan w.loads w.outside w.absent) stations
        (each-present w past IsThere (λ other o at. (other, at))) moment.are (λ o p there same. (there, same)))
        agree
        ∙ sym (map-map (loaded_at w.loads n) change stations)

    rested-then : Rested w record { shown = quiet_pair ∷ shown_at w t; driven = tick.0 ++ driven_at w t } place station
        (controlled_by station.terminal.address stations)
    rested-then = record {
      rests = λ d. ap (runs w.lag) (on-quiet d 1 past) ∙ rests-quiet w.lag 1 (on_channel d past) (moment.rests d);
      fresh = λ d i. fresh-later w.plan.faults d (driven_at w t) tick.0 i (tick.1.1 d) (moment.fresh d i);
      spent = λ d i. left-spent w.plan.faults d (driven_at w t) tick.0 (tick.1.1 d) i;
      at = taking.at;
      holds = ap (λ (c : Course). c.holds) taken;
      idle = ap (λ (c : Course). c.runs) taken ∙ (moment.serves place station taking.at).serves.idle;
      others = λ other o at apart.
          serving-still w.lag o (starts w.plan o) w.loads w.outside past (moment.serves other o at) 1 (still-none other o at apart);
      are = are-then;
    }

-- the moment after it
pub rests-so : (w : Scenario) (t place : ℕ) (station : StationData) (first : ℕ) (stations : List Present) → IsAccepted w.plan → length (shown_at w t) ≡ t →
    trace_at w (suc t) ≡ next_tick w.lag w.plan w.loads w.outside w.absent (trace_at w t) → RestsUncontrolled w (trace_at w t) stations →
    TakesAlone w t place station first → Rested w (trace_at w (suc t)) place station (controlled_by station.terminal.address stations)
rests-so w t place station first stations accepted long next moment taking =
    subst (λ tr. Rested w tr place station (controlled_by station.terminal.address stations)) (sym (world-is w t place station first stations long next moment taking))
    (rested-then w t place station first stations long next moment taking accepted)
