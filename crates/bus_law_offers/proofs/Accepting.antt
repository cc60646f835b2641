-- A station that accepts control with its answer: it sends that answer, hears none of it, and with the end of it takes control.
use Rattle.std.proofs.Common.{◌≡◌, ℕ, suc, ◌+◌, ◌<◌, ◌≤◌, true, false, not, List, [], ◌∷◌, ◌++◌, length, Some, None, refl, sym, ap, ◌∙◌, subst, arith, length-append}
use Rattle.bus_base.specs.Samples.{other_of}
use Rattle.bus_base.specs.declared.samples.Channel.{Channel}
use Rattle.bus_base.specs.declared.samples.Pair.{Pair}
use Rattle.bus_base.specs.declared.samples.Part.{Part}
use Rattle.bus_words.specs.declared.word.Word.{Word}
use Rattle.bus_line.specs.Past.{Burst, quiet_ticks, ended_now}
use Rattle.bus_line.specs.Channels.{on_channel}
use Rattle.bus_formats.specs.Plans.{TerminalData, StationData}
use Rattle.bus_formats.specs.Times.{taking_over}
use Rattle.bus_formats.specs.declared.fault.Hit.{Hit}
use Rattle.bus_model.specs.Control.{StationSoFar, unheard_ticks, moment_of, hear_more, outside_takes, so_far, takes_in, drives_next}
use Rattle.bus_model.specs.Course.{Course, take_control}
use Rattle.bus_model.specs.Hearing.{Hearing, Moment, heard_on}
use Rattle.bus_model.specs.Memory.{Memory, with_loads}
use Rattle.bus_model.specs.Message.{Present}
use Rattle.bus_model.specs.Orders.{due_after}
use Rattle.bus_model.specs.Sending.{drive_sample}
use Rattle.bus_model.specs.Standing.{Standing, is_owed, is_promise}
use Rattle.bus_model.specs.Starts.{starts}
use Rattle.bus_model.specs.Terminal.{standing, took_now, accepted_now}
use Rattle.bus_law_control.proofs.Accepting.{accepted-at, taking-hears, taking-control, takes-one}
use Rattle.bus_law_line.specs.Shown.{first_samples}
use Rattle.bus_law_messages.proofs.Heard.{hearing-long}
use Rattle.bus_law_offers.specs.Accepting.{TookControl}
use Rattle.bus_law_parts.specs.Parts.{part_ticks, part_sample, HitsFit}
use Rattle.bus_law_parts.proofs.PartBursts.{ended-part}
use Rattle.bus_law_phases.specs.Moments.{Owes}
use Rattle.bus_law_phases.specs.PartRuns.{burst_shown, RunsAlone}
use Rattle.bus_law_phases.specs.Scenarios.{Scenario, course_of, hearing_of, standing_of, present_of}
use Rattle.bus_law_phases.proofs.Legs.{runs-less}
use Rattle.bus_law_stations.specs.Legs.{HearsBurst, BeginsAnswer, with_sent}
use Rattle.bus_law_stations.specs.Turns.{moments_of, TakesNothing, Serves}
use Rattle.bus_law_stations.proofs.LegTicks.{heard-append}
use Rattle.bus_law_stations.proofs.Resting.{heard-long}
use Rattle.bus_law_stations.proofs.SenderTicks.{sender-drives, sender-ends}
use Rattle.bus_law_stations.proofs.Turning.{serving-hears, serving-same, serving-sends}
use Rattle.bus_law_stations.proofs.Unheeded.{quiet-unheeded}
use Rattle.bus_law_table.specs.Stations.{loaded_at}
use Rattle.bus_law_table.proofs.Idle.{moments-shown, moments-many, leg-none-ends, tick-accepts, idle-takes}
use Rattle.bus_law_table.proofs.Loads.{absorbed, loaded-alike}
use Rattle.bus_law_table.proofs.Takes.{unheard-takes, unheard-keeps}

module _ (w : Scenario) (past : List Pair) (station : StationData) (c : Channel) (e : ℕ) (part : Part) (words : List Word)
    (owed : Owes w past station c e part words true) (due : due_after station.terminal e ≡ length past)
    (stays : (tick : ℕ) → length past ≤ tick → outside_takes w.lag station (starts w.plan station) w.loads w.outside tick w.outside ≡ []) where
  abbrev k : ℕ
  k = w.lag

  abbrev t : TerminalData
  t = station.terminal

  abbrev course : Course
  course = course_of w station past

  abbrev memory : Memory
  memory = (hearing_of w station past).memory

  abbrev heard : List Moment
  heard = (hearing_of w station past).ticks

  abbrev s : Standing
  s = standing_of w station past

  long-before : length (hearing_of w station past).ticks ≡ length past
  long-before = hearing-long w.lag station (starts w.plan station) w.loads w.outside past

  begins : BeginsAnswer w.lag t (standing_of w station past) c (hearing_of w station past).ticks
  begins = record {
    owes = ap is_owed owed.duty;
    channel = owed.channel;
    due = ap (due_after t) owed.end ∙ due ∙ sym long-before;
    kept = owed.kept;
  }

  hears-answer : (ticks : List Pair) → RunsAlone w.lag c ticks → HearsBurst w.lag t s c heard (moments_of course ticks)
  hears-answer ticks alone = record {
    rests = owed.hears.rests c;
    leg = (let leg = alone.leg in rw (moments-shown c course ticks) leg);
    beside = quiet-unheeded w.lag t s (other_of c) heard (moments_of course ticks) (owed.hears.rests (other_of c))
        (moments-shown (other_of c) course ticks ∙ alone.quiet ∙ ap quiet_ticks (sym (moments-many course ticks)));
  }

  -- while it sends it accepts nothing yet
  takes-nothing : (ticks : List Pair) → RunsAlone w.lag c ticks → TakesNothing w.lag station (starts w.plan station) w.loads w.outside past ticks
  takes-nothing [] alone = tt
  takes-nothing (y ∷ ticks) alone =
      let long : length (ticks ++ past) ≡ length ticks + length past = length-append ticks past in (
        tick-accepts w.lag t w.loads memory (moment_of y course) (moments_of course ticks ++ heard)
            (leg-none-ends w.lag c heard course owed.hears.rests (y ∷ ticks) alone.leg alone.quiet).0,
        stays (length (ticks ++ past)) (omega (arith, long)),
        takes-nothing ticks (runs-less w.lag c y ticks alone),
      )

  -- ---- while it sends

  pub accepting-drives : (ticks : List Pair) → RunsAlone w.lag c ticks →
      drives_next w.lag station (starts w.plan station) w.loads w.outside (ticks ++ past) ≡ drive_sample c part words (length ticks)
  accepting-drives ticks alone =
      serving-sends w.lag station (starts w.plan station) w.loads w.outside past ticks owed.hears.serves (takes-nothing ticks alone)
      ∙ sender-drives w.lag t w.loads memory c heard (moments_of course ticks) words true begins (hears-answer ticks alone) owed.duty
      ∙ ap (λ p. drive_sample c p words (length (moments_of course ticks))) owed.part_is
      ∙ ap (drive_sample c part words) (moments-many course ticks)

  pub accepting-same : (ticks : List Pair) → RunsAlone w.lag c ticks → course_of w station (ticks ++ past) ≡ course_of w station past
  accepting-same ticks alone =
      serving-same w.lag station (starts w.plan station) w.loads w.outside past ticks owed.hears.serves (takes-nothing ticks alone)

  pub accepting-takes : (y : Pair) (ticks : List Pair) → RunsAlone w.lag c (y ∷ ticks) →
      took_now w.lag t w.loads (hearing_of w station ((y ∷ ticks) ++ past)) ≡ None
  accepting-takes y ticks alone =
      ap (λ (so : StationSoFar). took_now w.lag t w.loads so.hearing)
      (serving-hears w.lag station (starts w.plan station) w.loads w.outside past (y ∷ ticks) owed.hears.serves (takes-nothing (y ∷ ticks) alone))
      ∙ idle-takes w.lag t w.loads memory heard (ap is_promise owed.duty) (moment_of y course) (moments_of course ticks)
      (leg-none-ends w.lag c heard course owed.hears.rests (y ∷ ticks) alone.leg alone.quiet)

  -- ---- at the end

  module _ (hits : List Hit) (lag : w.lag ≡ 3) (some : 0 < part_ticks hits words) (fits : HitsFit part hits words) where
    abbrev x : ℕ
    x = length past + part_ticks hits words

    module _ (y z : Pair) (ticks : List Pair) (alone : RunsAlone w.lag c (z ∷ ticks))
        (shown : on_channel c (y ∷ (z ∷ ticks)) ≡ first_samples (part_sample hits words) (part_ticks hits words + suc w.lag))
        (quiet : on_channel (other_of c) (y ∷ (z ∷ ticks)) ≡ quiet_ticks (length (y ∷ (z ∷ ticks)))) where
      abbrev earlier : List Pair
      earlier = (z ∷ ticks) ++ past

      abbrev moments : List Moment
      moments = moments_of course (z ∷ ticks)

      burst : Burst
      burst = burst_shown (length past) hits words

      earlier-so : so_far w.lag station (starts w.plan station) w.loads w.outside ((z ∷ ticks) ++ past)
          ≡ record (so_far w.lag station (starts w.plan station) w.loads w.outside past) {
            hearing = record (hearing_of w station past) { ticks = moments_of course (z ∷ ticks) ++ heard };
          }
      earlier-so = serving-hears w.lag station (starts w.plan station) w.loads w.outside past (z ∷ ticks) owed.hears.serves (takes-nothing (z ∷ ticks) alone)

      end-burst : ended_now w.lag (heard_on c (moment_of y course ∷ (moments_of course (z ∷ ticks) ++ heard))) ≡ Some (burst_shown (length past) hits words)
      end-burst =
          ap (ended_now k) (heard-append c (moments_of course (y ∷ (z ∷ ticks))) heard)
          ∙ ap (λ xs. ended_now k (xs ++ heard_on c heard)) (moments-shown c course (y ∷ (z ∷ ticks)) ∙ shown)
          ∙ ended-part k part hits words lag fits (heard_on c heard) some (owed.hears.rests c)
          ∙ ap (λ n. Some (burst_shown n hits words)) (heard-long c heard ∙ long-before)

      end-quiet : heard_on (other_of c) (moments_of course (y ∷ (z ∷ ticks))) ≡ quiet_ticks (length (moments_of course (y ∷ (z ∷ ticks))))
      end-quiet = moments-shown (other_of c) course (y ∷ (z ∷ ticks)) ∙ quiet ∙ ap quiet_ticks (sym (moments-many course (y ∷ (z ∷ ticks))))

      least : 40 ≤ part_ticks hits words
      least = omega (arith, some)

      accepts : accepted_now w.lag t w.loads record { memory = memory; ticks = moment_of y course ∷ (moments_of course (z ∷ ticks) ++ heard) } ≡ Some x
      accepts =
          accepted-at w.lag t w.loads memory c heard (moments_of course ticks) (moment_of z course) begins (hears-answer (z ∷ ticks) alone)
          (moment_of y course) (burst_shown (length past) hits words) words owed.duty end-burst least

      -- by what it heard before the newest tick
      abbrev hearing_then : StationSoFar → Course → Hearing
      hearing_then so d = hear_more so.hearing (moment_of y d)

      accepts-so : accepted_now w.lag t w.loads (hearing_then (so_far w.lag station (starts w.plan station) w.loads w.outside earlier) (course_of w station earlier)) ≡ Some x
      accepts-so =
          ap (λ (d : Course). accepted_now w.lag t w.loads (hearing_then (so_far w.lag station (starts w.plan station) w.loads w.outside earlier) d))
          (accepting-same (z ∷ ticks) alone)
          ∙ ap (λ (so : StationSoFar). accepted_now w.lag t w.loads (hearing_then so course)) earlier-so
          ∙ accepts

      serves-then : Serves (course_of w station earlier)
      serves-then = subst Serves (sym (accepting-same (z ∷ ticks) alone)) owed.hears.serves

      one : takes_in w.lag station (starts w.plan station) w.loads w.outside (length earlier)
          (hearing_then (so_far w.lag station (starts w.plan station) w.loads w.outside earlier) (course_of w station earlier))
          ≡ record { heard = suc (length earlier); first = x + taking_over } ∷ []
      one =
          takes-one w.lag station (starts w.plan station) w.loads w.outside (length earlier)
          (hearing_then (so_far w.lag station (starts w.plan station) w.loads w.outside earlier) (course_of w station earlier)) x accepts-so
          (stays (length earlier) (let long : length ((z ∷ ticks) ++ past) ≡ length (z ∷ ticks) + length past = length-append (z ∷ ticks) past in omega (arith, long)))

      -- its terminal keeps what it kept
      stands-end : standing w.lag t w.loads memory (moment_of y course ∷ (moments_of course (z ∷ ticks) ++ heard)) ≡ with_sent s c (Some (length heard))
      stands-end =
          sender-ends w.lag t w.loads memory c heard (moments_of course ticks) (moment_of y course) (moment_of z course) begins (hears-answer (z ∷ ticks) alone)
          (quiet-unheeded w.lag t s (other_of c) heard (moments_of course (y ∷ (z ∷ ticks))) (owed.hears.rests (other_of c)) end-quiet).0

      keeps-end : (standing w.lag t w.loads memory (moment_of y course ∷ (moments_of course (z ∷ ticks) ++ heard))).memory ≡ s.memory
      keeps-end = ap (λ (u : Standing). u.memory) stands-end

      many-end : length (moment_of y course ∷ (moments_of course (z ∷ ticks) ++ heard)) ≡ length (y ∷ earlier)
      many-end =
          let both : length (moments_of course (z ∷ ticks) ++ heard) ≡ length (moments_of course (z ∷ ticks)) + length heard =
          length-append (moments_of course (z ∷ ticks)) heard in
          let here : length (moments_of course (z ∷ ticks)) ≡ length (z ∷ ticks) = moments-many course (z ∷ ticks) in
          let all : length ((z ∷ ticks) ++ past) ≡ length (z ∷ ticks) + length past = length-append (z ∷ ticks) past in
          omega (arith, both, here, all, long-before)

      -- what it keeps after all it heard, by what it heard before the newest tick
      abbrev kept_by : StationSoFar → Course → Memory
      kept_by so d =
          with_loads t.address (suc (length so.hearing.ticks)) w.loads (standing w.lag t w.loads so.hearing.memory (moment_of y d ∷ so.hearing.ticks)).memory

      kept-so : kept_by (so_far w.lag station (starts w.plan station) w.loads w.outside earlier) (course_of w station earlier)
          ≡ with_loads t.address (length (y ∷ earlier)) w.loads s.memory
      kept-so =
          ap (kept_by (so_far w.lag station (starts w.plan station) w.loads w.outside earlier)) (accepting-same (z ∷ ticks) alone)
          ∙ ap (λ (so : StationSoFar). kept_by so course) earlier-so
          ∙ ap (λ n. with_loads t.address n w.loads (standing w.lag t w.loads memory (moment_of y course ∷ (moments_of course (z ∷ ticks) ++ heard))).memory) many-end
          ∙ ap (with_loads t.address (length (y ∷ earlier)) w.loads) keeps-end

      took-so : TookControl w past (y ∷ ((z ∷ ticks) ++ past)) station x
      took-so = record {
        course = taking-control w.lag station (starts w.plan station) w.loads w.outside y earlier record { heard = suc (length earlier); first = x + taking_over }
            serves-then one refl
            ∙ ap (take_control (x + taking_over)) (accepting-same (z ∷ ticks) alone);
        hears = ap (λ (so : StationSoFar). so.hearing)
            (taking-hears w.lag station (starts w.plan station) w.loads w.outside y earlier record { heard = suc (length earlier); first = x + taking_over }
            serves-then one)
            ∙ ap (λ m. record { memory = m; ticks = unheard_ticks (y ∷ earlier) }) kept-so;
      }

    pub takes-control-so : (y : Pair) (ticks : List Pair) → 0 < length ticks → RunsAlone w.lag c ticks →
        on_channel c (y ∷ ticks) ≡ first_samples (part_sample hits words) (part_ticks hits words + suc w.lag) →
        on_channel (other_of c) (y ∷ ticks) ≡ quiet_ticks (length (y ∷ ticks)) →
        TookControl w past (y ∷ (ticks ++ past)) station (length past + part_ticks hits words)
    takes-control-so y [] none alone shown quiet = absurd (omega (arith, none))
    takes-control-so y (z ∷ ticks) any alone shown quiet = took-so y z ticks alone shown quiet

-- ---- what is known of a station that took control

module _ (w : Scenario) (past : List Pair) (y : Pair) (earlier : List Pair) (station : StationData) (x : ℕ) (so : TookControl w past (y ∷ earlier) station x) where
  abbrev later : List Pair
  later = y ∷ earlier

  nothing : (hearing_of w station later).ticks ≡ unheard_ticks later
  nothing = ap (λ (h : Hearing). h.ticks) so.hears

  -- it took no block in the tick
  pub taker-takes : took_now w.lag station.terminal w.loads (hearing_of w station (y ∷ earlier)) ≡ None
  taker-takes = unheard-takes w.lag station (starts w.plan station) w.loads w.outside y earlier nothing

  -- it is the same station of the table, in control
  pub taker-is : (p : Present) → length past ≤ length (y ∷ earlier) → present_of w station past ≡ loaded_at w.loads (length past) p →
      present_of w station (y ∷ earlier) ≡ loaded_at w.loads (length (y ∷ earlier)) (record p { serves = false })
  taker-is p late same =
      let a = station.terminal.address in
      let n = length later in
      let plan_is : station ≡ p.plan = ap (λ (q : Present). q.plan) same in
      let before : with_loads station.terminal.address (length past) w.loads (standing_of w station past).memory
      ≡ with_loads station.terminal.address (length past) w.loads p.memory =
      ap (λ m. with_loads a m w.loads (standing_of w station past).memory) (sym (hearing-long w.lag station (starts w.plan station) w.loads w.outside past))
      ∙ ap (λ (q : Present). q.memory) same
      ∙ ap (λ (st : StationData). with_loads st.terminal.address (length past) w.loads p.memory) (sym plan_is) in
      let memory : (present_of w station later).memory ≡ with_loads p.plan.terminal.address n w.loads p.memory =
      unheard-keeps w.lag station (starts w.plan station) w.loads w.outside later nothing
      ∙ ap (λ (h : Hearing). with_loads a n w.loads h.memory) so.hears
      ∙ absorbed a n n w.loads (omega arith) (standing_of w station past).memory
      ∙ loaded-alike a (length past) n w.loads (standing_of w station past).memory p.memory late before
      ∙ ap (λ (st : StationData). with_loads st.terminal.address n w.loads p.memory) plan_is in
      ap (λ (d : Course). record { plan = station; memory = (present_of w station later).memory; left = d.left; live = d.live; serves = not d.holds }) so.course
      ∙ ap (λ m. record { plan = station; memory = m; left = (course_of w station past).left; live = (course_of w station past).live; serves = false }) memory
      ∙ ap (λ (q : Present). record q { memory = with_loads p.plan.terminal.address n w.loads p.memory; serves = false }) same
