-- An answer is sent: what each station does in its ticks. One answers, the one in control waits or rests, and all others listen.
use Rattle.std.proofs.Common.{◌≡◌, ◌≢◌, inl, inr, ℕ, ◌+◌, ◌<◌, ◌≤◌, Bool, true, false, List, [], ◌∷◌, ◌++◌, length, Some, None, refl, sym, ap, ◌∙◌, subst, arith}
use Rattle.std.proofs.lemmas.Bool.{cases_eq, true≢false}
use Rattle.std.proofs.lemmas.Option.{same_Some}
use Rattle.std.specs.Prelude.{slice_get, if◌then◌else◌}
use Rattle.bus_base.specs.Samples.{sample_on, other_of}
use Rattle.bus_base.specs.declared.samples.Channel.{Channel}
use Rattle.bus_base.specs.declared.samples.Drive.TheVariants.{Silent}
use Rattle.bus_base.specs.declared.samples.Pair.{Pair}
use Rattle.bus_base.specs.declared.samples.Part.{Part}
use Rattle.bus_words.specs.declared.word.Word.{Word}
use Rattle.bus_line.specs.Past.{InLeg, quiet_ticks, ended_now}
use Rattle.bus_formats.specs.Plans.{TerminalData, StationData}
use Rattle.bus_formats.specs.declared.fault.Hit.{Hit}
use Rattle.bus_model.specs.Memory.{Memory, TimedLoad}
use Rattle.bus_model.specs.Orders.{Duty, free, owes, promises}
use Rattle.bus_model.specs.Hearing.{Moment, heard_on}
use Rattle.bus_model.specs.Sending.{drive_sample}
use Rattle.bus_model.specs.Standing.{Standing, is_owed}
use Rattle.bus_model.specs.Starts.{starts}
use Rattle.bus_model.specs.Terminal.{order_now, taken_by, standing, took_now}
use Rattle.bus_model.specs.Transmissions.{drive_or, station_drive}
use Rattle.bus_model.specs.Course.{Take, Course}
use Rattle.bus_model.specs.Control.{OutsideTake, StationSoFar, yielded_in, moment_of, serve, hold, course_with, so_far, course_after, outside_takes, drives_next}
use Rattle.bus_model.specs.World.{drives_after}
use Rattle.bus_law_control.proofs.Holding.{kept-tick, heard-nothing}
use Rattle.bus_law_messages.specs.Promises.{IsListening, Listens, IsReplying}
use Rattle.bus_law_phases.proofs.Answering.{answer-drives}
use Rattle.bus_law_messages.proofs.Heard.{hearing-long}
use Rattle.bus_law_messages.proofs.Listening.{listening-ready, listening-hears, quiet-not-ended, serving-listens, serving-nothing, serving-silent, shown-leg, shown-quiet}
use Rattle.bus_law_messages.proofs.Sending.{place-silent, place-drives}
use Rattle.bus_law_stations.specs.Legs.{with_addressed}
use Rattle.bus_law_stations.specs.Turns.{moments_of, KeepsControl}
use Rattle.bus_law_stations.proofs.LegTicks.{heard-append, leg-ends-not}
use Rattle.bus_law_stations.proofs.Obeying.{running-marks}
use Rattle.bus_law_stations.proofs.Ready.{orders-none, ready-running}
use Rattle.bus_law_stations.proofs.StillStation.{always-taken}
use Rattle.bus_law_stations.proofs.Turning.{serving-hears, serving-same}
use Rattle.bus_law_table.proofs.Idle.{order-none}
use Rattle.bus_law_phases.proofs.Kept.{kept-more}
use Rattle.bus_law_table.proofs.Takes.{unheard-takes}
use Rattle.bus_law_phases.specs.Scenarios.{Scenario, course_of, hearing_of, IsPresentAt, NoneTakesFrom}
use Rattle.bus_law_phases.specs.Moments.{HasDuty}
use Rattle.bus_law_phases.specs.Passages.{HoldsAlone}
use Rattle.bus_law_phases.specs.PartRuns.{RunsAlone, IsFirstOf}
use Rattle.bus_law_phases.proofs.Legs.{first-less, runs-less}
use Rattle.bus_law_phases.proofs.AnswerSpeaking.{speaking-same, speaking-takes}
use Rattle.bus_law_phases.proofs.Commanding.{by-place}

-- ---- a station that listens

-- a station that owes no answer listens: it is free, or promised to take this burst
pub listens-from : (w : Scenario) (past : List Pair) (station : StationData) (c : Channel) (e : ℕ) (part : Part) (duty : Duty) →
    HasDuty w past station c e part duty → is_owed duty ≡ false → Listens w.lag station (starts w.plan station) w.loads w.outside past c
listens-from w past station c e part free has none = serving-listens w.lag station (starts w.plan station) w.loads w.outside past c has
listens-from w past station c e part (owes words acceptance) has none = absurd (true≢false none)
listens-from w past station c e part (promises command transmitter) has none =
    let long = hearing-long w.lag station (starts w.plan station) w.loads w.outside past in
    let end = has.end in
    let ended = has.ended in
    let early = has.early in
    record {
      serves = has.hears.serves;
      listens = record {
        rests = has.hears.rests;
        heeds = has.hears.heeds;
        over = λ owed. absurd (true≢false (sym owed ∙ ap is_owed has.duty));
        promise = λ made. (has.channel, omega (arith, long, end, ended), omega (arith, long, end, early));
        stands = λ made. has.kept;
      };
    }

-- it takes no block while the burst runs
listening-takes : (k : ℕ) (t : TerminalData) (loads : List TimedLoad) (memory : Memory) (c : Channel) (heard ticks : List Moment) (now : Moment) → k < 40 →
    IsListening k t (standing k t loads memory heard) c heard → InLeg k (heard_on c (now ∷ ticks)) →
    heard_on (other_of c) (now ∷ ticks) ≡ quiet_ticks (length (now ∷ ticks)) → heard_on (other_of c) ticks ≡ quiet_ticks (length ticks) →
    took_now k t loads record { memory = memory; ticks = now ∷ (ticks ++ heard) } ≡ None
listening-takes k t loads memory c heard ticks now small eased leg quiet before =
    let s = standing k t loads memory heard in
    let past = ticks ++ heard in
    let ready = listening-ready k t s c heard eased in
    let m = running-marks k t loads memory c heard ticks small ready (listening-hears k t s c heard ticks eased leg.2 before) in
    let u = with_addressed s c m.0 in
    let runs_on : ended_now k (heard_on c (now ∷ (ticks ++ heard))) ≡ None =
    ap (ended_now k) (heard-append c (now ∷ ticks) heard) ∙ leg-ends-not k (sample_on now.shown c) (heard_on c ticks) (heard_on c heard) leg in
    ap (λ (v : Standing). taken_by k t loads (length past) now.has_items v (order_now k t (now ∷ past) v)) m.1
    ∙ ap (taken_by k t loads (length past) now.has_items u)
    (orders-none k t u c (now ∷ past) (order-none k t u c now past runs_on)
    (order-none k t u (other_of c) now past (quiet-not-ended k (other_of c) heard ticks now (eased.rests (other_of c)) quiet))
    (ready-running k t s c m.0 now heard ticks ready leg))

pub listens-takes : (w : Scenario) (past : List Pair) (station : StationData) (c : Channel) → w.lag < 40 →
    Listens w.lag station (starts w.plan station) w.loads w.outside past c → (x : Pair) (ticks : List Pair) → RunsAlone w.lag c (x ∷ ticks) →
    ((tick : ℕ) → length past ≤ tick → tick < length past + length (x ∷ ticks) →
    outside_takes w.lag station (starts w.plan station) w.loads w.outside tick w.outside ≡ []) →
    took_now w.lag station.terminal w.loads (hearing_of w station ((x ∷ ticks) ++ past)) ≡ None
listens-takes w past station c small serving x ticks alone stays =
    let k = w.lag in
    let course = course_of w station past in
    let hearing = hearing_of w station past in
    let less = runs-less w.lag c x ticks alone in
    let heard : hearing_of w station ((x ∷ ticks) ++ past)
    ≡ record { memory = hearing.memory; ticks = moment_of x course ∷ (moments_of course ticks ++ hearing.ticks) } =
    ap (λ (so : StationSoFar). so.hearing) (serving-hears w.lag station (starts w.plan station) w.loads w.outside past (x ∷ ticks) serving.serves
    (serving-nothing w.lag station (starts w.plan station) w.loads w.outside past c small serving (x ∷ ticks) alone.leg alone.quiet stays)) in
    ap (took_now k station.terminal w.loads) heard
    ∙ listening-takes k station.terminal w.loads hearing.memory c hearing.ticks (moments_of course ticks) (moment_of x course) small serving.listens
    (shown-leg k station (starts w.plan station) w.loads w.outside past c small serving (x ∷ ticks) alone.leg)
    (shown-quiet k station (starts w.plan station) w.loads w.outside past c small serving (other_of c) (x ∷ ticks) alone.quiet)
    (shown-quiet k station (starts w.plan station) w.loads w.outside past c small serving (other_of c) ticks less.quiet)

-- ---- a station that holds control takes none

by-hold : (b : Bool) (x y : StationSoFar) → b ≡ true → (if b then x else y).takes ≡ x.takes
by-hold b x y on = rw on refl

same-takes : (k : ℕ) (station : StationData) (starts : Bool) (loads : List TimedLoad) (outside : List OutsideTake) (past : List Pair) (x : Pair) →
    (course_after k station starts loads outside past).holds ≡ true →
    (so_far k station starts loads outside (x ∷ past)).takes ≡ (so_far k station starts loads outside past).takes
unfolding so_far
same-takes k station starts loads outside past x holds =
    let before = so_far k station starts loads outside past in
    by-hold (course_with k station starts loads outside before.takes past).holds
    (hold k station starts loads outside x past before (course_with k station starts loads outside before.takes (x ∷ past)))
    (serve k station starts loads outside x past before (course_with k station starts loads outside before.takes past)) holds

-- ---- all stations

-- the tick in which a station begins to answer on a channel
pub record Speaks (w : Scenario) (past : List Pair) (place : ℕ) (holder : StationData) (c : Channel) (part : Part) (words : List Word) (hits : List Hit)
    (answerer : ℕ) (answering : StationData) : Type 0 where
  -- the one in control is silent while the answer runs, and nothing changes of its controller
  pub there : IsPresentAt w place holder
  pub holds : (course_of w holder past).holds ≡ true
  pub same : (ticks : List Pair) → IsFirstOf w.lag c hits words ticks → course_of w holder (ticks ++ past) ≡ course_of w holder past
  pub silent : (ticks : List Pair) → IsFirstOf w.lag c hits words ticks →
      drives_next w.lag holder (starts w.plan holder) w.loads w.outside (ticks ++ past) ≡ Silent
  -- the one that answers
  pub at : IsPresentAt w answerer answering
  pub apart : answerer ≢ place
  pub replies : IsReplying w.lag answering (starts w.plan answering) w.loads w.outside past c part words
  -- the others listen
  pub listens : (other : ℕ) (station : StationData) → IsPresentAt w other station → other ≢ place → other ≢ answerer →
      Listens w.lag station (starts w.plan station) w.loads w.outside past c
  pub stays : NoneTakesFrom w (length past)

-- the one in control, the one that answers, or another one
pub by-three : (w : Scenario) (P : StationData → Type 0) (place : ℕ) (holder : StationData) (answerer : ℕ) (answering : StationData) →
    IsPresentAt w place holder → IsPresentAt w answerer answering → P holder → P answering →
    ((other : ℕ) (station : StationData) → IsPresentAt w other station → other ≢ place → other ≢ answerer → P station) →
    (other : ℕ) (station : StationData) → IsPresentAt w other station → P station
by-three w P place holder answerer answering there at own speaks others =
    by-place w P place holder there own (λ other station here away. elim (cases_eq other answerer) [
      | inl same ↦ (let found : slice_get w.plan.stations answerer ≡ Some station = ap (slice_get w.plan.stations) (sym same) ∙ here.there in
          let is : answering ≡ station = same_Some answering station (sym at.there ∙ found) in subst P is speaks)
      | inr aside ↦ others other station here away aside
    ])

-- in a tick in which control is held, before it and after it, it isn't yielded
kept-later : (w : Scenario) (holder : StationData) (x : Pair) (past : List Pair) → (course_of w holder past).holds ≡ true →
    (course_of w holder (x ∷ past)).holds ≡ true → yielded_in (length past) (course_of w holder (x ∷ past)).ended ≡ false
kept-later w holder x past before after =
    let takes = (so_far w.lag holder (starts w.plan holder) w.loads w.outside past).takes in
    let same : (so_far w.lag holder (starts w.plan holder) w.loads w.outside (x ∷ past)).takes ≡ takes =
    same-takes w.lag holder (starts w.plan holder) w.loads w.outside past x before in
    let course_now : List Take → Course = λ ts. course_with w.lag holder (starts w.plan holder) w.loads w.outside ts (x ∷ past) in
    ap (λ ts. yielded_in (length past) (course_now ts).ended) same
    ∙ kept-tick w.lag holder (starts w.plan holder) takes x past (always-taken w.lag holder (starts w.plan holder) w.loads w.outside past)
    (sym (ap (λ ts. (course_now ts).holds) same) ∙ after)

module _ (w : Scenario) (past : List Pair) (place : ℕ) (holder : StationData) (c : Channel) (part : Part) (words : List Word) (hits : List Hit)
    (answerer : ℕ) (answering : StationData) (lag : w.lag ≡ 3) (so : Speaks w past place holder c part words hits answerer answering) where
  below : w.lag < 40
  below = omega (arith, lag)

  stays-for : (other : ℕ) (station : StationData) → IsPresentAt w other station → (n tick : ℕ) → length past ≤ tick → tick < length past + n →
      outside_takes w.lag station (starts w.plan station) w.loads w.outside tick w.outside ≡ []
  stays-for other station at n tick low high = so.stays other station at tick low

  -- ---- the one in control

  pub holder-holds : (ticks : List Pair) → IsFirstOf w.lag c hits words ticks → (course_of w holder (ticks ++ past)).holds ≡ true
  holder-holds ticks alone = ap (λ (d : Course). d.holds) (so.same ticks alone) ∙ so.holds

  -- where control is held after a tick too, it was kept in it
  pub keeps-more : (x : Pair) (ticks : List Pair) → KeepsControl w.lag holder (starts w.plan holder) w.loads w.outside past ticks →
      (course_of w holder (ticks ++ past)).holds ≡ true → (course_of w holder (x ∷ (ticks ++ past))).holds ≡ true →
      KeepsControl w.lag holder (starts w.plan holder) w.loads w.outside past (x ∷ ticks)
  keeps-more x ticks keeps before after =
      kept-more w.lag holder (starts w.plan holder) w.loads w.outside past ticks keeps x before
      (kept-later w holder x (ticks ++ past) before after)

  pub holder-keeps : (ticks : List Pair) → IsFirstOf w.lag c hits words ticks → KeepsControl w.lag holder (starts w.plan holder) w.loads w.outside past ticks
  holder-keeps [] alone = tt
  holder-keeps (x ∷ ticks) alone =
      let less = first-less w.lag c hits words x ticks alone in
      keeps-more x ticks (holder-keeps ticks less) (holder-holds ticks less) (holder-holds (x ∷ ticks) alone)

  holder-takes : (x : Pair) (ticks : List Pair) → IsFirstOf w.lag c hits words (x ∷ ticks) →
      took_now w.lag holder.terminal w.loads (hearing_of w holder ((x ∷ ticks) ++ past)) ≡ None
  holder-takes x ticks alone =
      unheard-takes w.lag holder (starts w.plan holder) w.loads w.outside x (ticks ++ past)
      (heard-nothing w.lag holder (starts w.plan holder) w.loads w.outside ((x ∷ ticks) ++ past) (holder-holds (x ∷ ticks) alone))

  -- ---- the one that answers

  pub own-drives : (ticks : List Pair) → IsFirstOf w.lag c hits words ticks →
      slice_get (drives_after w.lag w.plan w.loads w.outside w.absent (ticks ++ past)) answerer ≡ Some (drive_sample c part words (length ticks))
  own-drives ticks alone =
      place-drives w.lag w.plan w.loads w.outside w.absent (ticks ++ past) answerer answering (drive_sample c part words (length ticks)) so.at.there
      so.at.present
      (answer-drives w.lag answering (starts w.plan answering) w.loads w.outside past c part words so.replies ticks (alone.alone.leg, alone.alone.quiet)
      (stays-for answerer answering so.at (length ticks)))

  -- ---- all of them

  listens-same : (other : ℕ) (station : StationData) → IsPresentAt w other station → other ≢ place → other ≢ answerer → (ticks : List Pair) →
      IsFirstOf w.lag c hits words ticks → course_of w station (ticks ++ past) ≡ course_of w station past
  listens-same other station at away aside ticks alone =
      let serving = so.listens other station at away aside in
      serving-same w.lag station (starts w.plan station) w.loads w.outside past ticks serving.serves
      (serving-nothing w.lag station (starts w.plan station) w.loads w.outside past c below serving ticks alone.alone.leg alone.alone.quiet
      (stays-for other station at (length ticks)))

  pub all-same : (ticks : List Pair) → IsFirstOf w.lag c hits words ticks → (other : ℕ) (station : StationData) → IsPresentAt w other station →
      course_of w station (ticks ++ past) ≡ course_of w station past
  all-same ticks alone =
      by-three w (λ station. course_of w station (ticks ++ past) ≡ course_of w station past) place holder answerer answering so.there so.at
      (so.same ticks alone)
      (speaking-same w.lag answering (starts w.plan answering) w.loads w.outside past c part words so.replies ticks alone.alone
      (stays-for answerer answering so.at (length ticks)))
      (λ other station at away aside. listens-same other station at away aside ticks alone)

  pub all-still : (ticks : List Pair) → IsFirstOf w.lag c hits words ticks → (other : ℕ) (station : StationData) → IsPresentAt w other station →
      (course_of w station (ticks ++ past)).ended ≡ (course_of w station past).ended
  all-still ticks alone other station at = ap (λ (d : Course). d.ended) (all-same ticks alone other station at)

  pub all-takes : (x : Pair) (ticks : List Pair) → IsFirstOf w.lag c hits words (x ∷ ticks) → (other : ℕ) (station : StationData) → IsPresentAt w other station →
      took_now w.lag station.terminal w.loads (hearing_of w station ((x ∷ ticks) ++ past)) ≡ None
  all-takes x ticks alone =
      by-three w (λ station. took_now w.lag station.terminal w.loads (hearing_of w station ((x ∷ ticks) ++ past)) ≡ None) place holder answerer answering
      so.there so.at (holder-takes x ticks alone)
      (speaking-takes w.lag answering (starts w.plan answering) w.loads w.outside past c part words so.replies x ticks alone.alone
      (stays-for answerer answering so.at (length (x ∷ ticks))))
      (λ other station at away aside. listens-takes w past station c below (so.listens other station at away aside) x ticks alone.alone
      (stays-for other station at (length (x ∷ ticks))))

  pub others-silent : (ticks : List Pair) → IsFirstOf w.lag c hits words ticks → (other : ℕ) → other ≢ answerer →
      station_drive other (drives_after w.lag w.plan w.loads w.outside w.absent (ticks ++ past)) ≡ Silent
  others-silent ticks alone other aside = elim (cases_eq other place) [
    | inl same ↦ ap (λ i. station_drive i (drives_after w.lag w.plan w.loads w.outside w.absent (ticks ++ past))) same
        ∙ ap drive_or (place-drives w.lag w.plan w.loads w.outside w.absent (ticks ++ past) place holder Silent so.there.there so.there.present
        (so.silent ticks alone))
    | inr away ↦ place-silent w.lag w.plan w.loads w.outside w.absent (ticks ++ past) other (λ station there present.
        let at : IsPresentAt w other station = record { there = there; present = present } in
        serving-silent w.lag station (starts w.plan station) w.loads w.outside past c below (so.listens other station at away aside) ticks alone.alone.leg
        alone.alone.quiet (stays-for other station at (length ticks)))
  ]

  others-serve : (other : ℕ) (station : StationData) → IsPresentAt w other station → other ≢ place → (course_of w station past).holds ≡ false
  others-serve other station at away = elim (cases_eq other answerer) [
    | inl same ↦ (let found : slice_get w.plan.stations answerer ≡ Some station = ap (slice_get w.plan.stations) (sym same) ∙ at.there in
        let is : answering ≡ station = same_Some answering station (sym so.at.there ∙ found) in
        subst (λ st. (course_of w st past).holds ≡ false) is so.replies.serves.serves)
    | inr aside ↦ (so.listens other station at away aside).serves.serves
  ]

  pub held : (ticks : List Pair) → IsFirstOf w.lag c hits words ticks → HoldsAlone w (ticks ++ past)
  held ticks alone = record {
    place = place;
    holder = holder;
    at = so.there;
    holds = holder-holds ticks alone;
    others = λ other station at away. ap (λ (d : Course). d.holds) (all-same ticks alone other station at) ∙ others-serve other station at away;
  }
