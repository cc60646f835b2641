-- Silence: from a settled moment nothing happens until the next message starts, and every moment until then is settled.
use Rattle.std.proofs.Common.{◌≡◌, inr, ℕ, zero, suc, ◌+◌, ◌-◌, ◌<◌, ◌≤◌, Bool, true, false, List, [], ◌∷◌, ◌++◌, length, refl, sym, ap, ◌∙◌, subst, arith}
use Rattle.std.proofs.lemmas.Bool.{true≢false}
use Rattle.std.proofs.lemmas.Option.{none-some}
use Rattle.std.specs.Prelude.{None, not}
use Rattle.bus_base.specs.Samples.{sample_on, same_channel}
use Rattle.bus_base.specs.declared.samples.Channel.{Channel}
use Rattle.bus_base.specs.declared.samples.Channel.TheVariants.{A, B}
use Rattle.bus_base.specs.declared.samples.Drive.{Drive}
use Rattle.bus_base.specs.declared.samples.Drive.TheVariants.{Silent}
use Rattle.bus_base.specs.declared.samples.Pair.{Pair}
use Rattle.bus_base.specs.declared.samples.Sample.TheVariants.{Quiet}
use Rattle.bus_line.specs.Past.{quiet_ticks, runs}
use Rattle.bus_line.specs.Channels.{on_channel, quiet_both}
use Rattle.bus_formats.specs.Plans.{StationData, PlanData}
use Rattle.bus_formats.specs.declared.fault.Fault.{Fault}
use Rattle.bus_model.specs.Memory.{TimedLoad}
use Rattle.bus_model.specs.Hearing.{heard_on}
use Rattle.bus_model.specs.Standing.{Standing, superseded, is_promise, promised_on}
use Rattle.bus_model.specs.Terminal.{standing_after}
use Rattle.bus_model.specs.Transmissions.{drives_on, station_drive, newest_drives}
use Rattle.bus_model.specs.Wire.{samples_on, shown}
use Rattle.bus_model.specs.Course.{Course, quiet_from}
use Rattle.bus_model.specs.Control.{OutsideTake, StationSoFar, yielded_in, outside_takes, so_far, course_after, hearing_after, drives_next}
use Rattle.bus_model.specs.World.{Trace, drives_after, next_tick, ticks_on}
use Rattle.bus_law_line.specs.Shown.{shown_of}
use Rattle.bus_law_line.specs.Senders.{IsSpent, LeftAlone}
use Rattle.bus_base.specs.Samples.{quiet_pair, quiet_pairs}
use Rattle.bus_law_stations.specs.Silence.{quiet_moments, NothingStarts, StationRests}
use Rattle.bus_law_stations.specs.Turns.{KeepsControl}
use Rattle.bus_law_stations.proofs.Ready.{three-first}
use Rattle.bus_law_stations.proofs.Resting.{heard-quiet, rests-quiet}
use Rattle.bus_law_stations.proofs.StillController.{pairs-long, fewer, still-course, still-drive}
use Rattle.bus_law_stations.proofs.StillStation.{always-taken, still-so-far, still-after, still-terminal, still-quiet}
use Rattle.bus_law_stations.proofs.Turning.{holding-course, holding-sends}
use Rattle.bus_law_messages.specs.Settled.{IsFree, IsServing, NoneStarts}
use Rattle.bus_law_messages.proofs.Running.{quiet-pair}
use Rattle.bus_law_messages.proofs.LaterTicks.{free-still}

-- ---- channels

pub on-quiet : (d : Channel) (n : ℕ) (past : List Pair) → on_channel d (quiet_pairs n ++ past) ≡ quiet_ticks n ++ on_channel d past
on-quiet d zero past = refl
on-quiet A (suc n) past = ap (λ xs. Quiet ∷ xs) (on-quiet A n past)
on-quiet B (suc n) past = ap (λ xs. Quiet ∷ xs) (on-quiet B n past)

-- both have been quiet from the same tick on
pub from-quiet : (n : ℕ) (past : List Pair) → quiet_from (quiet_pairs n ++ past) ≡ quiet_from past
from-quiet zero past = refl
from-quiet (suc n) past =
    let same : length (quiet_pairs n ++ past) - quiet_both (quiet_pairs n ++ past) ≡ length past - quiet_both past = from-quiet n past in omega (arith, same)

quiet-shown : (faults : List Fault) (driven : List (List Drive)) → sample_on (shown faults driven) A ≡ Quiet → sample_on (shown faults driven) B ≡ Quiet →
    shown faults driven ≡ quiet_pair
quiet-shown faults driven a b =
    ap (λ x. record { a = x; b = shown_of (samples_on faults B driven) }) a ∙ ap (λ x. record { a = Quiet; b = x }) b

-- ---- the station in control

module _ (k : ℕ) (station : StationData) (starts : Bool) (loads : List TimedLoad) (outside : List OutsideTake) (past : List Pair)
    (holds : (course_after k station starts loads outside past).holds ≡ true)
    (before : (tick : ℕ) → length past ≤ tick → yielded_in tick (course_after k station starts loads outside past).ended ≡ false) where
  abbrev course : Course
  course = course_after k station starts loads outside past

  pub keeps-quiet : (n : ℕ) → NothingStarts k course past n → KeepsControl k station starts loads outside past (quiet_pairs n)
  keeps-quiet zero none = tt
  keeps-quiet (suc n) none =
      let takes = (so_far k station starts loads outside past).takes in
      let taken = always-taken k station starts loads outside past in
      let long : length (quiet_pairs n ++ past) ≡ n + length past = pairs-long n past in (
        ap (λ (c : Course). c.holds) (still-course k station starts takes past n taken (fewer k course past n none)) ∙ holds,
        ap (λ (c : Course). yielded_in (length (quiet_pairs n ++ past)) c.ended) (still-course k station starts takes past (suc n) taken none)
            ∙ before (length (quiet_pairs n ++ past)) (omega (arith, long)),
        keeps-quiet n (fewer k course past n none),
      )

  pub same-course : (n : ℕ) → NothingStarts k course past n → course_after k station starts loads outside (quiet_pairs n ++ past) ≡ course
  same-course n none =
      holding-course k station starts loads outside past (quiet_pairs n) (keeps-quiet n none)
      ∙ still-course k station starts (so_far k station starts loads outside past).takes past n (always-taken k station starts loads outside past) none

  pub holder-silent : (n : ℕ) → NothingStarts k course past (suc n) → drives_next k station starts loads outside (quiet_pairs n ++ past) ≡ Silent
  holder-silent n none =
      let less = fewer k course past n none in
      holding-sends k station starts loads outside past (quiet_pairs n) (keeps-quiet n less)
      (ap (λ (c : Course). c.holds) (same-course n less) ∙ holds)
      ∙ still-drive k station starts (so_far k station starts loads outside past).takes past n (always-taken k station starts loads outside past) none

-- one that rests
pub nothing-starts : (k : ℕ) (c : Course) (past : List Pair) (n : ℕ) → c.runs ≡ None → NoneStarts c past n → NothingStarts k c past n
nothing-starts k c past n idle none =
    record { waits = λ begun runs. absurd (none-some begun (sym idle ∙ runs)); starts = λ still holds entry later left. none entry later left }

-- ---- a serving station

module _ (k : ℕ) (station : StationData) (starts : Bool) (loads : List TimedLoad) (outside : List OutsideTake) (past : List Pair)
    (serving : IsServing k station starts loads outside past) where
  promised-not : (s : Standing) → is_promise s.duty ≡ false → promised_on k s s.channel ≡ true → ⊥
  promised-not s none made = true≢false (sym made ∙ three-first (is_promise s.duty) (same_channel s.channel s.channel) (not (superseded k s)) none)

  serving-rests : (n : ℕ) → ((tick : ℕ) → length past ≤ tick → tick < length past + n → outside_takes k station starts loads outside tick outside ≡ []) →
      StationRests k station starts loads outside past n
  serving-rests n stays =
      let s = standing_after k station.terminal loads (hearing_after k station starts loads outside past) in record {
        controller = record {
          waits = λ begun runs. absurd (none-some begun (sym serving.serves.idle ∙ runs));
          starts = λ idle holds entry later left. absurd (true≢false (sym holds ∙ serving.serves.serves));
        };
        terminal = record {
          rests_a = serving.free.rests A;
          rests_b = serving.free.rests B;
          answer = λ owed. inr (inr (serving.free.over owed));
          promise = λ made. absurd (promised-not s serving.free.promise made);
        };
        serves = stays;
      }

  pub serving-still : (n : ℕ) → ((tick : ℕ) → length past ≤ tick → tick < length past + n → outside_takes k station starts loads outside tick outside ≡ []) →
      IsServing k station starts loads outside (quiet_pairs n ++ past)
  serving-still n stays =
      let t = station.terminal in
      let hearing = hearing_after k station starts loads outside past in
      let s = standing_after k t loads hearing in
      let rests = serving-rests n stays in
      let so = still-so-far k station starts loads outside past n rests in
      let course = still-after k station starts loads outside past n rests in
      let still : (d : Channel) → runs k (heard_on d (quiet_moments so.0 ++ hearing.ticks)) ≡ false =
      λ d. ap (runs k) (heard-quiet d so.0 hearing.ticks) ∙ rests-quiet k (length so.0) (heard_on d hearing.ticks) (serving.free.rests d) in
      record {
        serves = record {
          serves = ap (λ (d : Course). d.holds) course ∙ serving.serves.serves;
          idle = ap (λ (d : Course). d.runs) course ∙ serving.serves.idle;
        };
        free = subst (λ ms. IsFree k t (standing_after k t loads (hearing_after k station starts loads outside (quiet_pairs n ++ past))) ms)
            (sym (ap (λ (b : StationSoFar). b.hearing.ticks) so.2))
            (subst (λ u. IsFree k t u (quiet_moments so.0 ++ hearing.ticks)) (sym (still-terminal k station starts loads outside past n rests))
            (free-still k t s hearing.ticks (quiet_moments so.0) serving.free still));
      }

  pub serving-quiet : (n : ℕ) →
      ((tick : ℕ) → length past ≤ tick → tick < length past + suc n → outside_takes k station starts loads outside tick outside ≡ []) →
      drives_next k station starts loads outside (quiet_pairs n ++ past) ≡ Silent
  serving-quiet n stays = still-quiet k station starts loads outside past n (serving-rests (suc n) stays)

-- ---- the world

module _ (k : ℕ) (plan : PlanData) (loads : List TimedLoad) (outside : List OutsideTake) (absent : List ℕ) (before : Trace) (limit : ℕ)
    (spent : (c : Channel) (station : ℕ) → IsSpent plan.faults c before.driven station)
    (silent : (n : ℕ) → n < limit → (station : ℕ) →
    station_drive station (drives_after k plan loads outside absent (quiet_pairs n ++ before.shown)) ≡ Silent) where
  abbrev now : ℕ → List Drive
  now n = drives_after k plan loads outside absent (quiet_pairs n ++ before.shown)

  -- so many ticks in which every station is silent
  pub paused : (n : ℕ) → n ≤ limit → (silent : List (List Drive))
      × ((ticks_on k plan loads outside absent before n ≡ record { shown = quiet_pairs n ++ before.shown; driven = silent ++ before.driven })
      × ((d : Channel) → LeftAlone plan.faults d before.driven silent))
  unfolding ticks_on
  paused zero early = ([], (refl, λ d. record { undriven = tt; spent = spent d }))
  paused (suc n) early =
      let p = paused n (omega (arith, early)) in
      let none = silent n (omega (arith, early)) in
      let left : (d : Channel) → LeftAlone plan.faults d before.driven (now n ∷ p.0) =
      λ d. record { undriven = (λ station. ap (drives_on d) (none station), (p.1.1 d).undriven); spent = spent d } in
      let shows : shown plan.faults ((now n ∷ p.0) ++ before.driven) ≡ quiet_pair =
      quiet-shown plan.faults ((now n ∷ p.0) ++ before.driven) (quiet-pair plan.faults A before.driven p.0 (now n) (left A))
      (quiet-pair plan.faults B before.driven p.0 (now n) (left B)) in (
        now n ∷ p.0,
        (
          ap (next_tick k plan loads outside absent) p.1.0
              ∙ ap (λ x. record { shown = x ∷ (quiet_pairs n ++ before.shown); driven = (now n ∷ p.0) ++ before.driven }) shows,
          left,
        ),
      )

  pub undriven-still : (silent : List (List Drive)) → ((d : Channel) → LeftAlone plan.faults d before.driven silent) →
      ((c : Channel) (station : ℕ) → drives_on c (station_drive station (newest_drives before.driven)) ≡ false) → (d : Channel) (station : ℕ) →
      drives_on d (station_drive station (newest_drives (silent ++ before.driven))) ≡ false
  undriven-still [] left undriven d station = undriven d station
  undriven-still (drives ∷ silent) left undriven d station = (left d).undriven.0 station
