-- A station that serves beside two others that send at once, on two channels, where neither sends a command for it: nothing changes of it.
use Rattle.std.proofs.Common.{◌≡◌, ◌⊎◌, inl, inr, ℕ, ◌+◌, ◌<◌, ◌≤◌, Bool, true, false, List, [], ◌∷◌, ◌++◌, length, Option, Some, None, refl, sym, ap, ◌∙◌, subst, arith, length-append}
use Rattle.std.proofs.lemmas.Bool.{cases_Bool, true≢false, ne_eqb}
use Rattle.std.specs.Prelude.{◌==◌, if◌then◌else◌}
use Rattle.bus_base.specs.Samples.{sample_on, is_quiet}
use Rattle.bus_base.specs.declared.samples.Channel.{Channel}
use Rattle.bus_base.specs.declared.samples.Channel.TheVariants.{A, B}
use Rattle.bus_base.specs.declared.samples.Drive.TheVariants.{Silent}
use Rattle.bus_base.specs.declared.samples.Pair.{Pair}
use Rattle.bus_base.specs.declared.samples.Sample.{Sample}
use Rattle.bus_line.specs.Past.{Burst, runs, first_tick, ended_now}
use Rattle.bus_line.proofs.CollectLaws.{end-closes}
use Rattle.bus_line.proofs.PastLaws.{rests-more, first_tick-runs, first_tick-begins}
use Rattle.bus_line.proofs.TickLaws.{quiet-sample}
use Rattle.bus_formats.specs.Plans.{TerminalData, StationData}
use Rattle.bus_model.specs.Memory.{TimedLoad}
use Rattle.bus_model.specs.Hearing.{Hearing, heard_on}
use Rattle.bus_model.specs.Orders.{Duty, free, owes, promises, due_after}
use Rattle.bus_model.specs.Standing.{Standing, is_owed}
use Rattle.bus_model.specs.Terminal.{given_up, is_over, standing_after, took_now, accepted_by, accepted_on, accepted_now, heard_status}
use Rattle.bus_model.specs.Course.{Course}
use Rattle.bus_model.specs.Control.{OutsideTake, StationSoFar, moment_of, outside_takes, course_after, hearing_after, drives_next}
use Rattle.bus_law_control.specs.Answers.{HeedsNothing}
use Rattle.bus_law_control.proofs.Heedless.{heedless-stands, heedless-takes, heedless-silent}
use Rattle.bus_law_stations.specs.Legs.{AreUnheeded}
use Rattle.bus_law_stations.specs.Turns.{moments_of, TakesNothing}
use Rattle.bus_law_stations.proofs.LegTicks.{heard-append}
use Rattle.bus_law_stations.proofs.Resting.{heard-long, over-late}
use Rattle.bus_law_stations.proofs.Turning.{serving-hears, serving-same, serving-sends}
use Rattle.bus_law_messages.specs.Settled.{IsFree, IsServing}
use Rattle.bus_law_messages.proofs.LaterTicks.{free-still}

-- ---- moments

pub moments-join : (course : Course) (later ticks : List Pair) → moments_of course (later ++ ticks) ≡ moments_of course later ++ moments_of course ticks
moments-join course [] ticks = refl
moments-join course (x ∷ later) ticks = ap (λ ms. moment_of x course ∷ ms) (moments-join course later ticks)

-- ---- a burst that ends began after a time in which none ran

first-late : (k : ℕ) (later past : List Sample) → runs k past ≡ false → runs k (later ++ past) ≡ true → length past ≤ first_tick k (later ++ past)
first-late k [] past none on = absurd (true≢false (sym on ∙ none))
first-late k (x ∷ later) past none on = elim (cases_Bool (runs k (later ++ past))) [
  | inl before ↦ (
      let same : first_tick k (x ∷ (later ++ past)) ≡ first_tick k (later ++ past) = first_tick-runs k x (later ++ past) before in
      let rest = first-late k later past none before in omega (arith, same, rest))
  | inr rests ↦ elim (cases_Bool (is_quiet x)) [
    | inl still ↦ absurd (true≢false (sym on ∙ ap (λ y. runs k (y ∷ (later ++ past))) (quiet-sample x still) ∙ rests-more k (later ++ past) rests))
    | inr pulse ↦ (
        let begins : first_tick k (x ∷ (later ++ past)) ≡ length (later ++ past) = first_tick-begins k x (later ++ past) rests pulse in
        let long = length-append later past in omega (arith, begins, long))
  ]
]

pub began-late : (k : ℕ) (x : Sample) (later past : List Sample) (burst : Burst) → runs k past ≡ false →
    ended_now k (x ∷ (later ++ past)) ≡ Some burst → length past ≤ burst.first
began-late k x later past burst none ended =
    let closes = end-closes k x (later ++ past) burst ended in
    let at = closes.first in
    let late = first-late k later past none closes.ran in omega (arith, at, late)

-- so it isn't an answer that was over before
either-none : (b : Bool) (o : Option ℕ) → o ≡ None → (if b then None else o) ≡ None
either-none true o none = refl
either-none false o none = none

status-none : (due : ℕ) (o : Option Burst) → ((burst : Burst) → o ≡ Some burst → due < burst.first) → heard_status due o ≡ None
status-none due None late = refl
status-none due (Some burst) late =
    let at = late burst refl in
    let test : (burst.first == due) ≡ false = ne_eqb burst.first due (λ e. omega (arith, e, at)) in rw test refl

pub accepts-none : (k : ℕ) (t : TerminalData) (loads : List TimedLoad) (past : List Sample) (x : Sample) (s : Standing) (duty : Duty) →
    ((burst : Burst) → is_owed duty ≡ true → ended_now k (x ∷ past) ≡ Some burst → due_after t s.end < burst.first) →
    accepted_by k t loads past x s duty ≡ None
accepts-none k t loads past x s free late = refl
accepts-none k t loads past x s (promises command transmitter) late = refl
accepts-none k t loads past x s (owes words false) late = refl
accepts-none k t loads past x s (owes words true) late =
    either-none (given_up k t past s) (heard_status (due_after t s.end) (ended_now k (x ∷ past)))
    (status-none (due_after t s.end) (ended_now k (x ∷ past)) (λ burst is. late burst refl is))

-- ---- the station

module _ (k : ℕ) (station : StationData) (starts : Bool) (loads : List TimedLoad) (outside : List OutsideTake) (before : List Pair)
    (serving : IsServing k station starts loads outside before) where
  abbrev t : TerminalData
  t = station.terminal

  abbrev course : Course
  course = course_after k station starts loads outside before

  abbrev hearing : Hearing
  hearing = hearing_after k station starts loads outside before

  abbrev s : Standing
  s = standing_after k t loads hearing

  -- in these ticks neither a slot nor a burst counts for it
  abbrev pub PassesOver : List Pair → Type 0
  PassesOver ticks = (d : Channel) → AreUnheeded k t s d hearing.ticks (moments_of course ticks)

  abbrev Stays : ℕ → Type 0
  Stays n = (tick : ℕ) → length before ≤ tick → tick < length before + n → outside_takes k station starts loads outside tick outside ≡ []

  passes-less : (x : Pair) (ticks : List Pair) → PassesOver (x ∷ ticks) → PassesOver ticks
  passes-less x ticks passes d = (passes d).1

  heeds-nothing : (ticks : List Pair) → PassesOver ticks → HeedsNothing k t s hearing.ticks (moments_of course ticks)
  heeds-nothing ticks passes = record {
    answer = λ owed. let late = over-late k (heard_on s.channel hearing.ticks) (due_after t s.end) (serving.free.over owed) in
        let long = heard-long s.channel hearing.ticks in omega (arith, late, long);
    promise = serving.free.promise;
    on_a = passes A;
    on_b = passes B;
  }

  accepts : (x : Pair) (ticks : List Pair) → PassesOver (x ∷ ticks) →
      accepted_now k t loads record { memory = hearing.memory; ticks = moments_of course (x ∷ ticks) ++ hearing.ticks } ≡ None
  accepts x ticks passes =
      let ms = moments_of course ticks in
      ap (accepted_on k t loads (moment_of x course) (ms ++ hearing.ticks))
      (heedless-stands k t loads hearing.memory hearing.ticks ms (heeds-nothing ticks (passes-less x ticks passes)))
      ∙ accepts-none k t loads (heard_on s.channel (ms ++ hearing.ticks)) (sample_on x s.channel) s s.duty (λ burst owed ended.
      let late = (heeds-nothing (x ∷ ticks) passes).answer owed in
      let long = heard-long s.channel hearing.ticks in
      let began = began-late k (sample_on x s.channel) (heard_on s.channel ms) (heard_on s.channel hearing.ticks) burst (serving.free.rests s.channel)
      (sym (ap (λ xs. ended_now k (sample_on x s.channel ∷ xs)) (heard-append s.channel ms hearing.ticks)) ∙ ended) in
      omega (arith, late, long, began))

  takes-nothing : (ticks : List Pair) → PassesOver ticks → Stays (length ticks) → TakesNothing k station starts loads outside before ticks
  takes-nothing [] passes stays = tt
  takes-nothing (x ∷ ticks) passes stays =
      let long : length (ticks ++ before) ≡ length ticks + length before = length-append ticks before in (
        accepts x ticks passes,
        stays (length (ticks ++ before)) (omega (arith, long)) (omega (arith, long)),
        takes-nothing ticks (passes-less x ticks passes) (λ tick low high. stays tick low (omega (arith, high))),
      )

  module _ (ticks : List Pair) (passes : PassesOver ticks) (stays : Stays (length ticks)) where
    pub passing-hears : hearing_after k station starts loads outside (ticks ++ before)
        ≡ record { memory = hearing.memory; ticks = moments_of course ticks ++ hearing.ticks }
    passing-hears =
        ap (λ (so : StationSoFar). so.hearing)
        (serving-hears k station starts loads outside before ticks serving.serves (takes-nothing ticks passes stays))

    pub passing-same : course_after k station starts loads outside (ticks ++ before) ≡ course_after k station starts loads outside before
    passing-same = serving-same k station starts loads outside before ticks serving.serves (takes-nothing ticks passes stays)

    pub passing-stands : standing_after k t loads (hearing_after k station starts loads outside (ticks ++ before))
        ≡ standing_after k t loads (hearing_after k station starts loads outside before)
    passing-stands =
        ap (standing_after k t loads) passing-hears
        ∙ heedless-stands k t loads hearing.memory hearing.ticks (moments_of course ticks) (heeds-nothing ticks passes)

    pub passing-silent : drives_next k station starts loads outside (ticks ++ before) ≡ Silent
    passing-silent =
        serving-sends k station starts loads outside before ticks serving.serves (takes-nothing ticks passes stays)
        ∙ heedless-silent k t loads hearing.memory hearing.ticks (moments_of course ticks) (heeds-nothing ticks passes) (owed-or-over (is_owed s.duty) refl)
      where
        owed-or-over : (b : Bool) → is_owed s.duty ≡ b → (is_owed s.duty ≡ false) ⊎ (is_over k t (heard_on s.channel hearing.ticks) s ≡ true)
        owed-or-over true is = inr (serving.free.over is)
        owed-or-over false is = inl is

    -- where no burst runs after them it serves as before
    pub passing-serving : ((d : Channel) → runs k (heard_on d (hearing_after k station starts loads outside (ticks ++ before)).ticks) ≡ false) →
        IsServing k station starts loads outside (ticks ++ before)
    passing-serving rests = record {
      serves = record {
        serves = ap (λ (c : Course). c.holds) passing-same ∙ serving.serves.serves;
        idle = ap (λ (c : Course). c.runs) passing-same ∙ serving.serves.idle;
      };
      free = subst (λ (u : Standing). IsFree k t u (hearing_after k station starts loads outside (ticks ++ before)).ticks) (sym passing-stands)
          (subst (IsFree k t s) (sym (ap (λ (h : Hearing). h.ticks) passing-hears))
          (free-still k t s hearing.ticks (moments_of course ticks) serving.free
          (λ d. ap (λ (h : Hearing). runs k (heard_on d h.ticks)) (sym passing-hears) ∙ rests d)));
    }

  pub passing-takes : (x : Pair) (ticks : List Pair) → PassesOver (x ∷ ticks) → Stays (length (x ∷ ticks)) →
      took_now k t loads (hearing_after k station starts loads outside ((x ∷ ticks) ++ before)) ≡ None
  passing-takes x ticks passes stays =
      ap (took_now k t loads) (passing-hears (x ∷ ticks) passes stays)
      ∙ heedless-takes k t loads hearing.memory hearing.ticks (moments_of course ticks) (moment_of x course) (heeds-nothing (x ∷ ticks) passes)
