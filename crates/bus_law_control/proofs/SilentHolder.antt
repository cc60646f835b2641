-- A station in control over ticks in which nothing changes of it.
use Rattle.std.proofs.Common.{◌≡◌, ℕ, zero, suc, ◌+◌, ◌<◌, ◌≤◌, Bool, true, false, List, [], ◌∷◌, ◌++◌, length, Some, None, refl, sym, ap, ◌∙◌, subst, arith}
use Rattle.bus_base.specs.Samples.{sample_on, quiet_pairs}
use Rattle.bus_base.specs.declared.samples.Pair.{Pair}
use Rattle.bus_base.specs.declared.samples.Sample.{Sample}
use Rattle.bus_base.specs.declared.samples.Sample.TheVariants.{Quiet}
use Rattle.bus_base.specs.declared.samples.Drive.TheVariants.{Silent}
use Rattle.bus_line.specs.Past.{quiet_ticks}
use Rattle.bus_line.specs.Channels.{on_channel, quiet_both}
use Rattle.bus_formats.specs.Plans.{StationData}
use Rattle.bus_formats.specs.Times.{no_response, doubting}
use Rattle.bus_model.specs.Memory.{TimedLoad}
use Rattle.bus_model.specs.Attempts.{Begun}
use Rattle.bus_model.specs.Course.{Take, Course, course, drive_course}
use Rattle.bus_model.specs.Control.{OutsideTake, so_far, course_after, unheard_ticks, yielded_in}
use Rattle.bus_law_stations.specs.Silence.{AwaitsFirst, AwaitsSecond}
use Rattle.bus_law_stations.specs.Messages.{ShowsBurst}
use Rattle.bus_law_stations.specs.Turns.{with_moments, KeepsControl}
use Rattle.bus_law_stations.proofs.StillController.{Awaits}
use Rattle.bus_law_stations.proofs.StillStation.{always-taken}
use Rattle.bus_law_stations.proofs.Turning.{holding-hears, holding-course, holding-sends}
use Rattle.bus_law_control.specs.Abandoning.{IsAnsweredSoon, AreKept}
use Rattle.bus_law_control.specs.Keeping.{HoldsThrough}
use Rattle.bus_law_control.specs.Offers.{IsDoubting}
use Rattle.bus_law_control.specs.Silent.{StaysSilent}
use Rattle.bus_law_control.specs.Waiting.{StartsLater, StartedNone}
use Rattle.bus_law_control.proofs.Answered.{first-runs, first-silent, second-runs, second-silent}
use Rattle.bus_law_control.proofs.Doubting.{doubt-waits, doubt-silent}
use Rattle.bus_law_control.proofs.Early.{early-course, early-silent}
use Rattle.bus_law_control.proofs.Keeping.{keeps-through}
use Rattle.bus_law_control.proofs.OwnChannel.{own-waits, own-silent}

-- equal lists have equal tails
same-tail : (x y : Sample) (xs ys : List Sample) → (x ∷ xs) ≡ (y ∷ ys) → xs ≡ ys
same-tail x y xs ys same = cc

-- quiet ticks with one less
fewer-pairs : (from until : ℕ) (y : Pair) (ticks : List Pair) → (m : ℕ) × ((y ∷ ticks) ≡ quiet_pairs m) × (from + m < until) →
    (m : ℕ) × (ticks ≡ quiet_pairs m) × (from + m < until)
fewer-pairs from until y ticks (zero, same, early) = absurd (cc)
fewer-pairs from until y ticks (suc m, same, early) = (m, cc, omega (arith, early))

module _ (k : ℕ) (station : StationData) (starts : Bool) (loads : List TimedLoad) (outside : List OutsideTake) (past : List Pair)
    (holds : (course_after k station starts loads outside past).holds ≡ true) where
  -- its course before
  abbrev c : Course
  c = course_after k station starts loads outside past

  -- when it took control
  abbrev takes : List Take
  takes = (so_far k station starts loads outside past).takes

  -- a controller that stays as it is over all of the ticks holds control through them
  through : (P : List Pair → Type 0) → ((x : Pair) (ticks : List Pair) → P (x ∷ ticks) → P ticks) →
      ((ticks : List Pair) → P ticks → course k station starts takes (ticks ++ past) ≡ c) → (ticks : List Pair) → P ticks →
      HoldsThrough k station starts loads outside past ticks
  through P fewer stays [] p = holds
  through P fewer stays (x ∷ ticks) p =
      (ap (λ (d : Course). d.holds) (stays (x ∷ ticks) p) ∙ holds, through P fewer stays ticks (fewer x ticks p))

  -- so does its station, in silence
  stays-silent : (P : List Pair → Type 0) → ((x : Pair) (ticks : List Pair) → P (x ∷ ticks) → P ticks) →
      ((ticks : List Pair) → P ticks → course k station starts takes (ticks ++ past) ≡ c) →
      ((ticks : List Pair) → P ticks → drive_course k (ticks ++ past) (course k station starts takes (ticks ++ past)) ≡ Silent) →
      (ticks : List Pair) → P ticks → StaysSilent k station starts loads outside past ticks
  stays-silent P fewer stays silent ticks p =
      let keeps = keeps-through k station starts loads outside past ticks (through P fewer stays ticks p) in
      let same = holding-course k station starts loads outside past ticks keeps ∙ stays ticks p in record {
        keeps = keeps;
        hears = holding-hears k station starts loads outside past ticks keeps;
        same = same;
        silent = holding-sends k station starts loads outside past ticks keeps (ap (λ (d : Course). d.holds) same ∙ holds) ∙ silent ticks p;
      }

  -- ---- no message runs

  -- whatever is shown before the next one starts
  pub rests-silent : c.runs ≡ None → (ticks : List Pair) → StartedNone c past ticks → StartsLater c (ticks ++ past) →
      StaysSilent k station starts loads outside past ticks
  rests-silent idle ticks none later =
      let taken = always-taken k station starts loads outside past in
      stays-silent (λ ticks. StartedNone c past ticks × StartsLater c (ticks ++ past)) (λ x ticks p. (p.0.1, p.0.0))
      (λ ticks p. early-course k station starts takes past ticks taken idle p.0)
      (λ ticks p. early-silent k station starts takes past ticks taken idle p.0 p.1) ticks (none, later)

  -- ---- a message waits, and its own channel stays quiet

  module _ (begun : Begun) (runs : c.runs ≡ Some begun) where
    pub waits-silent : (e : ℕ) → Awaits k begun (on_channel begun.state.channel past) e → (ticks : List Pair) →
        on_channel begun.state.channel ticks ≡ quiet_ticks (length ticks) → length past + length ticks ≤ e + no_response →
        StaysSilent k station starts loads outside past ticks
    waits-silent e w ticks still early =
        let taken = always-taken k station starts loads outside past in
        stays-silent (λ ticks. (on_channel begun.state.channel ticks ≡ quiet_ticks (length ticks)) × (length past + length ticks ≤ e + no_response))
        (λ x ticks p. let early = p.1 in (
          same-tail (sample_on x begun.state.channel) Quiet (on_channel begun.state.channel ticks) (quiet_ticks (length ticks)) p.0,
          omega (arith, early),
        ))
        (λ ticks p. own-waits k station starts takes past begun e taken runs w ticks p.0 p.1)
        (λ ticks p. own-silent k station starts takes past begun e taken runs w ticks p.0 p.1) ticks (still, early)

    -- ---- its answer runs

    pub first-shown : (e : ℕ) → length past ≤ e + no_response → AwaitsFirst k begun (on_channel begun.state.channel past) e → (ticks : List Pair) →
        ShowsBurst k begun.state.channel past ticks → AreKept begun e past ticks → StaysSilent k station starts loads outside past ticks
    first-shown e prompt w ticks shows kept =
        let taken = always-taken k station starts loads outside past in
        let answered : IsAnsweredSoon begun c past e = record { runs = runs; prompt = prompt } in
        stays-silent (λ ticks. ShowsBurst k begun.state.channel past ticks × AreKept begun e past ticks)
        (λ x ticks p. let leg = p.0.leg in (record { rests = p.0.rests; leg = leg.2 }, p.1.1))
        (λ ticks p. first-runs k station starts takes past begun e taken answered w ticks p.0 p.1)
        (λ ticks p. first-silent k station starts takes past begun e taken answered w ticks p.0 p.1) ticks (shows, kept)

    pub second-shown : (e : ℕ) → length past ≤ e + no_response → AwaitsSecond k begun (on_channel begun.state.channel past) e → (ticks : List Pair) →
        ShowsBurst k begun.state.channel past ticks → StaysSilent k station starts loads outside past ticks
    second-shown e prompt w ticks shows =
        let taken = always-taken k station starts loads outside past in
        let answered : IsAnsweredSoon begun c past e = record { runs = runs; prompt = prompt } in
        stays-silent (λ ticks. ShowsBurst k begun.state.channel past ticks)
        (λ x ticks p. let leg = p.leg in record { rests = p.rests; leg = leg.2 })
        (λ ticks p. second-runs k station starts takes past begun e taken answered w ticks p)
        (λ ticks p. second-silent k station starts takes past begun e taken answered w ticks p) ticks shows

    -- ---- it doubts

    pub doubts-silent : (x : ℕ) → IsDoubting k begun (on_channel begun.state.channel past) x → length past ≤ x + quiet_both past → (n : ℕ) →
        length past + n < x + doubting → StaysSilent k station starts loads outside past (quiet_pairs n)
    doubts-silent x doubt still n early =
        let taken = always-taken k station starts loads outside past in
        stays-silent (λ ticks. (m : ℕ) × (ticks ≡ quiet_pairs m) × (length past + m < x + doubting))
        (fewer-pairs (length past) (x + doubting))
        (λ ticks p. subst (λ ts. course k station starts takes (ts ++ past) ≡ c) (sym p.1)
        (doubt-waits k station starts takes past begun x taken runs doubt still p.0 p.2))
        (λ ticks p. subst (λ ts. drive_course k (ts ++ past) (course k station starts takes (ts ++ past)) ≡ Silent) (sym p.1)
        (doubt-silent k station starts takes past begun x taken runs doubt still p.0 p.2)) (quiet_pairs n) (n, refl, early)

-- ---- the tick after

module _ (k : ℕ) (station : StationData) (starts : Bool) (loads : List TimedLoad) (outside : List OutsideTake) (past ticks : List Pair)
    (holds : (course_after k station starts loads outside past).holds ≡ true) (stays : StaysSilent k station starts loads outside past ticks)
    (x : Pair) (d : Course)
    (is : course k station starts (so_far k station starts loads outside past).takes (x ∷ (ticks ++ past)) ≡ d)
    (kept : yielded_in (length (ticks ++ past)) d.ended ≡ false) where
  -- it is kept in it, if its message isn't yielded
  pub kept-then : KeepsControl k station starts loads outside past (x ∷ ticks)
  kept-then = (
    ap (λ (c : Course). c.holds) (sym (holding-course k station starts loads outside past ticks stays.keeps) ∙ stays.same) ∙ holds,
    ap (λ (c : Course). yielded_in (length (ticks ++ past)) c.ended) is ∙ kept,
    stays.keeps,
  )

  -- its terminal hears nothing
  pub hears-then : so_far k station starts loads outside ((x ∷ ticks) ++ past)
      ≡ with_moments (so_far k station starts loads outside past) (unheard_ticks (x ∷ ticks))
  hears-then = holding-hears k station starts loads outside past (x ∷ ticks) kept-then

  -- and its controller decides
  pub course-then : course_after k station starts loads outside ((x ∷ ticks) ++ past) ≡ d
  course-then = holding-course k station starts loads outside past (x ∷ ticks) kept-then ∙ is
