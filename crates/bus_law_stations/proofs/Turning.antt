-- A station over ticks in which it serves, and over ticks in which it keeps control.
use Rattle.std.proofs.Common.{◌≡◌, ℕ, suc, ◌+◌, Bool, true, false, List, [], ◌∷◌, ◌++◌, length, None, refl, ap, ◌∙◌, arith, length-append}
use Rattle.std.specs.Prelude.{if◌then◌else◌}
use Rattle.bus_base.specs.declared.samples.Pair.{Pair}
use Rattle.bus_formats.specs.Plans.{StationData}
use Rattle.bus_model.specs.Memory.{TimedLoad}
use Rattle.bus_model.specs.Hearing.{Hearing}
use Rattle.bus_model.specs.Terminal.{drives}
use Rattle.bus_model.specs.Course.{Take, Course, course, begin_entry, run_by, runs_next, run_on, with_takes, drive_course}
use Rattle.bus_model.specs.Control.{OutsideTake, StationSoFar, unheard, unheard_ticks, moment_of, hear_more, yielded_in, takes_in, taken_over, serve, hold, course_with, so_far, so_far_after, course_after, hearing_after, drives_next}
use Rattle.bus_law_stations.specs.Silence.{AreTaken}
use Rattle.bus_law_stations.specs.Turns.{moments_of, with_moments, TakesNothing, KeepsControl, Serves}
use Rattle.bus_law_stations.proofs.StillController.{not-taken}
use Rattle.bus_law_stations.proofs.StillStation.{always-taken, takes-none}

-- ---- its controller while it serves

next-none : (c : Course) (past : List Pair) → Serves c → runs_next past c ≡ None
next-none c past serves =
    ap (run_by past c) serves.idle ∙ ap (λ (b : Bool). if b then begin_entry past c c.left else None) serves.serves

serving-course : (k : ℕ) (station : StationData) (starts : Bool) (takes : List Take) (past ticks : List Pair) → AreTaken (length past) takes →
    Serves (course k station starts takes past) → course k station starts takes (ticks ++ past) ≡ course k station starts takes past
unfolding course
serving-course k station starts takes past [] taken serves = refl
serving-course k station starts takes past (x ∷ ticks) taken serves =
    let c = course k station starts takes past in
    let later = ticks ++ past in
    let long : length (ticks ++ past) ≡ length ticks + length past = length-append ticks past in
    ap (λ (d : Course). with_takes takes (suc (length later)) (run_on k x later d (runs_next later d)))
    (serving-course k station starts takes past ticks taken serves)
    ∙ ap (λ o. with_takes takes (suc (length later)) (run_on k x later c o)) (next-none c later serves)
    ∙ not-taken (length past) (suc (length later)) takes c taken (omega (arith, long))

module _ (k : ℕ) (station : StationData) (starts : Bool) (loads : List TimedLoad) (outside : List OutsideTake) (past : List Pair) where
  -- ---- it serves

  serve-tick : (b : Bool) (x : Pair) (later : List Pair) (before : StationSoFar) (c : Course) → c.holds ≡ b → b ≡ false →
      takes_in k station starts loads outside (length later) (hear_more before.hearing (moment_of x c)) ≡ [] →
      (if b then hold k station starts loads outside x later before (course_with k station starts loads outside before.takes (x ∷ later))
      else serve k station starts loads outside x later before c) ≡ record before { hearing = hear_more before.hearing (moment_of x c) }
  serve-tick true x later before c holds off none = absurd (cc)
  serve-tick false x later before c holds off none =
      ap (taken_over k station starts loads outside (x ∷ later) before (hear_more before.hearing (moment_of x c))) none

  pub serving-hears : (ticks : List Pair) → Serves (course_after k station starts loads outside past) → TakesNothing k station starts loads outside past ticks →
      so_far k station starts loads outside (ticks ++ past)
      ≡ with_moments (so_far k station starts loads outside past) (moments_of (course_after k station starts loads outside past) ticks)
  unfolding so_far
  serving-hears [] serves nothing = refl
  serving-hears (x ∷ ticks) serves nothing =
      let before = so_far k station starts loads outside past in
      let c = course_after k station starts loads outside past in
      let later = ticks ++ past in
      let now = with_moments before (moments_of c ticks) in
      let same = serving-course k station starts before.takes past ticks (always-taken k station starts loads outside past) serves in
      ap (so_far_after k station starts loads outside x later) (serving-hears ticks serves nothing.2)
      ∙ ap (λ (d : Course). if d.holds
      then hold k station starts loads outside x later now (course_with k station starts loads outside before.takes (x ∷ later))
      else serve k station starts loads outside x later now d) same
      ∙ serve-tick c.holds x later now c refl serves.serves
      (takes-none k station starts loads outside (length later) (hear_more now.hearing (moment_of x c)) nothing.0 nothing.1)

  pub serving-same : (ticks : List Pair) → Serves (course_after k station starts loads outside past) → TakesNothing k station starts loads outside past ticks →
      course_after k station starts loads outside (ticks ++ past) ≡ course_after k station starts loads outside past
  serving-same ticks serves nothing =
      ap (λ (before : StationSoFar). course_with k station starts loads outside before.takes (ticks ++ past)) (serving-hears ticks serves nothing)
      ∙ serving-course k station starts (so_far k station starts loads outside past).takes past ticks (always-taken k station starts loads outside past) serves

  by-control : (b : Bool) (later : List Pair) (c : Course) (hearing : Hearing) → b ≡ false →
      (if b then drive_course k later c else drives k station.terminal loads hearing) ≡ drives k station.terminal loads hearing
  by-control b later c hearing off = rw off refl

  pub serving-sends : (ticks : List Pair) → Serves (course_after k station starts loads outside past) → TakesNothing k station starts loads outside past ticks →
      drives_next k station starts loads outside (ticks ++ past) ≡ drives k station.terminal loads record {
        memory = (hearing_after k station starts loads outside past).memory;
        ticks = moments_of (course_after k station starts loads outside past) ticks ++ (hearing_after k station starts loads outside past).ticks;
      }
  serving-sends ticks serves nothing =
      let later = ticks ++ past in
      let d = course_after k station starts loads outside (ticks ++ past) in
      by-control d.holds later d (hearing_after k station starts loads outside later)
      (ap (λ (c : Course). c.holds) (serving-same ticks serves nothing) ∙ serves.serves)
      ∙ ap (λ (before : StationSoFar). drives k station.terminal loads before.hearing) (serving-hears ticks serves nothing)

  -- ---- it holds control

  hold-tick : (b y : Bool) (x : Pair) (later : List Pair) (before : StationSoFar) (c d : Course) → b ≡ true →
      yielded_in (length later) d.ended ≡ y → y ≡ false →
      (if b then hold k station starts loads outside x later before d else serve k station starts loads outside x later before c)
      ≡ record before { hearing = hear_more before.hearing unheard }
  hold-tick b y x later before c d on is off = rw (on, is, off) refl

  pub holding-hears : (ticks : List Pair) → KeepsControl k station starts loads outside past ticks →
      so_far k station starts loads outside (ticks ++ past) ≡ with_moments (so_far k station starts loads outside past) (unheard_ticks ticks)
  unfolding so_far
  holding-hears [] keeps = refl
  holding-hears (x ∷ ticks) keeps =
      let before = so_far k station starts loads outside past in
      let later = ticks ++ past in
      let now = with_moments before (unheard_ticks ticks) in
      let c = course_with k station starts loads outside before.takes later in
      let d = course_with k station starts loads outside before.takes (x ∷ later) in
      ap (so_far_after k station starts loads outside x later) (holding-hears ticks keeps.2)
      ∙ hold-tick c.holds false x later now c d keeps.0 keeps.1 refl

  pub holding-course : (ticks : List Pair) → KeepsControl k station starts loads outside past ticks →
      course_after k station starts loads outside (ticks ++ past)
      ≡ course k station starts (so_far k station starts loads outside past).takes (ticks ++ past)
  holding-course ticks keeps =
      ap (λ (before : StationSoFar). course_with k station starts loads outside before.takes (ticks ++ past)) (holding-hears ticks keeps)

  pub holding-sends : (ticks : List Pair) → KeepsControl k station starts loads outside past ticks →
      (course_after k station starts loads outside (ticks ++ past)).holds ≡ true → drives_next k station starts loads outside (ticks ++ past)
      ≡ drive_course k (ticks ++ past) (course k station starts (so_far k station starts loads outside past).takes (ticks ++ past))
  holding-sends ticks keeps on =
      let d = course_after k station starts loads outside (ticks ++ past) in
      ap (λ (b : Bool). if b then drive_course k (ticks ++ past) d
      else drives k station.terminal loads (hearing_after k station starts loads outside (ticks ++ past))) on
      ∙ ap (drive_course k (ticks ++ past)) (holding-course ticks keeps)
