-- A station of which nothing is due, over quiet ticks.
use Rattle.std.proofs.Common.{◌≡◌, ℕ, zero, suc, ◌+◌, ◌≤◌, Bool, true, false, List, [], ◌∷◌, ◌++◌, length, Option, Some, None, refl, sym, ap, ◌∙◌, arith}
use Rattle.std.specs.Prelude.{if◌then◌else◌}
use Rattle.bus_base.specs.declared.samples.Pair.{Pair}
use Rattle.bus_base.specs.declared.samples.Drive.TheVariants.{Silent}
use Rattle.bus_formats.specs.Plans.{StationData}
use Rattle.bus_model.specs.Memory.{TimedLoad}
use Rattle.bus_model.specs.Starts.{has_items}
use Rattle.bus_model.specs.Hearing.{Moment, Hearing}
use Rattle.bus_model.specs.Terminal.{standing_after, drives, accepted_now}
use Rattle.bus_model.specs.Course.{Take, Course, drive_course}
use Rattle.bus_model.specs.Control.{OutsideTake, StationSoFar, unheard, moment_of, hear_more, accepted_take, yielded_in, is_outside, outside_takes, takes_in, taken_over, serve, hold, course_with, so_far, so_far_after, course_after, hearing_after, drives_next}
use Rattle.bus_base.specs.Samples.{quiet_pair, quiet_pairs}
use Rattle.bus_law_stations.specs.Silence.{NothingDue, AreTaken, StationRests, heard_more}
use Rattle.bus_law_stations.proofs.StillTerminal.{quiet_moment, due-later, still-stands, still-silent, still-accepts}
use Rattle.bus_law_stations.proofs.StillController.{pairs-long, still-course, still-drive, fewer}

-- ---- control is taken in ticks that were heard

taken-more : (heard now : ℕ) (takes : List Take) → AreTaken heard takes → heard ≤ now → AreTaken now takes
taken-more heard now [] taken late = tt
taken-more heard now (take ∷ takes) taken late = (omega (arith, taken.0, late), taken-more heard now takes taken.1 late)

taken-both : (now : ℕ) (xs ys : List Take) → AreTaken now xs → AreTaken now ys → AreTaken now (xs ++ ys)
taken-both now [] ys first second = second
taken-both now (take ∷ xs) ys first second = (first.0, taken-both now xs ys first.1 second)

accepted-taken : (tick : ℕ) (o : Option ℕ) → AreTaken (suc tick) (accepted_take tick o)
accepted-taken tick None = tt
accepted-taken tick (Some end) = (omega arith, tt)

outside-either : (b : Bool) (tick : ℕ) (take : OutsideTake) (takes : List Take) → AreTaken (suc tick) takes →
    AreTaken (suc tick) (if b then record { heard = suc tick; first = take.first } ∷ takes else takes)
outside-either true tick take takes rest = (omega arith, rest)
outside-either false tick take takes rest = rest

by-control : (b : Bool) (now : ℕ) (x y : StationSoFar) → AreTaken now x.takes → AreTaken now y.takes → AreTaken now (if b then x else y).takes
by-control true now x y first second = first
by-control false now x y first second = second

either-moment : (b may : Bool) → (if b then quiet_moment may else unheard) ≡ quiet_moment (if b then may else false)
either-moment true may = refl
either-moment false may = refl

module _ (k : ℕ) (station : StationData) (starts : Bool) (loads : List TimedLoad) (outside : List OutsideTake) where
  outside-taken : (tick : ℕ) (takes : List OutsideTake) → AreTaken (suc tick) (outside_takes k station starts loads outside tick takes)
  outside-taken tick [] = tt
  outside-taken tick (take ∷ takes) =
      outside-either (is_outside k station starts loads outside tick take) tick take (outside_takes k station starts loads outside tick takes)
      (outside-taken tick takes)

  over-taken : (past : List Pair) (before : StationSoFar) (hearing : Hearing) (takes : List Take) (now : ℕ) → AreTaken now before.takes →
      AreTaken now takes → AreTaken now (taken_over k station starts loads outside past before hearing takes).takes
  over-taken past before hearing [] now old new = old
  over-taken past before hearing (take ∷ takes) now old new = taken-both now before.takes (take ∷ takes) old new

  -- whatever was heard
  pub always-taken : (past : List Pair) → AreTaken (length past) (so_far k station starts loads outside past).takes
  unfolding so_far
  always-taken [] = tt
  always-taken (shown ∷ past) =
      let before = so_far k station starts loads outside past in
      let old = taken-more (length past) (suc (length past)) before.takes (always-taken past) (omega arith) in
      let c = course_with k station starts loads outside before.takes past in
      let hearing = hear_more before.hearing (moment_of shown c) in
      by-control c.holds (suc (length past)) _ _ old
      (over-taken (shown ∷ past) before hearing (takes_in k station starts loads outside (length past) hearing) (suc (length past)) old
      (taken-both (suc (length past)) (accepted_take (length past) (accepted_now k station.terminal loads hearing))
      (outside_takes k station starts loads outside (length past) outside)
      (accepted-taken (length past) (accepted_now k station.terminal loads hearing)) (outside-taken (length past) outside)))

  -- ---- one tick

  -- no control is taken
  pub takes-none : (tick : ℕ) (hearing : Hearing) → accepted_now k station.terminal loads hearing ≡ None →
      outside_takes k station starts loads outside tick outside ≡ [] → takes_in k station starts loads outside tick hearing ≡ []
  takes-none tick hearing accepted serves = rw (accepted, serves) refl

  -- a station that heard these quiet ticks hears one more
  one-more : (past : List Pair) (before : StationSoFar) (mays : List Bool) (b : Bool) →
      (course_with k station starts loads outside before.takes past).holds ≡ b →
      NothingDue k station.terminal (standing_after k station.terminal loads before.hearing) before.hearing.ticks (suc (length mays)) →
      outside_takes k station starts loads outside (length past) outside ≡ [] →
      (may : Bool)
      × ((if b then hold k station starts loads outside quiet_pair past (heard_more before mays)
      (course_with k station starts loads outside before.takes (quiet_pair ∷ past))
      else serve k station starts loads outside quiet_pair past (heard_more before mays) (course_with k station starts loads outside before.takes past))
      ≡ heard_more before (may ∷ mays))
  one-more past before mays true holds due serves =
      let c = course_with k station starts loads outside before.takes (quiet_pair ∷ past) in (
        if yielded_in (length past) c.ended then has_items c.left else false,
        ap (λ (moment : Moment). record (heard_more before mays) { hearing = hear_more (heard_more before mays).hearing moment })
            (either-moment (yielded_in (length past) c.ended) (has_items c.left)),
      )
  one-more past before mays false holds due serves =
      let c = course_with k station starts loads outside before.takes past in
      let hearing = hear_more (heard_more before mays).hearing (quiet_moment (has_items c.left)) in (
        has_items c.left,
        ap (taken_over k station starts loads outside (quiet_pair ∷ past) (heard_more before mays) hearing)
            (takes-none (length past) hearing
            (still-accepts k station.terminal loads before.hearing.memory before.hearing.ticks (has_items c.left) mays due) serves),
      )

  less : (past : List Pair) (n : ℕ) → StationRests k station starts loads outside past (suc n) → StationRests k station starts loads outside past n
  less past n h = record {
    controller = fewer k (course_after k station starts loads outside past) past n h.controller;
    terminal = due-later k station.terminal (standing_after k station.terminal loads (hearing_after k station starts loads outside past))
        (hearing_after k station starts loads outside past).ticks [] (suc n) n h.terminal (omega arith);
    serves = λ t low high. h.serves t low (omega (arith, high));
  }

  -- ---- many ticks

  same-course : (past : List Pair) (n : ℕ) → StationRests k station starts loads outside past n →
      course_with k station starts loads outside (so_far k station starts loads outside past).takes (quiet_pairs n ++ past)
      ≡ course_after k station starts loads outside past
  same-course past n h =
      still-course k station starts (so_far k station starts loads outside past).takes past n (always-taken past) h.controller

  pub still-so-far : (past : List Pair) (n : ℕ) → StationRests k station starts loads outside past n →
      (mays : List Bool) × (length mays ≡ n)
      × (so_far k station starts loads outside (quiet_pairs n ++ past) ≡ heard_more (so_far k station starts loads outside past) mays)
  unfolding so_far
  still-so-far past zero h = ([], refl, refl)
  still-so-far past (suc n) h =
      let before = so_far k station starts loads outside past in
      let so = still-so-far past n (less past n h) in
      let later = quiet_pairs n ++ past in
      let long : length (quiet_pairs n ++ past) ≡ n + length past = pairs-long n past in
      let due = h.terminal in
      let enough : suc n ≡ suc (length so.0) = omega (arith, so.1) in
      let more = one-more later before so.0 (course_with k station starts loads outside before.takes later).holds refl (rw enough at due)
      (h.serves (length later) (omega (arith, long)) (omega (arith, long))) in (
        more.0 ∷ so.0,
        omega (arith, so.1),
        ap (so_far_after k station starts loads outside quiet_pair later) so.2 ∙ more.1,
      )

  pub still-after : (past : List Pair) (n : ℕ) → StationRests k station starts loads outside past n →
      course_after k station starts loads outside (quiet_pairs n ++ past) ≡ course_after k station starts loads outside past
  still-after past n h =
      let so = still-so-far past n h in
      ap (λ (before : StationSoFar). course_with k station starts loads outside before.takes (quiet_pairs n ++ past)) so.2
      ∙ same-course past n h

  pub still-terminal : (past : List Pair) (n : ℕ) → StationRests k station starts loads outside past n →
      standing_after k station.terminal loads (hearing_after k station starts loads outside (quiet_pairs n ++ past))
      ≡ standing_after k station.terminal loads (hearing_after k station starts loads outside past)
  still-terminal past n h =
      let so = still-so-far past n h in
      let hearing = hearing_after k station starts loads outside past in
      let due = h.terminal in
      let enough : n ≡ length so.0 = sym so.1 in
      ap (λ (before : StationSoFar). standing_after k station.terminal loads before.hearing) so.2
      ∙ still-stands k station.terminal loads hearing.memory hearing.ticks so.0 (rw enough at due)

  either-silent : (b : Bool) (past : List Pair) (c : Course) (hearing : Hearing) → drive_course k past c ≡ Silent →
      drives k station.terminal loads hearing ≡ Silent →
      (if b then drive_course k past c else drives k station.terminal loads hearing) ≡ Silent
  either-silent true past c hearing first second = first
  either-silent false past c hearing first second = second

  pub still-quiet : (past : List Pair) (n : ℕ) → StationRests k station starts loads outside past (suc n) →
      drives_next k station starts loads outside (quiet_pairs n ++ past) ≡ Silent
  still-quiet past n h =
      let before = so_far k station starts loads outside past in
      let so = still-so-far past n (less past n h) in
      let later = quiet_pairs n ++ past in
      let due = h.terminal in
      let enough : suc n ≡ suc (length so.0) = omega (arith, so.1) in
      let c = course_after k station starts loads outside later in
      either-silent c.holds later c (hearing_after k station starts loads outside later)
      (ap (λ (before : StationSoFar). drive_course k later (course_with k station starts loads outside before.takes later)) so.2
      ∙ still-drive k station starts before.takes past n (always-taken past) h.controller)
      (ap (λ (before : StationSoFar). drives k station.terminal loads before.hearing) so.2
      ∙ still-silent k station.terminal loads before.hearing.memory before.hearing.ticks so.0 (rw enough at due))
