-- Blocks that are put up for sending later change nothing of a station.
use Rattle.std.proofs.Common.{◌≡◌, ℕ, suc, ◌<◌, ◌≤◌, Bool, true, false, List, [], ◌∷◌, ◌++◌, length, Option, refl, ap, ◌∙◌, arith, if◌then◌else◌}
use Rattle.bus_base.specs.declared.samples.Pair.{Pair}
use Rattle.bus_base.specs.declared.samples.Drive.{Drive}
use Rattle.bus_formats.specs.Plans.{StationData}
use Rattle.bus_model.specs.Memory.{Memory, TimedLoad}
use Rattle.bus_model.specs.Hearing.{Moment, Hearing}
use Rattle.bus_model.specs.Course.{Take, Course, course, drive_course}
use Rattle.bus_model.specs.Control.{OutsideTake, StationSoFar, so_far, so_far_after, serve, hold, taken_over, takes_in, outside_takes, accepted_take, hear_more, moment_of, unheard_ticks, course_after, drives_next, is_idle, takes_control}
use Rattle.bus_model.specs.Terminal.{drives}
use Rattle.bus_law_loads.specs.Later.{AreFrom}
use Rattle.bus_law_loads.proofs.Terminals.{memory-late, drives-late, accepted-late}

-- ---- how long a terminal hears

pub unheard-long : (past : List Pair) → length (unheard_ticks past) ≡ length past
unheard-long [] = refl
unheard-long (shown ∷ past) = ap suc (unheard-long past)

module _ (k : ℕ) (station : StationData) (starts : Bool) (loads : List TimedLoad) (outside : List OutsideTake) where
  taken-long : (past : List Pair) (s : StationSoFar) (h : Hearing) (takes : List Take) → length h.ticks ≡ length past →
      length (taken_over k station starts loads outside past s h takes).hearing.ticks ≡ length past
  taken-long past s h [] long = long
  taken-long past s h (take ∷ takes) long = unheard-long past

  long-by : (b : Bool) (u v : StationSoFar) (n : ℕ) → length u.hearing.ticks ≡ n → length v.hearing.ticks ≡ n →
      length (if b then u else v).hearing.ticks ≡ n
  long-by true u v n first second = first
  long-by false u v n first second = second

  after-long : (x : Pair) (past : List Pair) (s : StationSoFar) → length s.hearing.ticks ≡ length past →
      length (so_far_after k station starts loads outside x past s).hearing.ticks ≡ suc (length past)
  after-long x past s long =
      let c : Course = course k station starts s.takes past in
      let h : Hearing = hear_more s.hearing (moment_of x c) in
      long-by c.holds (hold k station starts loads outside x past s (course k station starts s.takes (x ∷ past)))
      (serve k station starts loads outside x past s c) (suc (length past)) (ap suc long)
      (taken-long (x ∷ past) s h (takes_in k station starts loads outside (length past) h) (ap suc long))

  -- a terminal hears each tick
  pub heard-long : (past : List Pair) → length (so_far k station starts loads outside past).hearing.ticks ≡ length past
  unfolding so_far
  heard-long [] = refl
  heard-long (x ∷ past) = after-long x past (so_far k station starts loads outside past) (heard-long past)

-- ---- later loads

module _ (k : ℕ) (station : StationData) (starts : Bool) (loads later : List TimedLoad) (outside : List OutsideTake) (n : ℕ) (from : AreFrom n later) where
  takes-late : (tick : ℕ) (m : Moment) (h : Hearing) → length h.ticks ≤ n →
      takes_in k station starts (loads ++ later) outside tick (hear_more h m) ≡ takes_in k station starts loads outside tick (hear_more h m)
  takes-late tick m h early =
      ap (λ (end : Option ℕ). accepted_take tick end ++ outside_takes k station starts loads outside tick outside)
      (accepted-late k station.terminal loads later n from m h early)

  taken-late : (past : List Pair) (s : StationSoFar) (h : Hearing) (takes : List Take) → length h.ticks ≤ n →
      taken_over k station starts (loads ++ later) outside past s h takes ≡ taken_over k station starts loads outside past s h takes
  taken-late past s h [] early = refl
  taken-late past s h (take ∷ takes) early =
      ap (λ (m : Memory). record { takes = s.takes ++ take ∷ takes; hearing = record { memory = m; ticks = unheard_ticks past } })
      (memory-late k station.terminal loads later n from h early)

  after-late : (x : Pair) (past : List Pair) (s : StationSoFar) → length s.hearing.ticks ≡ length past → length past < n →
      so_far_after k station starts (loads ++ later) outside x past s ≡ so_far_after k station starts loads outside x past s
  after-late x past s long early =
      let c : Course = course k station starts s.takes past in
      let m : Moment = moment_of x c in
      let h : Hearing = hear_more s.hearing m in
      ap (λ (takes : List Take). if c.holds then hold k station starts loads outside x past s (course k station starts s.takes (x ∷ past))
      else taken_over k station starts (loads ++ later) outside (x ∷ past) s h takes) (takes-late (length past) m s.hearing (omega (arith, long, early)))
      ∙ ap (λ (v : StationSoFar). if c.holds then hold k station starts loads outside x past s (course k station starts s.takes (x ∷ past)) else v)
      (taken-late (x ∷ past) s h (takes_in k station starts loads outside (length past) h) (omega (arith, long, early)))

  -- a station is the same
  pub so-far-late : (past : List Pair) → length past ≤ n →
      so_far k station starts (loads ++ later) outside past ≡ so_far k station starts loads outside past
  unfolding so_far
  so-far-late [] early = refl
  so-far-late (x ∷ past) early =
      ap (so_far_after k station starts (loads ++ later) outside x past) (so-far-late past (omega (arith, early)))
      ∙ after-late x past (so_far k station starts loads outside past) (heard-long k station starts loads outside past) (omega (arith, early))

  -- ---- in its own tick no take changes, since what is taken over then counts later

  over-takes : (past : List Pair) (s : StationSoFar) (h : Hearing) (takes : List Take) →
      (taken_over k station starts (loads ++ later) outside past s h takes).takes ≡ (taken_over k station starts loads outside past s h takes).takes
  over-takes past s h [] = refl
  over-takes past s h (take ∷ takes) = refl

  if-takes : (b : Bool) (u v w : StationSoFar) → v.takes ≡ w.takes → (if b then u else v).takes ≡ (if b then u else w).takes
  if-takes true u v w same = refl
  if-takes false u v w same = same

  after-takes : (x : Pair) (past : List Pair) (s : StationSoFar) → length s.hearing.ticks ≡ length past → length past ≤ n →
      (so_far_after k station starts (loads ++ later) outside x past s).takes ≡ (so_far_after k station starts loads outside x past s).takes
  after-takes x past s long early =
      let c : Course = course k station starts s.takes past in
      let m : Moment = moment_of x c in
      let h : Hearing = hear_more s.hearing m in
      let held : StationSoFar = hold k station starts loads outside x past s (course k station starts s.takes (x ∷ past)) in
      let takes : List Take = takes_in k station starts loads outside (length past) h in
      ap (λ (all : List Take). (if c.holds then held else taken_over k station starts (loads ++ later) outside (x ∷ past) s h all).takes)
      (takes-late (length past) m s.hearing (omega (arith, long, early)))
      ∙ if-takes c.holds held (taken_over k station starts (loads ++ later) outside (x ∷ past) s h takes)
      (taken_over k station starts loads outside (x ∷ past) s h takes) (over-takes (x ∷ past) s h takes)

  so-far-takes : (past : List Pair) → length past ≤ suc n →
      (so_far k station starts (loads ++ later) outside past).takes ≡ (so_far k station starts loads outside past).takes
  unfolding so_far
  so-far-takes [] early = refl
  so-far-takes (x ∷ past) early =
      ap (λ (s : StationSoFar). (so_far_after k station starts (loads ++ later) outside x past s).takes) (so-far-late past (omega (arith, early)))
      ∙ after-takes x past (so_far k station starts loads outside past) (heard-long k station starts loads outside past) (omega (arith, early))

  -- so its controller is the same, up to the tick after that
  pub course-late : (past : List Pair) → length past ≤ suc n →
      course_after k station starts (loads ++ later) outside past ≡ course_after k station starts loads outside past
  course-late past early = ap (λ (takes : List Take). course k station starts takes past) (so-far-takes past early)

  drive-by : (past : List Pair) (s : StationSoFar) → length s.hearing.ticks ≤ n →
      (if (course k station starts s.takes past).holds then drive_course k past (course k station starts s.takes past)
      else drives k station.terminal (loads ++ later) s.hearing)
      ≡ (if (course k station starts s.takes past).holds then drive_course k past (course k station starts s.takes past)
      else drives k station.terminal loads s.hearing)
  drive-by past s early =
      ap (λ (d : Drive). if (course k station starts s.takes past).holds then drive_course k past (course k station starts s.takes past) else d)
      (drives-late k station.terminal loads later n from s.hearing early)

  -- it drives the same
  pub drives-next-late : (past : List Pair) → length past ≤ n →
      drives_next k station starts (loads ++ later) outside past ≡ drives_next k station starts loads outside past
  drives-next-late past early =
      ap (λ (s : StationSoFar). if (course k station starts s.takes past).holds then drive_course k past (course k station starts s.takes past)
      else drives k station.terminal (loads ++ later) s.hearing) (so-far-late past early)
      ∙ drive-by past (so_far k station starts loads outside past)
      (let long = heard-long k station starts loads outside past in omega (arith, long, early))
