-- Blocks that are put up for sending later change nothing of a bus.
use Rattle.std.proofs.Common.{◌≡◌, ℕ, zero, suc, ◌<◌, ◌≤◌, Bool, true, false, not, ◌&&◌, ◌||◌, List, [], ◌∷◌, ◌++◌, length, map, Option, None, refl, ap, sym, subst, ◌∙◌, arith, if◌then◌else◌}
use Rattle.std.specs.Prelude.{is_none, nat_le, flat_map}
use Rattle.std.specs.List.{list_all}
use Rattle.bus_base.specs.declared.samples.Pair.{Pair}
use Rattle.bus_base.specs.declared.samples.Drive.{Drive}
use Rattle.bus_base.specs.declared.samples.Drive.TheVariants.{Silent}
use Rattle.bus_line.specs.Channels.{quiet_both}
use Rattle.bus_formats.specs.Plans.{StationData, PlanData}
use Rattle.bus_formats.specs.Times.{ending_quiet}
use Rattle.bus_formats.specs.declared.log.Attempt.{Attempt}
use Rattle.bus_model.specs.Memory.{TimedLoad}
use Rattle.bus_model.specs.Starts.{starts, has_items}
use Rattle.bus_model.specs.Course.{Course}
use Rattle.bus_model.specs.Control.{OutsideTake, taking_from}
use Rattle.bus_model.specs.World.{Trace, trace, world, ticks_on, next_tick, shown_next, drives_after, drive_after, is_present, is_done, run_is_over}
use Rattle.bus_model.specs.WorldLog.{attempts, attempt_at, ended_by, present_stations}
use Rattle.bus_law_loads.specs.Later.{AreFrom}
use Rattle.bus_law_loads.proofs.Terminals.{from-before}
use Rattle.bus_law_loads.proofs.Stations.{course-late, drives-next-late}

module _ (k : ℕ) (plan : PlanData) (loads later : List TimedLoad) (outside : List OutsideTake) (absent : List ℕ) (n : ℕ) (from : AreFrom n later) where
  -- ---- what is driven and shown

  drive-late : (past : List Pair) (station : StationData) → length past ≤ n →
      drive_after k plan (loads ++ later) outside absent past station ≡ drive_after k plan loads outside absent past station
  drive-late past station early =
      ap (λ (d : Drive). if is_present absent station then d else Silent)
      (drives-next-late k station (starts plan station) loads later outside n from past early)

  all-drive-late : (past : List Pair) (stations : List StationData) → length past ≤ n →
      map (drive_after k plan (loads ++ later) outside absent past) stations ≡ map (drive_after k plan loads outside absent past) stations
  all-drive-late past [] early = refl
  all-drive-late past (station ∷ stations) early =
      ap (λ (d : Drive). d ∷ map (drive_after k plan (loads ++ later) outside absent past) stations) (drive-late past station early)
      ∙ ap (λ (ds : List Drive). drive_after k plan loads outside absent past station ∷ ds) (all-drive-late past stations early)

  shown-long : (t : ℕ) → length (world k plan loads outside absent t) ≡ t
  unfolding ticks_on
  shown-long zero = refl
  shown-long (suc t) = ap suc (shown-long t)

  pub trace-late : (t : ℕ) → t ≤ suc n → trace k plan (loads ++ later) outside absent t ≡ trace k plan loads outside absent t
  unfolding ticks_on
  trace-late zero early = refl
  trace-late (suc t) early =
      ap (next_tick k plan (loads ++ later) outside absent) (trace-late t (omega (arith, early)))
      ∙ ap (λ (ds : List Drive). shown_next k plan loads outside absent (trace k plan loads outside absent t) (ds ∷ (trace k plan loads outside absent t).driven))
      (all-drive-late (world k plan loads outside absent t) plan.stations (let long = shown-long t in omega (arith, long, early)))

  -- ---- which attempts end

  ended-late : (x : Pair) (past : List Pair) (stations : List StationData) → length (x ∷ past) ≤ suc n →
      flat_map (ended_by k plan (loads ++ later) outside absent (x ∷ past) (length past)) stations
      ≡ flat_map (ended_by k plan loads outside absent (x ∷ past) (length past)) stations
  ended-late x past [] early = refl
  ended-late x past (station ∷ stations) early =
      ap (λ (c : Course). attempt_at k plan loads outside absent station.terminal.address (length past) c.ended
      ++ flat_map (ended_by k plan (loads ++ later) outside absent (x ∷ past) (length past)) stations)
      (course-late k station (starts plan station) loads later outside n from (x ∷ past) early)
      ∙ ap (λ (all : List Attempt). ended_by k plan loads outside absent (x ∷ past) (length past) station ++ all) (ended-late x past stations early)

  pub attempts-late : (past : List Pair) → length past ≤ suc n →
      attempts k plan (loads ++ later) outside absent past ≡ attempts k plan loads outside absent past
  unfolding attempts
  attempts-late [] early = refl
  attempts-late (x ∷ past) early =
      ap (λ (all : List Attempt). all ++ flat_map (ended_by k plan (loads ++ later) outside absent (x ∷ past) (length past))
      (present_stations k plan loads outside absent)) (attempts-late past (omega (arith, early)))
      ∙ ap (λ (all : List Attempt). attempts k plan loads outside absent past ++ all)
      (ended-late x past (present_stations k plan loads outside absent) early)

  -- ---- the end of a run

  done-late : (past : List Pair) (station : StationData) → length past ≤ suc n →
      is_done k plan (loads ++ later) outside absent past station ≡ is_done k plan loads outside absent past station
  done-late past station early =
      ap (λ (c : Course). not (is_present absent station)
      || ((not c.holds || (is_none c.runs && not (has_items c.left)))
      && is_none (if c.holds then taking_from (length past) c.opening else None)))
      (course-late k station (starts plan station) loads later outside n from past early)

  all-done-late : (past : List Pair) (stations : List StationData) → length past ≤ suc n →
      list_all (is_done k plan (loads ++ later) outside absent past) stations ≡ list_all (is_done k plan loads outside absent past) stations
  all-done-late past [] early = refl
  all-done-late past (station ∷ stations) early =
      ap (λ (b : Bool). b && list_all (is_done k plan (loads ++ later) outside absent past) stations) (done-late past station early)
      ∙ ap (λ (b : Bool). is_done k plan loads outside absent past station && b) (all-done-late past stations early)

  pub over-late : (t : ℕ) → t ≤ suc n → run_is_over k plan (loads ++ later) outside absent t ≡ run_is_over k plan loads outside absent t
  over-late t early =
      ap (λ (tr : Trace). nat_le ending_quiet (quiet_both tr.shown) && list_all (is_done k plan (loads ++ later) outside absent tr.shown) plan.stations)
      (trace-late t early)
      ∙ ap (λ (b : Bool). nat_le ending_quiet (quiet_both (world k plan loads outside absent t)) && b)
      (all-done-late (world k plan loads outside absent t) plan.stations (let long = shown-long t in omega (arith, long, early)))
