-- A bus does the same in each tick with and without the subsystems that its plan names.
use Rattle.std.proofs.Common.{◌≡◌, inl, inr, ℕ, zero, suc, Bool, true, false, not, List, [], ◌∷◌, map, refl, sym, ap, ◌∙◌, arith}
use Rattle.std.proofs.lemmas.Bool.{cases_lt}
use Rattle.std.specs.Prelude.{◌&&◌, ◌||◌, nat_le, if◌then◌else◌, is_none}
use Rattle.std.specs.List.{list_all}
use Rattle.bus_base.specs.declared.samples.Drive.{Drive}
use Rattle.bus_base.specs.declared.samples.Drive.TheVariants.{Silent}
use Rattle.bus_base.specs.declared.samples.Pair.{Pair}
use Rattle.bus_line.specs.Channels.{quiet_both}
use Rattle.bus_line.specs.declared.cutter.TheConstants.{LAG}
use Rattle.bus_formats.specs.Accepted.{IsAccepted}
use Rattle.bus_formats.specs.Plans.{StationData, PlanData, without_subsystem, without_subsystems}
use Rattle.bus_formats.specs.Times.{ending_quiet}
use Rattle.bus_model.specs.Control.{OutsideTake, takes_control, is_idle}
use Rattle.bus_model.specs.Memory.{TimedLoad}
use Rattle.bus_model.specs.Starts.{starts}
use Rattle.bus_model.specs.World.{Trace, is_present, drive_after, shown_next, next_tick, ticks_on, trace, world, is_done, run_is_over}
use Rattle.bus_law_run.specs.WorldIsRun.{plan_end, WorldIsRun}
use Rattle.bus_run.proofs.TableRun.{of-plan}
use Rattle.bus_survey.proofs.WithoutSubsystems.{accepted-without}
use Rattle.bus_law_readback.proofs.AlikeStation.{drives-next-same, idle-same, takes-control-same}

module _ (k : ℕ) (plan : PlanData) (loads : List TimedLoad) (outside : List OutsideTake) (absent : List ℕ) where
  -- the plan without its subsystems
  abbrev bare : PlanData
  bare = without_subsystems plan

  drive-same : (past : List Pair) (s : StationData) →
      drive_after k bare loads outside absent past (without_subsystem s) ≡ drive_after k plan loads outside absent past s
  drive-same past s =
      ap (λ (d : Drive). if is_present absent s then d else Silent) (drives-next-same k s (starts plan s) loads outside past)

  all-drive-same : (past : List Pair) (stations : List StationData) →
      map (drive_after k bare loads outside absent past) (map without_subsystem stations) ≡ map (drive_after k plan loads outside absent past) stations
  all-drive-same past [] = refl
  all-drive-same past (s ∷ stations) =
      ap (λ d. d ∷ map (drive_after k bare loads outside absent past) (map without_subsystem stations)) (drive-same past s)
      ∙ ap (λ ds. drive_after k plan loads outside absent past s ∷ ds) (all-drive-same past stations)

  next-same : (so : Trace) → next_tick k bare loads outside absent so ≡ next_tick k plan loads outside absent so
  next-same so = ap (λ (ds : List Drive). shown_next k plan loads outside absent so (ds ∷ so.driven)) (all-drive-same so.shown plan.stations)

  on-same : (so : Trace) (t : ℕ) → ticks_on k bare loads outside absent so t ≡ ticks_on k plan loads outside absent so t
  unfolding ticks_on
  on-same so zero = refl
  on-same so (suc t) = ap (next_tick k bare loads outside absent) (on-same so t) ∙ next-same (ticks_on k plan loads outside absent so t)

  pub trace-same : (t : ℕ) → trace k bare loads outside absent t ≡ trace k plan loads outside absent t
  trace-same t = on-same record { shown = []; driven = [] } t

  pub world-same : (t : ℕ) → world k bare loads outside absent t ≡ world k plan loads outside absent t
  world-same t = ap (λ (so : Trace). so.shown) (trace-same t)

  done-same : (past : List Pair) (s : StationData) →
      is_done k bare loads outside absent past (without_subsystem s) ≡ is_done k plan loads outside absent past s
  done-same past s =
      ap (λ (b : Bool). not (is_present absent s) || (b && is_none (takes_control k (without_subsystem s) (starts plan s) loads outside past)))
      (idle-same k s (starts plan s) loads outside past)
      ∙ ap (λ o. not (is_present absent s) || (is_idle k s (starts plan s) loads outside past && is_none o))
      (takes-control-same k s (starts plan s) loads outside past)

  all-done-same : (past : List Pair) (stations : List StationData) →
      list_all (is_done k bare loads outside absent past) (map without_subsystem stations) ≡ list_all (is_done k plan loads outside absent past) stations
  all-done-same past [] = refl
  all-done-same past (s ∷ stations) =
      ap (λ (b : Bool). b && list_all (is_done k bare loads outside absent past) (map without_subsystem stations)) (done-same past s)
      ∙ ap (λ (b : Bool). is_done k plan loads outside absent past s && b) (all-done-same past stations)

  pub over-same : (t : ℕ) → run_is_over k bare loads outside absent t ≡ run_is_over k plan loads outside absent t
  over-same t =
      ap (λ past. nat_le ending_quiet (quiet_both past) && list_all (is_done k bare loads outside absent past) (map without_subsystem plan.stations))
      (world-same t)
      ∙ (let past = world k plan loads outside absent t in ap (λ (b : Bool). nat_le ending_quiet (quiet_both past) && b) (all-done-same past plan.stations))

-- ---- the end of the run of an accepted plan

-- two runs that are over in the same ticks end in the same one
same-end : (a b : PlanData) → WorldIsRun a → WorldIsRun b →
    ((t : ℕ) → run_is_over LAG a [] [] [] t ≡ run_is_over LAG b [] [] [] t) → plan_end a ≡ plan_end b
same-end a b of-a of-b same = elim (cases_lt (plan_end a) (plan_end b)) [
  | inl sooner ↦ (let no : true ≡ false = sym of-a.over ∙ same (plan_end a) ∙ (of-b.orderly (plan_end a) sooner).goes_on in cc)
  | inr none ↦ elim (cases_lt (plan_end b) (plan_end a)) [
    | inl later ↦ (let no : true ≡ false = sym of-b.over ∙ sym (same (plan_end b)) ∙ (of-a.orderly (plan_end b) later).goes_on in cc)
    | inr neither ↦ omega (arith, none, neither)
  ]
]

pub ends-same : (plan : PlanData) → IsAccepted plan → plan_end (without_subsystems plan) ≡ plan_end plan
ends-same plan accepted =
    let bare = without_subsystems plan in
    same-end bare plan (of-plan bare (accepted-without plan accepted)) (of-plan plan accepted) (over-same LAG plan [] [] [])
