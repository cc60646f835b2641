-- The bounds that each run of an accepted plan keeps: on its ticks, and on the bursts that it shows (the project's own).
use Rattle.std.specs.Prelude.{ℕ, ◌+◌, ◌-◌, ◌*◌, ◌≤◌, List, length, find, reverse, flat_map, sum_by, Option, Some, None, IfSome}
use Rattle.std.specs.List.{AllByRecursion as Each}
use Rattle.bus_formats.specs.Plans.{PlanData}
use Rattle.bus_formats.specs.Times.{settling_quiet}
use Rattle.bus_model.specs.Log.{words_of}
use Rattle.bus_model.specs.Message.{Present}
use Rattle.bus_model.specs.Run.{Run, is_at, run_end}
use Rattle.bus_model.specs.Starts.{Origin, Opening, usual, superseding, taking}
use Rattle.bus_model.specs.Strikes.{ShownBurst, burst_ticks, burst_end, ShownAnswer}
use Rattle.bus_law_plans.specs.Amounts.{station_ticks, ticks_before}

-- a burst of at most forty words
pub record IsShort (burst : ShownBurst) : Type 0 where
  pub slots : length burst.slots ≤ 40
  pub ticks : burst_ticks burst ≤ 1600
  pub words : length (words_of burst) ≤ 40

-- an answer that runs on counts as a burst
abbrev pub still_shown : Option ShownAnswer → ℕ
still_shown None = 0
still_shown (Some old) = 1

-- the ticks of the frames before the next item of each station, of all stations together
abbrev pub frame_ticks_before : List Present → ℕ
frame_ticks_before stations = sum_by (λ station. ticks_before station.plan station.left) stations

-- no channel is driven later: so many ticks, 10,000 for each attempt, and those before the first
abbrev pub ticks_bound : Run → ℕ
ticks_bound run = 8 + frame_ticks_before run.stations + 10000 * length run.attempts

-- the tick before which the next attempt doesn't start
abbrev pub opening_tick : Opening → ℕ
opening_tick (usual need tick) = tick
opening_tick (superseding tick channel) = tick
opening_tick (taking tick) = tick

-- for how many quiet ticks it waits
abbrev pub opening_need : Opening → ℕ
opening_need (usual need tick) = need
opening_need _ = 0

-- the planned start of the frame of the next item of the station that holds control
abbrev pub planned_for : Origin → Option Present → ℕ
planned_for origin None = origin.tick
planned_for origin (Some station) = origin.tick + (ticks_before station.plan station.left - origin.offset)

-- the run shows at most three bursts for each attempt, all of them short; both channels are quiet, the next attempt may open and its frame is planned
-- within the bound; and an answer that runs on ends within it
pub record KeepsBounds (run : Run) : Type 0 where
  pub bursts : length run.bursts + still_shown run.runs_on ≤ 3 * length run.attempts
  pub short : Each IsShort run.bursts
  pub quiet : run.quiet_from ≤ ticks_bound run
  pub opens : opening_tick run.opening ≤ ticks_bound run
  pub needs : opening_need run.opening ≤ settling_quiet
  pub planned : planned_for run.origin (find (is_at run.holder) run.stations) ≤ ticks_bound run
  pub old : IfSome run.runs_on (λ answer. (burst_end answer.burst ≤ ticks_bound run) × IsShort answer.burst)

-- a run of at most so many attempts
pub record IsWithinBounds (plan : PlanData) (most : ℕ) (run : Run) : Type 0 where
  pub attempts : length run.attempts ≤ most
  pub ticks : run_end run ≤ 88 + sum_by station_ticks plan.stations + 10000 * most
  pub bursts : length run.bursts ≤ 3 * most
  pub words : length (flat_map words_of (reverse run.bursts)) ≤ 120 * most
  pub short : Each (λ burst. burst_ticks burst ≤ 1600) run.bursts
