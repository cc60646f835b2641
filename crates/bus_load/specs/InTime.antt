-- Frames that start as they are planned: the first attempt at the first item of each.
use Rattle.std.specs.Prelude.{◌≡◌, ℕ, ◌+◌, ◌-◌, List, [], ◌∷◌, take, sum_by, IfSome}
use Rattle.std.specs.List.{AllByRecursion as Each}
use Rattle.bus_formats.specs.Plans.{StationData, PlanData}
use Rattle.bus_formats.specs.declared.fault.Fault.{Fault}
use Rattle.bus_formats.specs.declared.log.Attempt.{Attempt}
use Rattle.bus_load.specs.Load.{starting}
use Rattle.bus_model.specs.Memory.{TimedLoad}
use Rattle.bus_model.specs.Run.{run_of}
use Rattle.bus_model.specs.Starts.{repeated, first_origin}
use Rattle.bus_model.specs.Strikes.{added_by}

-- the planned start of a frame, counted from 1 through all repetitions: after the ticks of all frames before it
abbrev pub planned_tick : StationData → ℕ → ℕ
planned_tick station frame = first_origin.tick + sum_by (λ f. f.ticks) (take (frame - 1) (repeated station.repeat station.frames))

-- where it is the first at its frame's first item, an attempt starts in that tick
abbrev pub StartsAsPlanned : StationData → Attempt → Type 0
StartsAsPlanned station attempt = attempt.item ≡ 1 → attempt.turn ≡ 1 → attempt.start.0 ≡ planned_tick station attempt.frame

-- each frame of the station that starts does so in the plan's run by the message table
abbrev pub FramesStartAsPlanned : ℕ → List TimedLoad → PlanData → Type 0
FramesStartAsPlanned k loads plan = IfSome (starting plan) (λ station. Each (StartsAsPlanned station) (run_of k loads plan).attempts)

-- the plan with these faults in place of its own
abbrev pub with_faults : List Fault → PlanData → PlanData
with_faults faults plan = record plan { faults = faults }

-- a fault that adds no words
abbrev pub AddsNone : Fault → Type 0
AddsNone fault = added_by (fault.hit ∷ []) ≡ 0
