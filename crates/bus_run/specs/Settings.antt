-- What a bus runs over: its plan, and what it is joined to (data handed on and standby control are the project's own).
use Rattle.std.specs.Prelude.{ℕ, ◌==◌, if◌then◌else◌, List, [], ◌∷◌, filter_map, Option, Some, None, is_some}
use Rattle.std.specs.List.{range_with_len}
use Rattle.bus_formats.specs.Plans.{StationData, PlanData}
use Rattle.bus_model.specs.Memory.{TimedLoad}
use Rattle.bus_model.specs.Control.{OutsideTake}

-- the plan, the stations whose terminals have an object behind them, in the order of the objects, the blocks that are put up for sending from
-- outside, the control that stations take by themselves, and the addresses of the stations that are absent
pub record Setting : Type 0 where
  pub plan : PlanData
  pub served : List StationData
  pub loads : List TimedLoad
  pub outside : List OutsideTake
  pub absent : List ℕ

-- the first of these stations with the address, if it names a subsystem
abbrev pub served_at : List StationData → ℕ → Option StationData
served_at [] address = None
served_at (s ∷ stations) address =
    if s.terminal.address == address then (if is_some s.terminal.subsystem then Some s else None) else served_at stations address

-- the stations that name a subsystem, in order of address: the object at a place is behind the terminal of the station at that place
unfoldable pub served : PlanData → List StationData
served plan = filter_map (served_at plan.stations) (range_with_len 0 31)

-- a bus that is joined to nothing, with the objects that its plan names
abbrev pub alone : PlanData → Setting
alone plan = record { plan = plan; served = served plan; loads = []; outside = []; absent = [] }

-- a bus without objects, to which nothing was done from outside yet
abbrev pub unserved : PlanData → Setting
unserved plan = record { plan = plan; served = []; loads = []; outside = []; absent = [] }
