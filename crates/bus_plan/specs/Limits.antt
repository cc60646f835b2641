-- What a plan has too much of.
use Rattle.std.specs.Prelude.{ℕ, ◌*◌, nat_lt, if◌then◌else◌, List, length, sum_by, codes, Option, Some, None}
use Rattle.std.specs.List.{list_any}
use Rattle.bus_formats.specs.Plans.{FrameData, StationData, PlanData}
use Rattle.bus_plan.specs.declared.limits.Measure.{Measure}
use Rattle.bus_plan.specs.declared.limits.Measure.TheVariants.{Items, RepeatedItems, RepeatedTicks}
use Rattle.bus_plan.specs.declared.rows.Head.{Head}

-- how much a frame has, and how often it counts in its station
abbrev pub of_frame : Measure → FrameData → ℕ
of_frame RepeatedTicks f = f.ticks
of_frame _ f = length f.items

abbrev pub times_in : Measure → StationData → ℕ
times_in Items s = 1
times_in _ s = s.repeat

abbrev pub of_frames : Measure → List FrameData → ℕ
of_frames measure frames = sum_by (of_frame measure) frames

abbrev pub of_stations : Measure → List StationData → ℕ
of_stations measure stations = sum_by (λ s. times_in measure s * of_frames measure s.frames) stations

-- how many frames a station may have
abbrev pub most_frames : Head → ℕ
most_frames head = if head.is_second then 1024 else 64

-- what there is too much of
abbrev pub too_many : Head → PlanData → Option (List ℕ)
too_many head p =
    if nat_lt 32 (length p.stations) then Some (codes "stations")
    else if list_any (λ s. nat_lt (most_frames head) (length s.frames)) p.stations then Some (codes "frames")
    else if nat_lt 4096 (of_stations Items p.stations) then Some (codes "items")
    else if nat_lt 1024 (length p.faults) then Some (codes "faults")
    else if nat_lt 16384 (of_stations RepeatedItems p.stations) then Some (codes "repeats")
    else if nat_lt 2048000000 (of_stations RepeatedTicks p.stations) then Some (codes "ticks")
    else None
