-- Plans of which no message is disturbed: no fault strikes the bus, and no message may be abandoned (the project's own).
use Rattle.std.specs.Prelude.{◌≡◌, [], None}
use Rattle.std.specs.List.{AllByRecursion as Each}
use Rattle.bus_formats.specs.Plans.{ItemData, FrameData, StationData, PlanData}

-- no message of these frames may be abandoned: each waits for its answer
abbrev pub AbandonNone : FrameData → Type 0
AbandonNone frame = Each (λ (item : ItemData). item.abandon ≡ None) frame.items

-- the plan names no fault, and no item of it says when its message is abandoned
pub record IsUndisturbed (plan : PlanData) : Type 0 where
  pub faults : plan.faults ≡ []
  pub kept : Each (λ (station : StationData). Each AbandonNone station.frames) plan.stations
