-- Plans of which no message may be abandoned, and none offers control (the project's own).
use Rattle.std.specs.Prelude.{◌≡◌, false, None}
use Rattle.std.specs.List.{AllByRecursion as Each}
use Rattle.bus_formats.specs.Plans.{ItemData, FrameData, StationData, PlanData}
use Rattle.bus_model.specs.Attempts.{is_offer}

abbrev pub IsPlainItem : ItemData → Type 0
IsPlainItem item = (item.abandon ≡ None) × (is_offer item.kind ≡ false)

abbrev pub IsPlainFrame : FrameData → Type 0
IsPlainFrame frame = Each IsPlainItem frame.items

abbrev pub IsPlainStation : StationData → Type 0
IsPlainStation station = Each IsPlainFrame station.frames

abbrev pub IsPlain : PlanData → Type 0
IsPlain plan = Each IsPlainStation plan.stations
