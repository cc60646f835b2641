-- What each verdict promises.
use Rattle.std.proofs.Common.{◌≡◌, ℕ, ◌≤◌, Bool, true, false, List, Option, Some, None, refl}
use Rattle.std.specs.Prelude.{IfSome, if◌then◌else◌}
use Rattle.std.specs.List.{AllByRecursion as Each}
use Rattle.bus_formats.specs.Accepted.{IsAccepted}
use Rattle.bus_formats.specs.Plans.{StationData, PlanData}
use Rattle.bus_load.specs.InTime.{AddsNone, FramesStartAsPlanned}
use Rattle.bus_load.specs.Load.{starting, station_fits, station_verdict, verdict, first_offer}
use Rattle.bus_load.specs.declared.reckoned.Verdict.TheVariants.{Long, Short, Over}
use Rattle.bus_load.proofs.Whole.{frames-start}
use Rattle.bus_model.specs.Memory.{TimedLoad}

by-long : (a b : Bool) → (if a then Long else if b then Short else Over) ≡ Long → a ≡ true
by-long true b is = refl
by-long false true is = cc
by-long false false is = cc

by-short : (a b : Bool) → (if a then Long else if b then Short else Over) ≡ Short → b ≡ true
by-short true b is = cc
by-short false true is = refl
by-short false false is = cc

fits-long : (o : Option StationData) → station_verdict o ≡ Long → IfSome o (λ station. station_fits true station ≡ true)
fits-long None is = tt
fits-long (Some station) is = by-long (station_fits true station) (station_fits false station) is

fits-short : (o : Option StationData) → station_verdict o ≡ Short → IfSome o (λ station. station_fits false station ≡ true)
fits-short None is = tt
fits-short (Some station) is = by-short (station_fits true station) (station_fits false station) is

pub long-starts : (k : ℕ) (plan : PlanData) (loads : List TimedLoad) → k ≤ 3 → IsAccepted plan → first_offer plan ≡ None → verdict plan ≡ Long →
    FramesStartAsPlanned k loads plan
long-starts k plan loads low accepted none is = frames-start k low true plan accepted tt loads none (fits-long (starting plan) is)

pub short-starts : (k : ℕ) (plan : PlanData) (loads : List TimedLoad) → k ≤ 3 → IsAccepted plan → first_offer plan ≡ None → verdict plan ≡ Short →
    Each AddsNone plan.faults → FramesStartAsPlanned k loads plan
short-starts k plan loads low accepted none is brief = frames-start k low false plan accepted brief loads none (fits-short (starting plan) is)
