-- What a run asks for before its first tick.
use Rattle.std.proofs.Common.{◌≡◌, ℕ, ◌<◌, List, [], Option}
use Rattle.std.specs.Prelude.{All}
use Rattle.std.proofs.lemmas.List.Elements.{All-nil}
use Rattle.bus_formats.specs.Plans.{PlanData}
use Rattle.bus_formats.specs.declared.log.Delivery.{Delivery}
use Rattle.bus_line.specs.declared.cutter.TheConstants.{LAG}
use Rattle.bus_model.specs.World.{world, ticks_on}
use Rattle.bus_run.specs.Deliveries.{Serves}
use Rattle.bus_run.specs.Kept.{places}

-- where no place is named, none is needed
pub no-place : (n : ℕ) (plan : PlanData) → places plan ≡ [] → All (λ place. place < n) (places plan)
no-place n plan none = rw none (All-nil (λ place. place < n))

-- before the first tick
pub as-begun : (plan : PlanData) (before told : List (Option (List Delivery))) (spare : List ℕ) → Serves plan before [] told spare →
    Serves plan before (world LAG plan [] [] [] 0) told spare
unfolding ticks_on
as-begun plan before told spare serves = serves
