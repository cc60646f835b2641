-- One tick of a bus over what was loaded so far.
use Rattle.std.proofs.Common.{◌≡◌, ℕ, zero, suc, ◌+◌, ◌≤◌, Bool, true, false, List, [], ◌∷◌, ◌++◌, length, refl, ap, sym, subst, arith, if◌then◌else◌}
use Rattle.bus_base.specs.declared.samples.Drive.{Drive}
use Rattle.bus_base.specs.declared.samples.Pair.{Pair}
use Rattle.bus_line.specs.declared.cutter.TheConstants.{LAG}
use Rattle.bus_formats.specs.Plans.{PlanData}
use Rattle.bus_formats.specs.declared.fault.Fault.{Fault}
use Rattle.bus_formats.specs.declared.log.Attempt.{Attempt}
use Rattle.bus_model.specs.Memory.{TimedLoad}
use Rattle.bus_model.specs.World.{Trace, world, trace, ticks_on, clashes, is_clash}
use Rattle.bus_model.specs.WorldLog.{attempts}
use Rattle.bus_run.specs.Deliveries.{taken_in}
use Rattle.bus_run.specs.Joined.{JoinedStands, tick_more}
use Rattle.bus_run.specs.Settings.{unserved}
use Rattle.bus_run.specs.StationRows.{ended_in}
use Rattle.bus_run.specs.declared.joined.JoinedBus.{JoinedBus}
use Rattle.bus_run.proofs.RowLaws.{attempts-next}
use Rattle.bus_bridge.specs.Runs.{RunsWith, with_loads}

module _ (plan : PlanData) (loads : List TimedLoad) where
  -- so many ticks are shown
  pub world-long : (t : ℕ) → length (world LAG plan loads [] [] t) ≡ t
  unfolding ticks_on
  world-long zero = refl
  world-long (suc t) = ap suc (world-long t)

  pub driven-long : (t : ℕ) → length (trace LAG plan loads [] [] t).driven ≡ t
  unfolding ticks_on
  driven-long zero = refl
  driven-long (suc t) = ap suc (driven-long t)

  -- the trace after one tick more
  pub trace-next : (t : ℕ) → trace LAG plan loads [] [] (suc t) ≡ tick_more (with_loads plan loads) (trace LAG plan loads [] [] t)
  unfolding ticks_on
  trace-next t = refl

  -- a bus that stands for one tick more
  pub runs-more : (t count : ℕ) (bus : JoinedBus) →
      JoinedStands (with_loads plan loads)
      (attempts LAG plan loads [] [] (world LAG plan loads [] [] t) ++ ended_in (with_loads plan loads) (tick_more (with_loads plan loads) (trace LAG plan loads [] [] t)).shown)
      count (tick_more (with_loads plan loads) (trace LAG plan loads [] [] t)) bus → RunsWith plan loads (suc t) bus
  unfolding ticks_on
  runs-more t count bus st =
      let tr : Trace = tick_more (with_loads plan loads) (trace LAG plan loads [] [] t) in (
        count,
        subst (λ (found : List Attempt). JoinedStands (with_loads plan loads) found count tr bus) (sym (attempts-next (with_loads plan loads) _ (world LAG plan loads [] [] t))) st,
      )

-- several stations drive one channel in no more ticks than there are
one-more : (b : Bool) (n m : ℕ) → n ≤ m → (if b then 1 else 0) + n ≤ suc m
one-more true n m few = omega (arith, few)
one-more false n m few = omega (arith, few)

pub clashes-few : (faults : List Fault) (driven : List (List Drive)) → clashes faults driven ≤ length driven
unfolding clashes
clashes-few faults [] = omega arith
clashes-few faults (now ∷ before) = one-more (is_clash faults (now ∷ before)) (clashes faults before) (length before) (clashes-few faults before)

-- the bus counts its ticks
pub ticks-are : (plan : PlanData) (loads : List TimedLoad) (t : ℕ) (bus : JoinedBus) → RunsWith plan loads t bus → bus.ticks ≡ t
unfolding JoinedStands
ticks-are plan loads t bus runs = (let are = runs.1.ticks_are in let long = world-long plan loads t in omega (arith, are, long))

-- a bus before its first tick
pub begins-with : (plan : PlanData) (bus : JoinedBus) → JoinedStands (unserved plan) [] 0 (record { shown = []; driven = [] }) bus → RunsWith plan [] 0 bus
unfolding ticks_on attempts
begins-with plan bus st = (0, st)
