-- Buses of which the whole run is told.
use Rattle.std.specs.Prelude.{◌≡◌}
use Rattle.bus_formats.specs.Accepted.{IsAccepted}
use Rattle.bus_model.specs.Run.{Run, run_of}
use Rattle.bus_law_plans.specs.Memories.{AreBlocks}
use Rattle.bus_law_phases.specs.Scenarios.{Scenario, IsWhole}

-- an accepted plan at the product's lag, and the blocks that are put up for sending have words of sixteen bits
pub record IsAcceptedBus (w : Scenario) : Type 0 where
  pub lag : w.lag ≡ 3
  pub accepted : IsAccepted w.plan
  pub blocks : AreBlocks w.loads

-- so it is, and the same stations are there from the first tick on, and none takes control by itself
pub record IsAcceptedScenario (w : Scenario) : Type 0 where
  pub bus : IsAcceptedBus w
  pub whole : IsWhole w

-- its run by the message table
abbrev pub run_in : Scenario → Run
run_in w = run_of w.lag w.loads w.plan
