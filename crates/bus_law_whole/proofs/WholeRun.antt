-- The world of a plan does what its run says, where its messages are told.
use Rattle.std.proofs.Common.{◌≡◌, ℕ, ◌+◌, ◌<◌, List, Some, None, refl, arith}
use Rattle.std.specs.Prelude.{slice_get}
use Rattle.bus_base.specs.declared.samples.Pair.{Pair}
use Rattle.bus_formats.specs.Accepted.{HasTerminalRanges, HasStationRanges, IsAccepted}
use Rattle.bus_formats.specs.Plans.{TerminalData, StationData, PlanData}
use Rattle.bus_model.specs.Orders.{due_after}
use Rattle.bus_model.specs.Run.{next_item}
use Rattle.bus_model.specs.Starts.{starts}
use Rattle.bus_law_phases.specs.Scenarios.{Scenario, IsPresentAt, shown_at}
use Rattle.bus_law_phases.proofs.Spares.{all-at}
use Rattle.bus_law_run.specs.Blocks.{IsHeard}
use Rattle.bus_law_run.specs.WorldIsRun.{plan_scenario, plan_run, WorldIsRun}
use Rattle.bus_law_run.proofs.WholeWorld.{plan-scenario, whole-world}
use Rattle.bus_law_whole.specs.Messages.{MessagesAreTold}
use Rattle.bus_law_whole.proofs.AcceptsAlone.{accepts-alone}
use Rattle.bus_law_whole.proofs.EachStands.{at-end, over-at-end}
use Rattle.bus_law_whole.proofs.TicksHeard.{heard-or-nothing}

-- an answer is due later than the end of what it answers is known
pub due-later : (terminal : TerminalData) → HasTerminalRanges terminal → (e : ℕ) → e + 3 < due_after terminal e
due-later terminal ranges e = let delay = ranges.delay in omega (arith, delay.0)

module _ (plan : PlanData) (accepted : IsAccepted plan) where
  abbrev w : Scenario
  w = plan_scenario plan

  ranged-at : (place : ℕ) (station : StationData) → slice_get plan.stations place ≡ Some station → HasTerminalRanges station.terminal
  ranged-at place station there =
      (all-at HasStationRanges plan.stations place station accepted.ranges there).terminal

  heard-at : (place : ℕ) (station : StationData) (shown : Pair) (past : List Pair) → IsPresentAt w place station → IsHeard w station shown past
  heard-at place station shown past here =
      heard-or-nothing w.lag station (starts plan station) w.loads w.outside shown past refl
      (λ memory now ticks. accepts-alone w.lag station.terminal w.loads memory (omega arith) (due-later station.terminal (ranged-at place station here.there)) now ticks)

  pub world-is-run : MessagesAreTold w → next_item (plan_run plan) ≡ None → WorldIsRun plan
  world-is-run tells none =
      whole-world plan accepted (at-end w (plan-scenario plan accepted) tells refl none) (over-at-end w (plan-scenario plan accepted) tells refl none)
      (λ t early other station here shown newest. heard-at other station shown (shown_at w t) here)
