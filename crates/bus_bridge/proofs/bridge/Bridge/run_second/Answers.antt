use Rattle.std.proofs.Common.{◌≡◌, ◌≤◌, ℕ, [], suc, false, true, ◌∙◌, sym, arith, take}
use Rattle.bus_line.specs.declared.cutter.TheConstants.{LAG}
use Rattle.bus_model.specs.World.{world, trace, run_is_over}
use Rattle.bus_bridge.specs.Runs.{SecondRuns, with_loads}
use Rattle.bus_bridge.specs.Worlds.{loads}
use Rattle.bus_bridge.proofs.SecondBus.{loaded, same-over, second-room}
use Rattle.bus_bridge.proofs.Ticks.{ticks-are, world-long}
use Rattle.bus_bridge.proofs.bridge.Bridge.run_second.Goals as goal

pub ticks-init : goal.ticks-init
ticks-init c plan first st = (0, st)

pub is_over-requires : goal.is_over-requires
is_over-requires c =
    let (plan, first, st) = c.requires in
    let (t, runs) = c.ticks.invariant plan first st in
    (with_loads plan.second (loaded plan first t t _ runs), _, runs.second_bus.0, trace LAG plan.second (loaded plan first t t _ runs) [] [] t, runs.second_bus.1)

pub tick_second-requires : goal.tick_second-requires
tick_second-requires c =
    let (plan, first, st) = c.requires in
    let (t, runs) = c.ticks.invariant plan first st in
    let ls = loaded plan first t t _ runs in (
      plan,
      first,
      t,
      runs,
      same-over plan first t t _ runs t (omega arith)
          ∙ sym (c.is_over.ensures (with_loads plan.second ls) _ runs.second_bus.0 (trace LAG plan.second ls [] [] t) runs.second_bus.1) ∙ c.ticks-test.true,
    )

pub load_due-requires : goal.load_due-requires
load_due-requires c =
    let (plan, first, st) = c.requires in
    let (t, runs) = c.ticks.invariant plan first st in
    let ls = loaded plan first t t _ runs in (
      plan,
      first,
      t,
      c.tick_second.ensures plan first t runs
          (same-over plan first t t _ runs t (omega arith)
          ∙ sym (c.is_over.ensures (with_loads plan.second ls) _ runs.second_bus.0 (trace LAG plan.second ls [] [] t) runs.second_bus.1) ∙ c.ticks-test.true),
    )

pub ticks-preserved : goal.ticks-preserved
ticks-preserved c plan first st =
    let (t, runs) = c.ticks.invariant plan first st in
    let ls = loaded plan first t t _ runs in (
      suc t,
      c.load_due.ensures plan first t
          (c.tick_second.ensures plan first t runs
          (same-over plan first t t _ runs t (omega arith)
          ∙ sym (c.is_over.ensures (with_loads plan.second ls) _ runs.second_bus.0 (trace LAG plan.second ls [] [] t) runs.second_bus.1) ∙ c.ticks-test.true)),
    )

pub ticks-smaller : goal.ticks-smaller
ticks-smaller c =
    let (plan, first, st) = c.requires in
    let (t, runs) = c.ticks.invariant plan first st in
    let ls = loaded plan first t t _ runs in
    let on = same-over plan first t t _ runs t (omega arith)
    ∙ sym (c.is_over.ensures (with_loads plan.second ls) _ runs.second_bus.0 (trace LAG plan.second ls [] [] t) runs.second_bus.1) ∙ c.ticks-test.true in
    let next = c.load_due.ensures plan first t (c.tick_second.ensures plan first t runs on) in
    let before = ticks-are plan.second ls t _ runs.second_bus in
    let after = ticks-are plan.second _ (suc t) _ next.second_bus in
    let small = (second-room plan first t t _ runs (world-long plan.second ls t) (omega arith)).small in
    omega (arith, before, after, small)

pub returns : goal.returns
returns c plan first st =
    let (t, runs) = c.ticks.invariant plan first st in
    let ls = loaded plan first t t _ runs in (
      t,
      record {
        over = same-over plan first t t _ runs t (omega arith)
            ∙ sym (c.is_over.ensures (with_loads plan.second ls) _ runs.second_bus.0 (trace LAG plan.second ls [] [] t) runs.second_bus.1) ∙ c.ticks-test.false;
        before = runs.before;
      },
      runs,
    )
