use Rattle.std.proofs.Common.{[], suc, ◌∙◌, sym, arith}
use Rattle.bus_line.specs.declared.cutter.TheConstants.{LAG}
use Rattle.bus_model.specs.World.{world, trace}
use Rattle.bus_model.specs.WorldLog.{attempts}
use Rattle.bus_bridge.specs.Runs.{FirstRuns, with_loads}
use Rattle.bus_bridge.proofs.FirstBus.{first-room}
use Rattle.bus_bridge.proofs.Ticks.{ticks-are}
use Rattle.bus_bridge.proofs.bridge.Bridge.run_first.Goals as goal

pub ticks-init : goal.ticks-init
ticks-init c plan st = (0, st)

pub is_over-requires : goal.is_over-requires
is_over-requires c =
    let (plan, st) = c.requires in
    let (t, runs) = c.ticks.invariant plan st in
    (with_loads plan.first [], _, runs.first_bus.0, trace LAG plan.first [] [] [] t, runs.first_bus.1)

pub tick_first-requires : goal.tick_first-requires
tick_first-requires c =
    let (plan, st) = c.requires in
    let (t, runs) = c.ticks.invariant plan st in
    (plan, t, runs, sym (c.is_over.ensures (with_loads plan.first []) _ runs.first_bus.0 (trace LAG plan.first [] [] [] t) runs.first_bus.1) ∙ c.ticks-test.true)

pub ticks-preserved : goal.ticks-preserved
ticks-preserved c plan st =
    let (t, runs) = c.ticks.invariant plan st in (
      suc t,
      c.tick_first.ensures plan t runs
          (sym (c.is_over.ensures (with_loads plan.first []) _ runs.first_bus.0 (trace LAG plan.first [] [] [] t) runs.first_bus.1) ∙ c.ticks-test.true),
    )

pub ticks-smaller : goal.ticks-smaller
ticks-smaller c =
    let (plan, st) = c.requires in
    let (t, runs) = c.ticks.invariant plan st in
    let on = sym (c.is_over.ensures (with_loads plan.first []) _ runs.first_bus.0 (trace LAG plan.first [] [] [] t) runs.first_bus.1) ∙ c.ticks-test.true in
    let next = c.tick_first.ensures plan t runs on in
    let before = ticks-are plan.first [] t _ runs.first_bus in
    let after = ticks-are plan.first [] (suc t) _ next.first_bus in
    let small = (first-room plan t _ runs).small in
    omega (arith, before, after, small)

pub returns : goal.returns
returns c plan st =
    let (t, runs) = c.ticks.invariant plan st in (
      t,
      record {
        over = sym (c.is_over.ensures (with_loads plan.first []) _ runs.first_bus.0 (trace LAG plan.first [] [] [] t) runs.first_bus.1) ∙ c.ticks-test.false;
        before = runs.before;
      },
      runs,
    )
