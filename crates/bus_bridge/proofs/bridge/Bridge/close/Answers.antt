use Rattle.std.proofs.Common.{◌≡◌, ◌∙◌, ◌+◌, ℕ, [], refl, ap, sym, arith, length}
use Rattle.bus_line.specs.declared.cutter.TheConstants.{LAG}
use Rattle.bus_model.specs.World.{world, trace, clashes}
use Rattle.bus_bridge.specs.Runs.{with_loads}
use Rattle.bus_bridge.proofs.Kept.{same-sum}
use Rattle.bus_bridge.proofs.SecondBus.{loaded, log-is, clashes-small}
use Rattle.bus_bridge.proofs.Ticks.{world-long, ticks-are}
use Rattle.bus_bridge.proofs.bridge.Bridge.close.Goals as goal

pub overflow_add-clashes : goal.overflow_add-clashes
overflow_add-clashes c =
    let (plan, first, second, runs) = c.requires in
    let ls = loaded plan first second second _ runs in
    let one = c.clashes.ensures (with_loads plan.first []) _ runs.first_bus.0 (trace LAG plan.first [] [] [] first) runs.first_bus.1 in
    let two = c.clashes-2.ensures (with_loads plan.second ls) _ runs.second_bus.0 (trace LAG plan.second ls [] [] second) runs.second_bus.1 in
    let small = clashes-small plan first second second _ runs in
    omega (arith, one, two, small.0, small.1)

pub returns : goal.returns
returns c plan first second ends runs =
    let ls = loaded plan first second second _ runs in
    let one = c.clashes.ensures (with_loads plan.first []) _ runs.first_bus.0 (trace LAG plan.first [] [] [] first) runs.first_bus.1 in
    let two = c.clashes-2.ensures (with_loads plan.second ls) _ runs.second_bus.0 (trace LAG plan.second ls [] [] second) runs.second_bus.1 in
    log-is plan first second _ _ runs (world-long plan.second ls second) ends refl
    (c.into_attempts.ensures (with_loads plan.second ls) _ runs.second_bus.0 (trace LAG plan.second ls [] [] second) runs.second_bus.1)
    (c.ticks.ensures (with_loads plan.first []) _ runs.first_bus.0 (trace LAG plan.first [] [] [] first) runs.first_bus.1 ∙ world-long plan.first [] first)
    (c.ticks-2.ensures (with_loads plan.second ls) _ runs.second_bus.0 (trace LAG plan.second ls [] [] second) runs.second_bus.1 ∙ world-long plan.second ls second)
    (same-sum _ _ _ _ one two)
