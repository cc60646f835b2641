use Rattle.std.proofs.Common.{◌≡◌, ◌∙◌, ◌<◌, ℕ, suc, Some, [], refl, ap, sym, arith, take}
use Rattle.std.specs.Prelude.{slice_get}
use Rattle.bus_line.specs.declared.cutter.TheConstants.{LAG}
use Rattle.bus_model.specs.World.{trace}
use Rattle.bus_bridge.specs.Runs.{with_loads}
use Rattle.bus_bridge.specs.Worlds.{loads_by}
use Rattle.bus_bridge.proofs.Kept.{found-at}
use Rattle.bus_bridge.proofs.SecondBus.{next-due, next-words, due-stands, due-after, due-later}
use Rattle.bus_bridge.proofs.Ticks.{ticks-are, world-long}
use Rattle.bus_bridge.proofs.bridge.Bridge.load_next.Goals as goal

pub load_all-requires-clause-some : goal.load_all-requires-clause-some
load_all-requires-clause-some c =
    let (plan, first, t, runs) = c.requires.runs in
    next-words plan first t _ runs c.index-next.result.now
    (found-at c.args.self.now.taken.items c.args.self.now.loaded c.index-next.result.now c.requires.left c.index-next.ensures)

pub load_all-requires-clause-stands : goal.load_all-requires-clause-stands
load_all-requires-clause-stands c =
    let (plan, first, t, runs) = c.requires.runs in
    let ls = loads_by plan.b plan.pairs (take c.args.self.now.loaded c.args.self.now.taken.items) in
    let at = found-at c.args.self.now.taken.items c.args.self.now.loaded c.index-next.result.now c.requires.left c.index-next.ensures in
    let ticks = c.ticks.ensures (with_loads plan.second ls) _ runs.second_bus.0 (trace LAG plan.second ls [] [] (suc t)) runs.second_bus.1
    ∙ world-long plan.second ls (suc t) in
    let early = c.if-next-ticks.true in
    due-stands plan first t _ runs c.index-next.result.now
    (next-due plan first t _ runs c.index-next.result.now at (omega (arith, ticks, early)))

pub returns-then-next-ticks : goal.returns-then-next-ticks
returns-then-next-ticks c plan first t runs =
    let ls = loads_by plan.b plan.pairs (take c.args.self.now.loaded c.args.self.now.taken.items) in
    let at = found-at c.args.self.now.taken.items c.args.self.now.loaded c.index-next.result.now c.requires.left c.index-next.ensures in
    let ticks = c.ticks.ensures (with_loads plan.second ls) _ runs.second_bus.0 (trace LAG plan.second ls [] [] (suc t)) runs.second_bus.1
    ∙ world-long plan.second ls (suc t) in
    let early = c.if-next-ticks.true in
    due-after plan first t _ runs _ c.index-next.result.now _ _ at
    (next-due plan first t _ runs c.index-next.result.now at (omega (arith, ticks, early)))
    runs.b_is (c.as_slice.ensures.value ∙ runs.pairs_are) c.load_all.ensures refl refl refl refl refl

pub returns-else-next-ticks : goal.returns-else-next-ticks
returns-else-next-ticks c plan first t runs =
    let ls = loads_by plan.b plan.pairs (take c.args.self.now.loaded c.args.self.now.taken.items) in
    let at = found-at c.args.self.now.taken.items c.args.self.now.loaded c.index-next.result.now c.requires.left c.index-next.ensures in
    let ticks = c.ticks.ensures (with_loads plan.second ls) _ runs.second_bus.0 (trace LAG plan.second ls [] [] (suc t)) runs.second_bus.1
    ∙ world-long plan.second ls (suc t) in
    let late = c.if-next-ticks.false in
    due-later plan first t _ runs c.index-next.result.now at (omega (arith, ticks, late))
