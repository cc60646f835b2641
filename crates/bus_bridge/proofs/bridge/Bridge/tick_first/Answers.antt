use Rattle.std.proofs.Common.{◌≡◌, ◌∙◌, ◌++◌, List, ap, refl, sym, arith, suc, length, []}
use Rattle.std.specs.Prelude.{flat_map}
use Rattle.std.proofs.lemmas.List.{length-append}
use Rattle.bus_line.specs.declared.cutter.TheConstants.{LAG}
use Rattle.bus_formats.specs.declared.log.Delivery.{Delivery}
use Rattle.bus_model.specs.World.{world}
use Rattle.bus_run.specs.Deliveries.{taken_in}
use Rattle.bus_run.specs.Settings.{unserved}
use Rattle.bus_bridge.specs.Worlds.{handed_on, taken}
use Rattle.bus_bridge.proofs.FirstBus.{first-room, taken-room, first-next, taken-next, taken-after, handed-same}
use Rattle.bus_bridge.proofs.bridge.Bridge.tick_first.Goals as goal

pub next_tick-requires : goal.next_tick-requires
next_tick-requires c =
    let (plan, t, runs, on) = c.requires in (plan.first, [], t, runs.first_bus, first-room plan t _ runs)

pub keep_taken-requires : goal.keep_taken-requires
keep_taken-requires c =
    let (plan, t, runs, on) = c.requires in
    let room = taken-room plan t _ runs on in
    let all = ap length (taken-next plan t) ∙ length-append (taken plan t) _ in
    let before = ap length runs.taken_are in
    let more = ap length (handed-same _ plan.a _ plan.pairs _ _ runs.a_is (c.as_slice.ensures.value ∙ runs.pairs_are)
    (c.taken.ensures ∙ c.next_tick.ensures.taken plan.first [] t runs.first_bus)) in
    omega (arith, room, all, before, more)

pub returns : goal.returns
returns c plan t runs on =
    first-next plan t _ runs on _ (c.next_tick.ensures.stands plan.first [] t runs.first_bus) refl refl refl refl refl
    (taken-after plan t _ _ _ c.keep_taken.ensures.items runs.taken_are
    (handed-same _ plan.a _ plan.pairs _ _ runs.a_is (c.as_slice.ensures.value ∙ runs.pairs_are)
    (c.taken.ensures ∙ c.next_tick.ensures.taken plan.first [] t runs.first_bus))) c.keep_taken.ensures.capacity (c.keep_taken.ensures.blocks runs.blocks)
