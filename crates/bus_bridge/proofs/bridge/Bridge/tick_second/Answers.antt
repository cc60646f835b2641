use Rattle.std.proofs.Common.{refl, arith}
use Rattle.bus_bridge.proofs.SecondBus.{loaded, second-room, second-next}
use Rattle.bus_bridge.proofs.Ticks.{world-long}
use Rattle.bus_bridge.proofs.bridge.Bridge.tick_second.Goals as goal

pub next_tick-requires : goal.next_tick-requires
next_tick-requires c =
    let (plan, first, t, runs, on) = c.requires in
    let ls = loaded plan first t t _ runs in
    (plan.second, ls, t, runs.second_bus, second-room plan first t t _ runs (world-long plan.second ls t) (omega arith))

pub returns : goal.returns
returns c plan first t runs on =
    second-next plan first t t _ runs _ on (c.next_tick.ensures.stands plan.second (loaded plan first t t _ runs) t runs.second_bus) refl refl refl refl refl
