use Rattle.bus_bridge.proofs.FirstBus.{begins-first}
use Rattle.bus_bridge.proofs.SecondBus.{first-second}
use Rattle.bus_bridge.proofs.bridge.Bridge.finish.Goals as goal

pub run_first-requires : goal.run_first-requires
run_first-requires c = let (plan, begins) = c.requires in (plan, begins-first plan _ begins)

pub run_second-requires : goal.run_second-requires
run_second-requires c =
    let (plan, begins) = c.requires in
    let (first, ends, runs) = c.run_first.ensures plan (begins-first plan _ begins) in
    (plan, first, first-second plan first _ ends runs)

pub close-requires : goal.close-requires
close-requires c =
    let (plan, begins) = c.requires in
    let (first, ends, runs) = c.run_first.ensures plan (begins-first plan _ begins) in
    let (second, over, both) = c.run_second.ensures plan first (first-second plan first _ ends runs) in
    (plan, first, second, both)

pub returns : goal.returns
returns c plan begins =
    let (first, ends, runs) = c.run_first.ensures plan (begins-first plan _ begins) in
    let (second, over, both) = c.run_second.ensures plan first (first-second plan first _ ends runs) in
    c.close.ensures plan first second over both
