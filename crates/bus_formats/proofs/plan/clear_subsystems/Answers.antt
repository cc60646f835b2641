use Rattle.std.proofs.Common.{arith}
use Rattle.std.proofs.lemmas.List.Edits.{map_over_more}
use Rattle.bus_formats.specs.Plans.{without_subsystem}
use Rattle.bus_formats.proofs.plan.clear_subsystems.Goals as goal

pub loop-station-preserved : goal.loop-station-preserved
loop-station-preserved c =
    let more = map_over_more without_subsystem c.args.stations.now c.loop-station.stations c.loop-station.station-index
    c.station-item.result (omega arith) c.loop-station.invariant c.station-item.is in
    cc more
