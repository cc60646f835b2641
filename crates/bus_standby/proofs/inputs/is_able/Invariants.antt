use Rattle.std.proofs.Common.{◌≡◌, drop}
use Rattle.std.specs.List.{list_any}
use Rattle.bus_standby.specs.Inputs.{can_take}
use Rattle.bus_standby.proofs.inputs.is_able.Given as goal

abbrev pub invariant-loop-station : goal.invariant-loop-station
invariant-loop-station l = list_any (can_take l.plan l.address) (drop l.station-index l.plan.stations) ≡ list_any (can_take l.plan l.address) l.plan.stations
