use Rattle.std.proofs.Common.{◌≡◌, ◌-◌, ◌++◌}
use Rattle.bus_bench.specs.Generated.{terminals_from}
use Rattle.bus_bench.proofs.generated.terminals.Given as goal

-- those so far, with those that are still to come, are all
abbrev pub invariant-loop-address : goal.invariant-loop-address
invariant-loop-address l = l.stations.items ++ terminals_from l.address (31 - l.address) ≡ terminals_from 0 31
