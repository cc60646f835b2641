use Rattle.std.proofs.Common.{ap, ◌∙◌, sym}
use Rattle.bus_bench.specs.Generated.{station_at}
use Rattle.bus_bench.proofs.Stations.{last-terminal, terminal-pushed}
use Rattle.bus_bench.proofs.generated.terminals.Goals as goal

pub loop-address-preserved : goal.loop-address-preserved
loop-address-preserved c =
    terminal-pushed c.loop-address.stations.items c.push.new.self.items _ c.loop-address.address c.loop-address-test.true (c.station_at.ensures ∙ ap (station_at c.loop-address.address) c.new.ensures.items) c.in_ok-push.ensures.items
    c.loop-address.invariant

pub returns : goal.returns
returns c = sym (last-terminal c.loop-address.stations.items c.loop-address.address c.loop-address-test.false) ∙ c.loop-address.invariant
