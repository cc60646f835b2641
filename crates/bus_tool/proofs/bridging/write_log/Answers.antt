use Rattle.bus_tool.proofs.BridgeEnds.{log-kinds}
use Rattle.bus_tool.proofs.bridging.write_log.Goals as goal

pub write_bridge-requires : goal.write_bridge-requires
write_bridge-requires g c a i at = let (plan, may, is) = c.requires in log-kinds plan _ a i may is at
