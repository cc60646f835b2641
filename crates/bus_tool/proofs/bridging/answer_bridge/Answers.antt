use Rattle.std.proofs.Common.{refl, arith, ap, sym, ◌∙◌}
use Rattle.bus_tool.proofs.BridgeEnds.{wants-plans, refuses-bridge, runs-bridge}
use Rattle.bus_tool.proofs.bridging.answer_bridge.Goals as goal

pub returns-in-Err-Memory : goal.returns-in-Err-Memory
returns-in-Err-Memory g c = wants-plans _ _ _ _ c.args.input.now refl (omega arith)
