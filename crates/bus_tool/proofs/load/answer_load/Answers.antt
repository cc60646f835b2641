use Rattle.std.proofs.Common.{refl, arith}
use Rattle.bus_tool.proofs.Loading.{wants-plan}
use Rattle.bus_tool.proofs.load.answer_load.Goals as goal

pub returns-in-Err-Memory : goal.returns-in-Err-Memory
returns-in-Err-Memory g c = wants-plan _ _ _ _ c.args.input.now refl (omega arith)
