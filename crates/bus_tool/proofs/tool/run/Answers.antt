use Rattle.bus_tool.proofs.Ending.{answered, wants-input}
use Rattle.bus_tool.proofs.tool.run.Goals as goal

pub returns-in-Err-Memory : goal.returns-in-Err-Memory
returns-in-Err-Memory g c = wants-input _ _ _ _ _ _ _ _ _ c.args.text c.read_input.ensures.later

pub returns-in-Ok : goal.returns-in-Ok
returns-in-Ok g c =
    answered _ _ _ _ _ _ _ _ _ _ _ _ _ _ c.args.text c.read_input.ensures.later c.answer.ensures.later c.in-Ok.input.items c.answer.result.status
    c.answer.result.bus c.in-Ok.ensures.input
    (rw c.as_slice.ensures.value at c.answer.ensures)
