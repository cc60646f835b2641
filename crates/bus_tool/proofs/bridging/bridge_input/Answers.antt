use Rattle.std.proofs.Common.{refl, arith, ap, ◌∙◌, Err}
use Rattle.bus_tool.proofs.BridgeEnds.{read-fault-ends, wanting-ends, bridge-answered}
use Rattle.bus_tool.proofs.bridging.bridge_input.Goals as goal

pub returns-in-Err-Fault : goal.returns-in-Err-Fault
returns-in-Err-Fault g c told said spare =
    read-fault-ends _ _ _ _ _ _ _ _ told said spare c.read_input_up_to.ensures.later (omega arith)
    (c.read_input_up_to.ensures.fault (c.in-Err-Fault.is ∙ ap (λ e. Err e) c.in-Err-Fault.field-0-is)) refl

pub returns-in-Err-Memory : goal.returns-in-Err-Memory
returns-in-Err-Memory g c told said spare = wanting-ends _ _ _ _ _ _ _ _ told said spare c.read_input_up_to.ensures.later (omega arith) refl

pub returns-in-Ok : goal.returns-in-Ok
returns-in-Ok g c told said spare =
    bridge-answered _ _ _ _ _ _ _ _ told said spare c.read_input_up_to.ensures.later c.answer_bridge.ensures.later c.in-Ok.input.items c.answer_bridge.result
    c.in-Ok.ensures.input (rw c.as_slice.ensures.value at c.answer_bridge.ensures)
