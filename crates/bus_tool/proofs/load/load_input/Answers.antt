use Rattle.std.proofs.Common.{refl, arith, ap, ◌∙◌, Err}
use Rattle.bus_tool.proofs.Loading.{read_fault_ends, memory_ends, load_answered}
use Rattle.bus_tool.proofs.load.load_input.Goals as goal

pub returns-in-Err-Fault : goal.returns-in-Err-Fault
returns-in-Err-Fault g c told said spare =
    read_fault_ends _ _ _ _ _ _ _ _ told said spare c.read_input.ensures.later (omega arith) (c.read_input.ensures.fault (c.in-Err-Fault.is ∙ ap (λ e. Err e) c.in-Err-Fault.field-0-is)) refl

pub returns-in-Err-Memory : goal.returns-in-Err-Memory
returns-in-Err-Memory g c told said spare = memory_ends _ _ _ _ _ _ _ _ told said spare c.read_input.ensures.later (omega arith) refl

pub returns-in-Ok : goal.returns-in-Ok
returns-in-Ok g c told said spare =
    load_answered _ _ _ _ _ _ _ _ told said spare c.read_input.ensures.later c.answer_load.ensures.later c.in-Ok.input.items c.answer_load.result
    c.in-Ok.ensures.input (rw c.as_slice.ensures.value at c.answer_load.ensures)
