use Rattle.std.proofs.Common.{◌≡◌, drop}
use Rattle.bus_model.specs.Memory.{loaded}
use Rattle.bus_terminal.proofs.listening.put_up.Given as goal

-- the loads so far are put up, and the others are left
abbrev pub invariant-loop-load : goal.invariant-loop-load
invariant-loop-load l = record {
  blocks : loaded l.memory.transmit (drop l.load-index l.loads) ≡ loaded l.initial.memory.transmit l.loads;
  registers : l.memory.registers ≡ l.initial.memory.registers;
  received : l.memory.received ≡ l.initial.memory.received;
}
