use Rattle.std.proofs.Common.{◌≡◌, take}
use Rattle.bus_recording.proofs.wires.copy.Given as goal

-- the bytes so far are copied
abbrev pub invariant-loop-byte : goal.invariant-loop-byte
invariant-loop-byte l = l.buffer.items ≡ take l.byte-index l.text
