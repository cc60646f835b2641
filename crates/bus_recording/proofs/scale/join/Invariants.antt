use Rattle.std.proofs.Common.{◌≡◌, ◌++◌, take}
use Rattle.bus_recording.proofs.scale.join.Given as goal

-- the bytes so far are joined
abbrev pub invariant-loop-byte : goal.invariant-loop-byte
invariant-loop-byte l = l.text.items ≡ l.initial.text.items ++ take l.byte-index l.more
