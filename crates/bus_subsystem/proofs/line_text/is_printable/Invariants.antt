use Rattle.std.proofs.Common.{◌≡◌, true, take}
use Rattle.std.specs.List.{list_all}
use Rattle.bus_subsystem.specs.Printable.{is_printable_byte}
use Rattle.bus_subsystem.proofs.line_text.is_printable.Given as goal

-- the bytes so far are printable
abbrev pub invariant-loop-byte : goal.invariant-loop-byte
invariant-loop-byte l = list_all is_printable_byte (take l.byte-index l.bytes) ≡ true
