use Rattle.std.proofs.Common.{◌≡◌, drop}
use Rattle.bus_decimal.specs.Decimal.{are_digits}
use Rattle.bus_decimal.proofs.are_digits.Given as goal

-- the bytes before the index are digits
abbrev pub invariant-loop-byte : goal.invariant-loop-byte
invariant-loop-byte l = are_digits (drop l.byte-index l.text) ≡ are_digits l.text
