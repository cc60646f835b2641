use Rattle.std.proofs.Common.{◌≡◌, ◌≤◌, drop, true}
use Rattle.bus_decimal.specs.Decimal.{are_digits, value_after, value_of}
use Rattle.bus_decimal.proofs.value_up_to.Given as goal

-- the value of the digits before the index, which isn't above the greatest one
abbrev pub invariant-loop-digit : goal.invariant-loop-digit
invariant-loop-digit l = record {
  rest : are_digits (drop l.digit-index l.digits) ≡ true;
  value : value_after l.value (drop l.digit-index l.digits) ≡ value_of l.digits;
  within : l.value ≤ l.most;
}
