-- Values that grow tenfold.
use Rattle.std.proofs.Common.{◌≡◌, ℕ, zero, suc, ◌*◌, ◌<◌, ◌≤◌, None, arith}
use Rattle.std.proofs.lemmas.Bool.Decides.{nat_tests}
use Rattle.bus_recording.specs.Numbers.{greatest, tenfold, up_to_greatest}

-- a value that grows tenfold, so often, is never less
grows : (times value : ℕ) → value ≤ tenfold times value
grows zero value = omega arith
grows (suc n) value = omega (arith, grows n (10 * value))

-- one that is past the greatest stays past it
past_by : (value grown : ℕ) → greatest < value → value ≤ grown → up_to_greatest grown ≡ None
past_by value grown over more = grind (arith, nat_tests)

pub past : (times value : ℕ) → greatest < value → up_to_greatest (tenfold times value) ≡ None
past times value over = past_by value (tenfold times value) over (grows times value)
