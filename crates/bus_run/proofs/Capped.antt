-- Amounts that are counted up to a limit.
use Rattle.std.proofs.Common.{◌≡◌, ℕ, ◌+◌, ◌*◌, min, zero, suc, arith}

-- an amount counted to the limit serves a sum that is counted to the limit
pub capped : (limit a t m : ℕ) → min limit (min limit a + t * min limit m) ≡ min limit (a + t * m)
capped limit a zero m = omega arith
capped limit a (suc t) m = grind arith
