use Rattle.std.proofs.Common.{ℕ, ◌<◌, get_or}
use Rattle.bus_base.specs.Positions.{IsBetween}
use Rattle.bus_base.proofs.positions.first_outside.Given as goal

-- each position so far lies between
abbrev pub invariant-loop-place : goal.invariant-loop-place
invariant-loop-place l = (i : ℕ) → i < l.place → IsBetween l.lowest l.highest (get_or l.positions i 0)
