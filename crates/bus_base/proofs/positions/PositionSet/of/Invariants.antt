use Rattle.std.proofs.Common.{◌≡◌, ℕ, ◌<◌, get_or, length, false}
use Rattle.bus_base.specs.Positions.{names}
use Rattle.bus_base.proofs.positions.PositionSet.of.Given as goal

-- the flags so far are those of the list
abbrev pub invariant-loop-place : goal.invariant-loop-place
invariant-loop-place l = record {
  forty : length l.flags ≡ 40;
  done : (p : ℕ) → p < l.place → get_or l.flags p false ≡ names l.positions p;
}
