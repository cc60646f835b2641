use Rattle.std.proofs.Common.{◌≡◌, ℕ, ◌+◌, ◌*◌, ◌<◌}
use Rattle.bus_line.specs.Spelling.{SpellsBit, number_of}
use Rattle.bus_line.proofs.Guessed.{firsts}
use Rattle.bus_line.proofs.spelling.read_bits.Given as goal

-- all pairs so far are bits, and their number is kept
abbrev pub invariant-loop-place : goal.invariant-loop-place
invariant-loop-place l = record {
  number : l.bits ≡ number_of (firsts l.samples) l.place;
  pairs : (i : ℕ) → i < l.place → SpellsBit l.samples (6 + 2 * i) (firsts l.samples i);
}
