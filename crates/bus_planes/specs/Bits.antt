-- Samples as bits, the first sample's the lowest. Nothing here has to be believed: it ties numbers to the samples that `bus_line` speaks of.
use Rattle.std.specs.Prelude.{◌≡◌, ℕ, suc, ◌+◌, ◌*◌, ◌<◌, Bool, not, List, map, length}
use Rattle.std.specs.List.{range_with_len}
use Rattle.std.specs.Simd.Lanes.{mask_l}
use Rattle.bus_base.specs.Samples.{is_quiet}
use Rattle.bus_base.specs.declared.samples.Sample.{Sample}
use Rattle.bus_line.specs.Spelling.{is_plus, is_one, first_half}

-- those that weren't quiet
abbrev pub is_heard : Sample → Bool
is_heard x = not (is_quiet x)

abbrev pub heard_bits : List Sample → ℕ
heard_bits samples = mask_l (map is_heard samples)

-- those that were plus
abbrev pub plus_bits : List Sample → ℕ
plus_bits samples = mask_l (map is_plus samples)

-- forty samples as bits
pub record AreBits (h p : ℕ) (samples : List Sample) : Type 0 where
  pub forty : length samples ≡ 40
  pub heard : h ≡ heard_bits samples
  pub plus : p ≡ plus_bits samples

-- the forty samples of which these are plus, and the others minus
unfoldable pub shown : ℕ → List Sample
shown plus = map (λ p. first_half (is_one plus p)) (range_with_len 0 40)

-- the seventeen pairs after the sync each change their sign in the middle
abbrev pub ArePairs : ℕ → Type 0
ArePairs plus = (i : ℕ) → i < 17 → is_one plus (suc (6 + 2 * i)) ≡ not (is_one plus (6 + 2 * i))
