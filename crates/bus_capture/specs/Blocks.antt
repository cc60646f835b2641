-- Ticks as bits.
use Rattle.std.specs.Prelude.{◌≤◌, ℕ, Bool, ◌==◌, if◌then◌else◌, List, length, map, reverse, take}
use Rattle.std.specs.List.{range_with_len}
use Rattle.std.specs.Int.{bit_at}
use Rattle.bus_base.specs.declared.samples.Sample.{Sample}
use Rattle.bus_base.specs.declared.samples.Sample.TheVariants.{Plus, Minus, Quiet}
use Rattle.bus_base.specs.declared.samples.Pair.{Pair}
use Rattle.bus_capture.specs.Quiet.{ReadsTicks}
use Rattle.bus_capture.specs.declared.block.Block.{Block}
use Rattle.bus_capture.specs.declared.block.BlockRun.{BlockRun}

abbrev pub has_bit : ℕ → ℕ → Bool
has_bit n i = bit_at n i == 1

-- the sample that bit i of two numbers tells
abbrev pub sample_in : ℕ → ℕ → ℕ → Sample
sample_in heard plus i = if has_bit heard i then (if has_bit plus i then Plus else Minus) else Quiet

abbrev pub tick_in : Block → ℕ → Pair
tick_in block i = record { a = sample_in block.heard_a block.plus_a i; b = sample_in block.heard_b block.plus_b i }

-- the ticks of a block, the first first
unfoldable pub ticks_of : Block → List Pair
ticks_of block = map (tick_in block) (range_with_len 0 block.ticks)

abbrev pub no_ticks : Block
no_ticks = record { heard_a = 0; plus_a = 0; heard_b = 0; plus_b = 0; ticks = 0 }

-- a front of a piece that is the ticks of a block, and line feeds
pub record IsBlockFront (piece : List ℕ) (run : BlockRun) : Type 0 where
  pub within : run.bytes ≤ length piece
  pub few : run.block.ticks ≤ 64
  pub reads : ReadsTicks (take run.bytes piece) (reverse (ticks_of run.block))
