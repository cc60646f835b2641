-- Many ticks at once, shown by bits: those in which nothing is told.
use Rattle.std.specs.Prelude.{◌≡◌, ℕ, ◌+◌, ◌-◌, ◌<◌, ◌≤◌, ◌⊎◌, Bool, true, false, nat_lt, if◌then◌else◌, List, [], ◌∷◌, ◌++◌, map}
use Rattle.std.specs.List.{range_with_len}
use Rattle.bus_base.specs.declared.samples.Sample.{Sample}
use Rattle.bus_base.specs.declared.samples.Sample.TheVariants.{Quiet}
use Rattle.bus_line.specs.declared.cutter.Cut.TheVariants as cuts
use Rattle.bus_planes.specs.declared.cutter.BitCutter.{BitCutter}
use Rattle.bus_line.specs.Spelling.{is_one, first_half}
use Rattle.bus_line.specs.Past.{runs}
use Rattle.bus_line.specs.Cutting.{cut_now}

-- whether the cutter waits for a burst
abbrev pub rests : ℕ → BitCutter → Bool
rests k cutter = nat_lt k cutter.quiet

-- the sample that bit i of two numbers shows: whether it wasn't quiet, and whether it was plus
abbrev pub sample_in : ℕ → ℕ → ℕ → Sample
sample_in heard plus i = if is_one heard i then first_half (is_one plus i) else Quiet

-- the samples of the first n bits, in their order
unfoldable pub samples_in : ℕ → ℕ → ℕ → List Sample
samples_in heard plus n = map (sample_in heard plus) (range_with_len 0 n)

-- the first n bits are all the same
abbrev pub AllBits : ℕ → ℕ → Bool → Type 0
AllBits bits n b = (i : ℕ) → i < n → is_one bits i ≡ b

-- n ticks that tell a cutter nothing and begin no burst: quiet ticks where none runs; quiet ticks that a burst bridges; or ticks within a slot
abbrev pub IsStill : ℕ → BitCutter → ℕ → ℕ → Type 0
IsStill k cutter heard n =
    ((k < cutter.quiet) × AllBits heard n false)
    ⊎ (((cutter.quiet + n ≤ k) × AllBits heard n false)
    ⊎ ((cutter.quiet ≡ 0) × (n ≤ 39 - cutter.rest) × AllBits heard n true))

-- in each of these ticks, the newest first, nothing became known, and a burst ran where one had
abbrev pub TellNothing : ℕ → List Sample → List Sample → Type 0
TellNothing k [] past = Unit {0}
TellNothing k (x ∷ xs) past = (cut_now k (x ∷ (xs ++ past)) ≡ cuts.Nothing) × (runs k (x ∷ (xs ++ past)) ≡ runs k past) × TellNothing k xs past
