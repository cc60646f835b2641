-- A row of samples that a channel shows: the burst that it is.
use Rattle.std.specs.Prelude.{◌≡◌, ℕ, suc, ◌≤◌, false, List, ◌++◌, Some}
use Rattle.bus_base.specs.declared.samples.Sample.{Sample}
use Rattle.bus_base.specs.declared.samples.Sample.TheVariants.{Quiet}
use Rattle.bus_line.specs.Past.{Burst, InLeg, runs, ended_now}
use Rattle.bus_law_line.specs.Shown.{first_samples}

-- after what a channel showed a row of samples is one burst, whose end is known with the sample after so many
pub record RowEnds (k : ℕ) (row : ℕ → Sample) (known : ℕ) (burst : Burst) (past : List Sample) : Type 0 where
  pub before : runs k past ≡ false
  pub leg : InLeg k (first_samples row known)
  pub ended : ended_now k (first_samples row (suc known) ++ past) ≡ Some burst
  -- from then on it is quiet, and no burst runs
  pub quiet : (i : ℕ) → known ≤ i → row i ≡ Quiet
  pub rests : (n : ℕ) → suc known ≤ n → runs k (first_samples row n ++ past) ≡ false
