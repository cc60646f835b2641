-- For which pasts a cutter over bits stands. Nothing here has to be believed: a new cutter stands for quiet ticks, each sample keeps it, and
-- what `hear` answers is right for every past for which it stood.
use Rattle.std.specs.Prelude.{◌≡◌, ℕ, suc, ◌+◌, ◌*◌, ◌<◌, ◌≤◌, nat_le, if◌then◌else◌, List, length}
use Rattle.bus_base.specs.declared.samples.Sample.{Sample}
use Rattle.bus_line.specs.Cutting.{newest_samples}
use Rattle.bus_line.specs.Past.{quiet, runs, first_tick}
use Rattle.bus_line.specs.Spelling.{is_plus}
use Rattle.bus_planes.specs.Bits.{heard_bits, plus_bits}
use Rattle.bus_planes.specs.declared.cutter.BitCutter.{BitCutter}

-- the cutter's ticks are those of the burst that runs, where one runs
pub record Follows (k : ℕ) (cutter : BitCutter) (past : List Sample) : Type 0 where
  pub short : cutter.rest < 40
  pub runs : nat_le cutter.quiet k ≡ runs k past
  pub within : cutter.quiet ≤ suc k
  pub quiet : cutter.quiet ≤ k → cutter.quiet ≡ quiet past
  pub here : cutter.quiet ≤ k → first_tick k past + (40 * cutter.slots + cutter.rest) + cutter.quiet ≡ length past
  pub heard : cutter.quiet ≤ k → cutter.heard ≡ heard_bits (newest_samples (cutter.rest + cutter.quiet) past)
  pub plus : cutter.quiet ≤ k → cutter.plus ≡ plus_bits (newest_samples (cutter.rest + cutter.quiet) past)

-- the cutter after the first sample of a burst
abbrev pub begun : Sample → BitCutter
begun x = record { heard = 1; plus = if is_plus x then 1 else 0; slots = 0; rest = 1; quiet = 0 }

-- the cutter stands for the past: this is how it may be after hearing it
unfoldable pub BitCutterStands : ℕ → BitCutter → List Sample → Type 0
BitCutterStands k cutter past = Follows k cutter past
