use Rattle.std.proofs.Common.{◌≡◌, ℕ, ◌<◌, length, get_or}
use Rattle.bus_base.specs.declared.samples.Sample.TheVariants.{Quiet}
use Rattle.bus_planes.specs.Still.{sample_in}
use Rattle.bus_planes.proofs.cutter.samples_of.Given as goal

-- the samples below the place are those shown
abbrev pub invariant-loop-place : goal.invariant-loop-place
invariant-loop-place l = record {
  forty : length l.samples ≡ 40;
  done : (p : ℕ) → p < l.place → get_or l.samples p Quiet ≡ sample_in l.heard l.plus p;
}
