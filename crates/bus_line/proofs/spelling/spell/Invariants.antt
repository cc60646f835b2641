use Rattle.std.proofs.Common.{◌≡◌, ℕ, ◌<◌, length, get_or}
use Rattle.bus_base.specs.declared.samples.Sample.TheVariants.{Quiet}
use Rattle.bus_line.specs.Spelling.{spelled}
use Rattle.bus_line.proofs.spelling.spell.Given as goal

-- the samples below the position are those of the word
abbrev pub invariant-loop-position : goal.invariant-loop-position
invariant-loop-position l = record {
  forty : length l.samples ≡ 40;
  done : (p : ℕ) → p < l.position → get_or l.samples p Quiet ≡ spelled l.word p;
}
