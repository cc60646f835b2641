use Rattle.std.proofs.Common.{◌≡◌, ◌-◌, ◌++◌, take}
use Rattle.std.specs.Prelude.{replicate}
use Rattle.bus_phase.proofs.row.fill.Given as goal

-- the samples before the place are those before the first, and then the level
abbrev pub invariant-loop-place : goal.invariant-loop-place
invariant-loop-place l = take l.place l.samples ≡ take l.fn.from l.fn.samples ++ replicate (l.place - l.fn.from) l.level
