use Rattle.std.proofs.Common.{inl, inr, arith}
use Rattle.bus_planes.proofs.StillLaws.{zeros-are, ones-are}
use Rattle.bus_planes.proofs.cutter.BitCutter.still.Goals as goal

pub returns-then-not-runs-clause-still : goal.returns-then-not-runs-clause-still
returns-then-not-runs-clause-still c n few = inl (grind (arith, c.runs.ensures, c.if-not-runs.true), zeros-are c.args.heard n (omega arith) few)

pub returns-then-heard-eq0-clause-still : goal.returns-then-heard-eq0-clause-still
returns-then-heard-eq0-clause-still c n few = inr (inl (omega arith, zeros-are c.args.heard n (omega arith) (omega arith)))

pub returns-then-self-eq0-clause-still : goal.returns-then-self-eq0-clause-still
returns-then-self-eq0-clause-still c n few = inr (inr (omega arith, omega arith, ones-are c.args.heard n (omega arith) (omega arith)))
