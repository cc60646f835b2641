use Rattle.std.proofs.Common.{◌≡◌, ◌≤◌, drop}
use Rattle.std.specs.Prelude.{max}
use Rattle.bus_load.specs.Silence.{longest_gap_in}
use Rattle.bus_load.proofs.silences.longest_gap_in.Given as goal

abbrev pub invariant-loop-frame : goal.invariant-loop-frame
invariant-loop-frame l = (max l.longest (longest_gap_in (drop l.frame-index l.frames)) ≡ longest_gap_in l.frames) × (l.longest ≤ 65535)
