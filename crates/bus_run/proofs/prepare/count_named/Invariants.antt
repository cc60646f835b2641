use Rattle.std.proofs.Common.{◌≡◌, ◌≤◌, take}
use Rattle.std.specs.Prelude.{count_by, is_some}
use Rattle.bus_run.proofs.prepare.count_named.Given as goal

-- those before the index are counted
abbrev pub invariant-loop-subsystem : goal.invariant-loop-subsystem
invariant-loop-subsystem l = record {
  counts : l.count ≡ count_by is_some (take l.subsystem-index l.named);
  few : l.count ≤ l.subsystem-index;
}
