use Rattle.std.proofs.Common.{◌≡◌, ◌≤◌, take}
use Rattle.bus_survey.specs.Lines.{items_ended}
use Rattle.bus_survey.proofs.lines.items_ended.Given as goal

-- those before the index are counted
abbrev pub invariant-loop-attempt : goal.invariant-loop-attempt
invariant-loop-attempt l = record {
  counts : l.count ≡ items_ended (take l.attempt-index l.attempts) l.name;
  few : l.count ≤ l.attempt-index;
}
