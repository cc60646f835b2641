use Rattle.std.proofs.Common.{◌≡◌, ◌≤◌, drop, take}
use Rattle.std.specs.BTreeSet as tree
use Rattle.std.specs.Ordering.{nat_cmp}
use Rattle.bus_formats.specs.declared.fault.Fault.{Fault}
use Rattle.bus_plan.specs.FaultRules.{same_fault, has_same, word_code, word_of, strike_code}
use Rattle.bus_plan.proofs.fault_rules.same_fault.Given as goal

-- the set has the numbers of the faults so far, of which none strikes the same as an earlier one
abbrev pub invariant-loop-i : goal.invariant-loop-i
invariant-loop-i l =
    (same_fault l.faults l.i (drop l.i l.faults) ≡ same_fault l.faults 0 l.faults)
    × ((f : Fault) → word_code (word_of f.hit) ≤ 256 → tree.contains nat_cmp l.struck (strike_code f) ≡ has_same f (take l.i l.faults))
