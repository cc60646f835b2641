use Rattle.std.proofs.Common.{◌≡◌, ◌+◌, vec_len}
use Rattle.worked_rows.proofs.is_as_written.Given as goal

-- each turn makes one
abbrev pub invariant-recorders : goal.invariant-recorders
invariant-recorders l = vec_len l.subsystems ≡ l.counter

abbrev pub invariant-tallies : goal.invariant-tallies
invariant-tallies l = vec_len l.subsystems ≡ 31 + l.counter
