use Rattle.std.proofs.Common.{◌≡◌, ◌≤◌, ◌+◌, ◌*◌, ◌++◌, length}
use Rattle.std.specs.Prelude.{drop}
use Rattle.bus_wave.specs.Texts.{escaped}
use Rattle.bus_wave.proofs.message_names.add_escaped.Given as goal

abbrev pub invariant-loop-byte : goal.invariant-loop-byte
invariant-loop-byte l =
    (l.text ++ escaped (drop l.byte-index l.bytes) ≡ l.initial.text ++ escaped l.bytes)
    × (length l.text ≤ length l.initial.text + 4 * l.byte-index)
