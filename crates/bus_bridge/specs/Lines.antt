-- What is printed of two buses that one device joins (the project's own).
use Rattle.std.specs.Prelude.{ℕ, List, ◌++◌, codes, flat_map}
use Rattle.bus_formats.specs.declared.log.Delivery.{Delivery}
use Rattle.bus_report.specs.Report.{attempt_lines}
use Rattle.bus_text.specs.Texts.{line, number, words}
use Rattle.bus_bridge.specs.Logs.{BridgeLogData}

-- a block that the first terminal took: the tick, the subaddress, the words
abbrev pub taken_line : Delivery → List ℕ
taken_line d = line (codes "taken" ++ number d.tick.0 ++ number d.sub ++ words d.words)

-- the ticks of both buses, and in how many ticks several stations drove one channel
abbrev pub ends_line : ℕ → ℕ → ℕ → List ℕ
ends_line first second clashes = line (codes "end" ++ number first ++ number second ++ codes " clashes" ++ number clashes)

-- the blocks that were taken, the attempts of the second bus, and the end
abbrev pub bridge_text : BridgeLogData → List ℕ
bridge_text log = flat_map taken_line log.taken ++ (attempt_lines 1 log.attempts ++ ends_line log.first_end.0 log.second_end.0 log.clashes)
