-- What is printed of a run in which a second controller took over (the project's own).
use Rattle.std.specs.Prelude.{ℕ, List, ◌++◌, codes, Option, Some, None}
use Rattle.bus_base.specs.declared.samples.Tick.{Tick}
use Rattle.bus_report.specs.Report.{attempt_lines, end_text}
use Rattle.bus_standby.specs.Logs.{StandbyLogData}
use Rattle.bus_text.specs.Texts.{line, number}

-- when the primary stopped, or that it never did
abbrev pub stop_line : Option Tick → List ℕ
stop_line None = line (codes "stop -")
stop_line (Some tick) = line (codes "stop" ++ number tick.0)

abbrev pub take_line : Tick → List ℕ
take_line tick = line (codes "take" ++ number tick.0)

-- when what happened, after the attempts
abbrev pub ends_text : Option Tick → Tick → ℕ → ℕ → List ℕ
ends_text stop taken end clashes = stop_line stop ++ (take_line taken ++ end_text end clashes)

abbrev pub standby_text : StandbyLogData → List ℕ
standby_text log = attempt_lines 1 log.attempts ++ ends_text log.stop log.taken log.end.0 log.clashes
