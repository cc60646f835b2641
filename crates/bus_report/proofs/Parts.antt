-- The parts of a report, over what a log holds.
use Rattle.std.proofs.Common.{◌≡◌, ℕ, List, ◌++◌, append_assoc}
use Rattle.std.specs.Prelude.{flat_map}
use Rattle.bus_formats.specs.Logs.{LogData}
use Rattle.bus_formats.specs.Plans.{PlanData}
use Rattle.bus_formats.specs.declared.log.Attempt.{Attempt}
use Rattle.bus_formats.specs.declared.log.BlockEnd.{BlockEnd}
use Rattle.bus_formats.specs.declared.log.Heard.{Heard}
use Rattle.bus_formats.specs.declared.log.HeardBurst.{HeardBurst}
use Rattle.bus_formats.specs.declared.log.TerminalEnd.{TerminalEnd}
use Rattle.bus_text.specs.Texts.{word_line}
use Rattle.bus_report.specs.Report.{attempt_lines, burst_line, terminal_lines, end_text, report_text}

regroup : (a b c d e : List ℕ) → a ++ (b ++ (c ++ (d ++ e))) ≡ (((a ++ b) ++ c) ++ d) ++ e
regroup a b c d e = simp append_assoc

-- the text by what was read of the log
pub parts : (log : LogData) (plan : PlanData) (texts : List (List ℕ)) (attempts : List Attempt) (words : List Heard) (bursts : List HeardBurst)
    (blocks : List BlockEnd) (terminals : List TerminalEnd) →
    attempts ≡ log.attempts → words ≡ log.words → bursts ≡ log.bursts → blocks ≡ log.blocks → terminals ≡ log.terminals →
    attempt_lines 1 attempts ++ (flat_map word_line words ++ (flat_map burst_line bursts
    ++ (terminal_lines blocks plan terminals texts ++ end_text log.end.0 log.clashes))) ≡ report_text log plan texts
unfolding report_text
parts log plan texts attempts words bursts blocks terminals a w u b t = rw (a, w, u, b, t)
    (regroup (attempt_lines 1 log.attempts) (flat_map word_line log.words) (flat_map burst_line log.bursts)
    (terminal_lines log.blocks plan log.terminals texts) (end_text log.end.0 log.clashes))
