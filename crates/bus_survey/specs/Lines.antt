-- The text of a survey: for each fault a line that says how many items ended in which outcome, and then how many faults there are (the
-- project's own).
use Rattle.std.specs.Prelude.{ℕ, ◌+◌, ◌&&◌, List, [], ◌∷◌, ◌++◌, length, count_by, codes, bytes_eq}
use Rattle.bus_formats.specs.Logs.{LogData}
use Rattle.bus_formats.specs.declared.form.Outcome.{Outcome}
use Rattle.bus_formats.specs.declared.form.Outcome.TheVariants.{Clear, Sent, Declined, Passed, Illegal, Busy, NoResponse, BadReply, Abandoned, Yielded}
use Rattle.bus_formats.specs.declared.log.Attempt.{Attempt}
use Rattle.bus_text.specs.Texts.{line, number, spaced}

-- ---- how items ended

-- the name of an outcome, whatever the part of the message
abbrev pub outcome_name : Outcome → List ℕ
outcome_name Clear = codes "clear"
outcome_name Sent = codes "sent"
outcome_name Declined = codes "declined"
outcome_name Passed = codes "passed"
outcome_name (Illegal part) = codes "illegal"
outcome_name (Busy part) = codes "busy"
outcome_name (NoResponse part) = codes "no-response"
outcome_name (BadReply part) = codes "bad-reply"
outcome_name Abandoned = codes "abandoned"
outcome_name Yielded = codes "yielded"

-- how many items ended in the outcome of this name: of the attempts of a run, those that no retry follows
abbrev pub items_ended : List Attempt → List ℕ → ℕ
items_ended attempts name = count_by (λ a. a.finishes && bytes_eq (outcome_name a.outcome) name) attempts

-- ---- lines

-- the name of an outcome, and how many items ended in it
abbrev pub count_text : List Attempt → List ℕ → List ℕ
count_text attempts name = spaced name ++ number (items_ended attempts name)

-- the line of the n-th fault, with the attempts of the run in which it struck alone
abbrev pub fault_line : ℕ → List Attempt → List ℕ
fault_line n attempts = line (codes "fault" ++ number n ++ count_text attempts (codes "clear") ++ count_text attempts (codes "sent")
    ++ count_text attempts (codes "declined") ++ count_text attempts (codes "passed") ++ count_text attempts (codes "illegal")
    ++ count_text attempts (codes "busy") ++ count_text attempts (codes "no-response") ++ count_text attempts (codes "bad-reply")
    ++ count_text attempts (codes "abandoned") ++ count_text attempts (codes "yielded"))

-- the lines of faults, the first of which has this number, with the logs of their runs
abbrev pub fault_lines : ℕ → List LogData → List ℕ
fault_lines n [] = []
fault_lines n (log ∷ logs) = fault_line n log.attempts ++ fault_lines (n + 1) logs

abbrev pub surveyed_line : ℕ → List ℕ
surveyed_line faults = line (codes "surveyed" ++ number faults)

-- the text of a survey, with the log of the run of each fault
unfoldable pub survey_text : List LogData → List ℕ
survey_text logs = fault_lines 1 logs ++ surveyed_line (length logs)
