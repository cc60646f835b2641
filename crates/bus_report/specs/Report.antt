-- The text of a report: attempts, words, bursts, terminals, end.
use Rattle.std.specs.Prelude.{ℕ, ◌+◌, Bool, true, false, ◌&&◌, ◌==◌, if◌then◌else◌, List, [], ◌∷◌, ◌++◌, flat_map, codes, is_some}
use Rattle.std.specs.List.{list_any}
use Rattle.bus_formats.specs.Logs.{LogData}
use Rattle.bus_formats.specs.Plans.{StationData, PlanData}
use Rattle.bus_formats.specs.declared.log.Attempt.{Attempt}
use Rattle.bus_formats.specs.declared.log.BlockEnd.{BlockEnd}
use Rattle.bus_formats.specs.declared.log.HeardBurst.{HeardBurst}
use Rattle.bus_formats.specs.declared.log.TerminalEnd.{TerminalEnd}
use Rattle.bus_text.specs.Texts.{spaced, number, word, words, line, channel_text, outcome_text, commands_text, status_text, words_text, word_line}

-- ---- attempts

abbrev pub attempt_line : ℕ → Attempt → List ℕ
attempt_line n a = line (codes "attempt" ++ number n ++ codes " station" ++ number a.station ++ codes " frame" ++ number a.frame
    ++ codes " item" ++ number a.item ++ codes " try" ++ number a.turn ++ channel_text a.channel ++ number a.start.0
    ++ commands_text a.kind ++ outcome_text a.outcome
    ++ status_text a.first ++ status_text a.second ++ words_text a.words)

-- attempts, the first of which has this number
abbrev pub attempt_lines : ℕ → List Attempt → List ℕ
attempt_lines n [] = []
attempt_lines n (a ∷ attempts) = attempt_line n a ++ attempt_lines (n + 1) attempts

-- ---- bursts

abbrev pub burst_line : HeardBurst → List ℕ
burst_line b = line (codes "burst" ++ number b.start.0 ++ channel_text b.channel ++ number b.ticks ++ number b.valid)

-- ---- terminals

abbrev pub off_text : Bool → Bool → List ℕ
off_text false false = codes "-"
off_text true false = codes "A"
off_text false true = codes "B"
off_text true true = codes "AB"

abbrev pub terminal_line : TerminalEnd → List ℕ
terminal_line t = line (codes "terminal" ++ number t.address ++ codes " status" ++ word t.status
    ++ codes " last" ++ word t.registers.last ++ codes " off" ++ spaced (off_text t.registers.off_a t.registers.off_b))

abbrev pub block_line : BlockEnd → List ℕ
block_line b = line (codes "block" ++ number b.address ++ number b.sub ++ words b.words)

-- the line of a block, where it is one of this terminal's
abbrev pub block_of : ℕ → BlockEnd → List ℕ
block_of address b = if b.address == address then block_line b else []

-- whether it is the station with this address and names a subsystem
abbrev pub names_subsystem : ℕ → StationData → Bool
names_subsystem address s = (s.terminal.address == address) && is_some s.terminal.subsystem

-- whether the station with this address names a subsystem
abbrev pub has_subsystem : PlanData → ℕ → Bool
has_subsystem plan address = list_any (names_subsystem address) plan.stations

abbrev pub subsystem_line : ℕ → List ℕ → List ℕ
subsystem_line address text = line (codes "subsystem" ++ number address ++ spaced text)

-- a terminal and its blocks
abbrev pub terminal_text : List BlockEnd → TerminalEnd → List ℕ
terminal_text blocks t = terminal_line t ++ flat_map (block_of t.address) blocks

-- the line of a terminal's subsystem, if it names one; the texts are those of the subsystems of this terminal and of those after it, in order
abbrev pub said_by : PlanData → ℕ → List (List ℕ) → List ℕ
said_by plan address [] = []
said_by plan address (text ∷ texts) = if has_subsystem plan address then subsystem_line address text else []

-- the texts that are left for the terminals after it
abbrev pub said_later : PlanData → ℕ → List (List ℕ) → List (List ℕ)
said_later plan address [] = []
said_later plan address (text ∷ texts) = if has_subsystem plan address then texts else text ∷ texts

-- terminals and their blocks, after each what its subsystem says
abbrev pub terminal_lines : List BlockEnd → PlanData → List TerminalEnd → List (List ℕ) → List ℕ
terminal_lines blocks plan [] texts = []
terminal_lines blocks plan (t ∷ ts) texts =
    (terminal_text blocks t ++ said_by plan t.address texts) ++ terminal_lines blocks plan ts (said_later plan t.address texts)

-- ---- the report

-- the ticks of the run, and in how many of them two stations or more drove one channel
abbrev pub end_text : ℕ → ℕ → List ℕ
end_text ticks clashes = line (codes "end" ++ number ticks ++ codes " clashes" ++ number clashes)

abbrev pub end_line : LogData → List ℕ
end_line log = end_text log.end.0 log.clashes

-- the report of a log; the texts are what the subsystems that the plan names say, in order of address
unfoldable pub report_text : LogData → PlanData → List (List ℕ) → List ℕ
report_text log plan texts =
    attempt_lines 1 log.attempts ++ flat_map word_line log.words ++ flat_map burst_line log.bursts
    ++ terminal_lines log.blocks plan log.terminals texts ++ end_line log
