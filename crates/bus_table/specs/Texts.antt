-- The text of a row, field by field.
use Rattle.std.specs.Prelude.{ℕ, ◌-◌, List, [], ◌++◌, codes, decimal, Option, Some, None}
use Rattle.bus_base.specs.declared.samples.Channel.{Channel}
use Rattle.bus_base.specs.declared.samples.Channel.TheVariants.{A, B}
use Rattle.bus_formats.specs.declared.plan.Kind.{Kind}
use Rattle.bus_text.specs.Texts.{number}
use Rattle.bus_table.specs.Fields.{number_field, name_field, words_field, numbers_field, label, half_value}
use Rattle.bus_table.specs.Rows.{State, is_ended, Row, form_name, address, subaddress, count_of, code_of, source, source_sub, commands_in, outcome_in, answer_in, statuses_in, data_of}
use Rattle.bus_table.specs.declared.flaw.BadWord.{BadWord}
use Rattle.bus_table.specs.declared.flaw.Flaw.{Flaw}
use Rattle.bus_table.specs.declared.flaw.Flaw.TheVariants.{Sync, Bit, Parity, Rest}
use Rattle.bus_table.specs.declared.format.Format.{Format}
use Rattle.bus_table.specs.declared.format.Format.TheVariants.{Csv, Json}

abbrev pub channel_name : Channel → List ℕ
channel_name A = codes "A"
channel_name B = codes "B"

-- the first field, with what opens a row
abbrev pub at_text : Format → ℕ → List ℕ
at_text Csv at = decimal at
at_text Json at = codes "{\"at\":" ++ decimal at

abbrev pub row_end : Format → List ℕ
row_end Csv = codes "\n"
row_end Json = codes "}\n"

-- when and where: the first tick, the same in microseconds, and the channel
abbrev pub moment_text : Format → ℕ → Channel → List ℕ
moment_text f at c =
    at_text f at ++ (label f (codes "us") ++ half_value at) ++ name_field f (codes "channel") (Some (channel_name c))

-- what the message is
abbrev pub known_text : Format → Kind → List ℕ
known_text f kind =
    name_field f (codes "form") (Some (form_name kind)) ++ number_field f (codes "rt") (Some (address kind))
    ++ number_field f (codes "sub") (Some (subaddress kind)) ++ number_field f (codes "count") (count_of kind)
    ++ number_field f (codes "code") (code_of kind) ++ number_field f (codes "from") (source kind)
    ++ number_field f (codes "from_sub") (source_sub kind)

abbrev pub unknown_text : Format → List ℕ
unknown_text f =
    name_field f (codes "form") None ++ number_field f (codes "rt") None
    ++ number_field f (codes "sub") None ++ number_field f (codes "count") None
    ++ number_field f (codes "code") None ++ number_field f (codes "from") None
    ++ number_field f (codes "from_sub") None

abbrev pub kind_text : Format → State → List ℕ
kind_text f (is_ended kind outcome statuses) = known_text f kind
kind_text f _ = unknown_text f

-- how it ended
abbrev pub ending_text : Format → List ℕ → List ℕ → Option ℕ → List ℕ → List ℕ
ending_text f commands name answer statuses =
    words_field f (codes "commands") commands ++ name_field f (codes "outcome") (Some name)
    ++ number_field f (codes "answer") answer ++ words_field f (codes "statuses") statuses

abbrev pub state_text : Format → State → List ℕ
state_text f state = ending_text f (commands_in state) (outcome_in state) (answer_in state) (statuses_in state)

-- how long it took: the responses, the gap before it, as the standard measures both (4.3.3.7, 4.3.3.8), and the ticks of all its bursts with
-- those between them
abbrev pub ticks_of : ℕ → Option ℕ → Option ℕ
ticks_of at None = None
ticks_of at (Some end) = Some (end - at)

abbrev pub times_text : Format → List ℕ → Option ℕ → Option ℕ → List ℕ
times_text f responses gap ticks =
    numbers_field f (codes "responses") responses ++ number_field f (codes "gap") gap ++ number_field f (codes "ticks") ticks

-- its data words
abbrev pub data_in : State → List ℕ → List ℕ
data_in (is_ended kind outcome statuses) answer = data_of kind outcome answer
data_in _ answer = []

abbrev pub data_text : Format → List ℕ → List ℕ
data_text f words = words_field f (codes "data") words

-- its first bad word: why it is bad, and the tick at which it begins
abbrev pub flaw_name : Flaw → List ℕ
flaw_name Sync = codes "sync"
flaw_name (Bit n) = codes "bit" ++ number n
flaw_name Parity = codes "parity"
flaw_name (Rest ticks) = codes "rest" ++ number ticks

abbrev pub bad_text : Format → Option BadWord → List ℕ
bad_text f None = name_field f (codes "bad") None ++ number_field f (codes "bad_at") None
bad_text f (Some bad) = name_field f (codes "bad") (Some (flaw_name bad.flaw)) ++ number_field f (codes "bad_at") (Some bad.at)

abbrev pub row_text : Format → Row → List ℕ
row_text f row =
    (moment_text f row.at row.channel ++ kind_text f row.state ++ state_text f row.state)
    ++ (times_text f row.responses row.gap (ticks_of row.at row.end)
    ++ data_text f (data_in row.state row.answer) ++ (bad_text f row.bad ++ row_end f))

-- ---- before and after the rows

-- CSV has a line of names
abbrev pub names_text : Format → List ℕ
names_text Csv =
    codes "at,us,channel,form,rt,sub,count,code,from,from_sub,commands,outcome,answer,statuses,responses,gap,ticks,data,bad,bad_at\n"
names_text Json = []

-- JSON tells the ticks and the rows at the end
abbrev pub end_text : Format → ℕ → ℕ → List ℕ
end_text Csv ticks rows = []
end_text Json ticks rows = codes "{\"end\":" ++ decimal ticks ++ codes ",\"messages\":" ++ decimal rows ++ codes "}\n"
