-- The lines of the message listing, made of the rows.
use Rattle.std.specs.Prelude.{ℕ, List, [], ◌∷◌, ◌++◌, map, Option, Some, None}
use Rattle.std.specs.List.{join_with_byte}
use Rattle.bus_text.specs.Texts.{number, spaced, hex_word}
use Rattle.bus_monitor.specs.Listings.{message_line, statuses_text}
use Rattle.bus_table.specs.Rows.{Row, commands_in, outcome_in, answer_in, statuses_in}

abbrev pub commands_part : List ℕ → List ℕ
commands_part [] = []
commands_part (command ∷ commands) = spaced (join_with_byte 43 (map hex_word (command ∷ commands)))

abbrev pub answer_part : Option ℕ → List ℕ
answer_part None = []
answer_part (Some n) = number n

-- the line of a row's message: from its columns at, channel, commands, outcome, answer and statuses
abbrev pub line_of : Row → List ℕ
line_of row = message_line row.channel row.at
    (commands_part (commands_in row.state) ++ (spaced (outcome_in row.state) ++ answer_part (answer_in row.state)) ++ statuses_text (statuses_in row.state))
