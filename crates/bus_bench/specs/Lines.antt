-- The text of a benchmark, one line (the project's own).
use Rattle.std.specs.Prelude.{ℕ, ◌%◌, ◌^◌, List, ◌++◌, length, count_by, sum_by, codes}
use Rattle.bus_formats.specs.Logs.{LogData}
use Rattle.bus_formats.specs.declared.log.Heard.{Heard}
use Rattle.bus_retry.specs.Retries.{is_clear}
use Rattle.bus_text.specs.Texts.{line, number, spaced}

-- a name, and how many there are of it
abbrev pub count_text : List ℕ → ℕ → List ℕ
count_text name count = spaced name ++ number count

-- the sum of the bits of all words that were heard, in 32 bits
abbrev pub sum_of : List Heard → ℕ
sum_of words = sum_by (λ heard. heard.word.bits) words % 2 ^ 32

-- with so many messages in the plan, and the log of its run
unfoldable pub bench_line : ℕ → LogData → List ℕ
bench_line items log = line (codes "bench" ++ count_text (codes "items") items ++ count_text (codes "attempts") (length log.attempts)
    ++ count_text (codes "clear") (count_by (λ a. is_clear a.outcome) log.attempts) ++ count_text (codes "ticks") log.end.0
    ++ count_text (codes "sum") (sum_of log.words))
