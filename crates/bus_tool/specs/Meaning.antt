-- What the words of the command line mean.
use Rattle.std.specs.Prelude.{ℕ, ◌^◌, ◌<◌, ◌≤◌, ◌==◌, List, [], ◌∷◌, codes, bytes_eq, Option, Some, None, if◌then◌else◌, ⊤}
use Rattle.bus_decimal.specs.Decimal.{number_up_to}
use Rattle.bus_tool.specs.declared.words.Command.{Command}
use Rattle.bus_tool.specs.declared.words.Command.TheVariants.{Run, Capture, Survey, Load, Decode, Messages, Judge, Bridge, Bench}

-- the command of one word
abbrev pub command_named : List ℕ → Option Command
command_named word =
    if bytes_eq word (codes "run") then Some Run
    else if bytes_eq word (codes "capture") then Some Capture
    else if bytes_eq word (codes "survey") then Some Survey
    else if bytes_eq word (codes "load") then Some Load
    else if bytes_eq word (codes "decode") then Some Decode
    else if bytes_eq word (codes "messages") then Some Messages
    else if bytes_eq word (codes "judge") then Some Judge
    else if bytes_eq word (codes "bridge") then Some Bridge
    else None

-- a benchmark wants a number of 31 bits, and at least one message
abbrev pub bench_with : Option ℕ → Option ℕ → Option Command
bench_with (Some number) (Some items) = if items == 0 then None else Some (Bench number items)
bench_with _ _ = None

-- the benchmark of a word and two numbers
abbrev pub bench_named : List ℕ → List ℕ → List ℕ → Option Command
bench_named word number items =
    if bytes_eq word (codes "bench") then bench_with (number_up_to 2147483647 number) (number_up_to 4096 items) else None

-- the command that the words mean, if any
abbrev pub meaning : List (List ℕ) → Option Command
meaning (word ∷ []) = command_named word
meaning (word ∷ number ∷ items ∷ []) = bench_named word number items
meaning _ = None

-- the numbers of a benchmark are within their ranges
abbrev pub IsInRange : Option Command → Type 0
IsInRange (Some (Bench number items)) = (number < 2 ^ 31) × (items ≤ 4096)
IsInRange _ = ⊤
