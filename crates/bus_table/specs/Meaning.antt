-- What the words of the command line mean: a format.
use Rattle.std.specs.Prelude.{ℕ, List, [], ◌∷◌, codes, bytes_eq, Option, Some, None, if◌then◌else◌}
use Rattle.bus_table.specs.declared.format.Format.{Format}
use Rattle.bus_table.specs.declared.format.Format.TheVariants.{Csv, Json}

abbrev pub format_named : List ℕ → Option Format
format_named word =
    if bytes_eq word (codes "csv") then Some Csv
    else if bytes_eq word (codes "json") then Some Json
    else None

abbrev pub meaning : List (List ℕ) → Option Format
meaning (word ∷ []) = format_named word
meaning _ = None
