-- The plan that a document describes. A value that a rule refuses is read as some value of its range.
use Rattle.std.specs.Prelude.{ℕ, ◌^◌, Bool, if◌then◌else◌, List, [], ◌∷◌, ◌++◌, codes, Option, Some, None, bit_or}
use Rattle.toml.specs.Data.{Data, table, Items, no_items, item, Members, get_member}
use Rattle.bus_base.specs.declared.samples.Channel.{Channel}
use Rattle.bus_base.specs.declared.samples.Channel.TheVariants.{A, B}
use Rattle.bus_plan.specs.Document.{number_or, number_in, flag_of, list_of}
use Rattle.bus_plan.specs.Positions.{pushed}
use Rattle.bus_plan.specs.Ranges.{word_range}
use Rattle.bus_plan.specs.Rows.{has_text}
use Rattle.bus_plan.specs.Rules.{refusable}
use Rattle.bus_plan.specs.declared.ranges.Range.{Range}
use Rattle.bus_plan.specs.declared.rows.Refusable.{Refusable}
use Rattle.bus_plan.specs.declared.rows.Refusable.TheVariants.{Subaddresses, ModeCodes}

-- the value at a key, read as a number of the range, a flag, a list
abbrev pub number_at : Range → ℕ → List ℕ → Members → ℕ
number_at range other key ms = number_in range other (get_member key ms)

abbrev pub flag_at : List ℕ → Members → Bool
flag_at key ms = flag_of (get_member key ms)

abbrev pub list_at : List ℕ → Members → Option Items
list_at key ms = list_of (get_member key ms)

-- what is read from a value, where it is a table
abbrev pub of_table : {T : Type 0} → (Members → T) → Data → List T
of_table f (table ms) = f ms ∷ []
of_table f _ = []

-- what is read from the tables of an array
abbrev pub tables : {T : Type 0} → (Members → T) → Items → List T
tables f no_items = []
tables f (item d ds) = of_table f d ++ tables f ds

abbrev pub tables_of : {T : Type 0} → (Members → T) → Option Items → List T
tables_of f None = []
tables_of f (Some ds) = tables f ds

abbrev pub tables_at : {T : Type 0} → (Members → T) → List ℕ → Members → List T
tables_at f key ms = tables_of f (list_at key ms)

-- a list of data words, of which 32 fit; where there is none, one word of 0
abbrev pub words_from : List ℕ → Items → List ℕ
words_from words no_items = words
words_from words (item d ds) = words_from (pushed 32 words (number_in word_range 0 (Some d))) ds

abbrev pub words_of : Option Items → List ℕ
words_of None = []
words_of (Some ds) = words_from [] ds

abbrev pub filled : List ℕ → List ℕ
filled [] = 0 ∷ []
filled (w ∷ ws) = w ∷ ws

abbrev pub words_at : List ℕ → Members → List ℕ
words_at key ms = filled (words_of (list_at key ms))

-- what a terminal refuses, as one bit for each number
abbrev pub least_of : Refusable → ℕ
least_of Subaddresses = 1
least_of ModeCodes = 0

abbrev pub refusal_of : Refusable → Data → ℕ
refusal_of which d = number_or (least_of which) (refusable which d)

abbrev pub bits_from : Refusable → ℕ → Items → ℕ
bits_from which bits no_items = bits
bits_from which bits (item d ds) = bits_from which (bit_or bits (2 ^ refusal_of which d)) ds

abbrev pub bits_of : Refusable → Option Items → ℕ
bits_of which None = 0
bits_of which (Some ds) = bits_from which 0 ds

abbrev pub bits_at : Refusable → List ℕ → Members → ℕ
bits_at which key ms = bits_of which (list_at key ms)

abbrev pub channel_of : Members → Option Channel
channel_of ms =
    if has_text (codes "channel") (codes "A") ms then Some A
    else if has_text (codes "channel") (codes "B") ms then Some B
    else None

abbrev pub channel_or_a : Option Channel → Channel
channel_or_a (Some c) = c
channel_or_a None = A
