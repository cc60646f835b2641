-- Lists of positions in a word's samples, and the sets that they name.
use Rattle.std.specs.Prelude.{ℕ, suc, ◌+◌, ◌*◌, ◌%◌, Bool, true, not, ◌&&◌, ◌==◌, nat_le, nat_lt, if◌then◌else◌, List, [], ◌∷◌, ◌++◌, length, Some}
use Rattle.std.specs.Bool.{beq}
use Rattle.std.specs.List.{list_all, range_with_len}
use Rattle.toml.specs.Data.{Data, Items, no_items, item}
use Rattle.bus_base.specs.Flips.{pairs_taken}
use Rattle.bus_base.specs.Positions.{takes}
use Rattle.bus_plan.specs.Document.{number_in}
use Rattle.bus_plan.specs.Ranges.{from_to}
use Rattle.bus_plan.specs.declared.ranges.Range.{Range}

-- the positions rise from low to high
abbrev pub rises : ℕ → ℕ → List ℕ → Bool
rises low high [] = true
rises low high (p ∷ ps) = nat_le low p && nat_le p high && rises (suc p) high ps

-- whether a list of positions may stand: one to so many of them, each in the range and greater than the one before
abbrev pub may_stand : Range → ℕ → List ℕ → Bool
may_stand range most ps = nat_le 1 (length ps) && nat_le (length ps) most && rises range.low range.high ps

-- whether a set takes all or none of the samples 0 to 5
abbrev pub takes_sync_wholly : List Bool → Bool
takes_sync_wholly set = list_all (λ p. beq (takes set p) (takes set 0)) (range_with_len 0 6)

-- whether a set takes each pair of samples after the sync wholly or not at all
abbrev pub takes_pairs_wholly : List Bool → Bool
takes_pairs_wholly set = list_all (λ i. beq (takes set (7 + 2 * i)) (takes set (6 + 2 * i))) (range_with_len 0 17)

-- whether the flips of a set can't be detected: the word that they make is a word again
unfoldable pub is_undetectable : List Bool → Bool
is_undetectable set = takes_sync_wholly set && takes_pairs_wholly set && (pairs_taken set 17 % 2 == 0)

-- a list with one more member, where it has fewer than so many
abbrev pub pushed : {T : Type 0} → ℕ → List T → T → List T
pushed most xs x = if nat_lt (length xs) most then xs ++ x ∷ [] else xs

-- a number of a list as a position, where 255 stands for one that is none
abbrev pub byte_range : Range
byte_range = from_to 0 255

abbrev pub position_of : Data → ℕ
position_of d = number_in byte_range 255 (Some d)

-- the positions of a list, of which the first 41 tell enough: no more than 40 can stand
abbrev pub positions_from : List ℕ → Items → List ℕ
positions_from ps no_items = ps
positions_from ps (item d ds) = positions_from (pushed 41 ps (position_of d)) ds

abbrev pub positions_of : Items → List ℕ
positions_of ds = positions_from [] ds
