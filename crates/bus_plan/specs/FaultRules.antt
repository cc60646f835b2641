-- Where a plan breaks the rules on its faults.
use Rattle.std.specs.Prelude.{ℕ, ◌+◌, ◌*◌, ◌==◌, Bool, true, false, ◌&&◌, if◌then◌else◌, List, [], ◌∷◌, take, codes, Option, Some, None}
use Rattle.std.specs.List.{list_any}
use Rattle.toml.specs.Data.{Data, table, Items, no_items, item, Members}
use Rattle.bus_base.specs.declared.samples.Part.{Part}
use Rattle.bus_base.specs.declared.samples.Part.TheVariants.{Command, First, Second}
use Rattle.bus_formats.specs.declared.fault.Fault.{Fault}
use Rattle.bus_formats.specs.declared.fault.Hit.{Hit}
use Rattle.bus_formats.specs.declared.fault.Hit.TheVariants.{Flip, Fade}
use Rattle.bus_plan.specs.Decode.{list_at}
use Rattle.bus_plan.specs.DecodeFaults.{positions_at, names_undetectable}
use Rattle.bus_plan.specs.Place.{at_number}
use Rattle.bus_plan.specs.Rows.{has_text}

-- whether a fault flips undetectably
abbrev pub table_flips_undetectably : Members → Bool
table_flips_undetectably ms = has_text (codes "kind") (codes "flip") ms && names_undetectable (positions_at ms)

abbrev pub flips_undetectably : Data → Bool
flips_undetectably (table ms) = table_flips_undetectably ms
flips_undetectably _ = false

-- the first such member, counted from n
abbrev pub first_undetectable : ℕ → Items → Option (List ℕ)
first_undetectable n no_items = None
first_undetectable n (item d ds) =
    if flips_undetectably d then Some (at_number (codes "fault.") n) else first_undetectable (n + 1) ds

abbrev pub undetectable_in : Option Items → Option (List ℕ)
undetectable_in None = None
undetectable_in (Some ds) = first_undetectable 1 ds

-- the first fault of a document that flips undetectably
abbrev pub undetectable : Members → Option (List ℕ)
undetectable doc = undetectable_in (list_at (codes "fault") doc)

-- the word that a flip or a fade strikes
abbrev pub word_of : Hit → Option ℕ
word_of (Flip word set) = Some word
word_of (Fade word set) = Some word
word_of _ = None

abbrev pub is_same_part : Part → Part → Bool
is_same_part Command Command = true
is_same_part First First = true
is_same_part Second Second = true
is_same_part _ _ = false

abbrev pub is_same_word : Option ℕ → Option ℕ → Bool
is_same_word None None = true
is_same_word (Some a) (Some b) = a == b
is_same_word _ _ = false

-- whether two faults strike the same: one attempt and part, and both one word by flips or fades, or both by neither
abbrev pub is_same : Fault → Fault → Bool
is_same f g = (f.attempt == g.attempt) && is_same_part f.part g.part && is_same_word (word_of f.hit) (word_of g.hit)

abbrev pub has_same : Fault → List Fault → Bool
has_same fault faults = list_any (λ earlier. is_same earlier fault) faults

-- the first fault, counted from n + 1, that strikes the same as an earlier one
abbrev pub same_fault : List Fault → ℕ → List Fault → Option (List ℕ)
same_fault all n [] = None
same_fault all n (f ∷ fs) =
    if has_same f (take n all) then Some (at_number (codes "fault.") (n + 1)) else same_fault all (n + 1) fs

-- what a fault strikes as one number: the same exactly for faults that strike the same, their words being below 256
abbrev pub part_code : Part → ℕ
part_code Command = 0
part_code First = 1
part_code Second = 2

abbrev pub word_code : Option ℕ → ℕ
word_code None = 0
word_code (Some word) = word + 1

abbrev pub strike_code : Fault → ℕ
strike_code f = (f.attempt * 4 + part_code f.part) * 512 + word_code (word_of f.hit)
