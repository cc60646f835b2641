-- Where one table of a document breaks the rules on keys, kinds and ranges.
use Rattle.std.specs.Prelude.{ℕ, suc, ◌+◌, Bool, true, false, ◌&&◌, ◌||◌, ◌==◌, nat_le, if◌then◌else◌, List, [], ◌∷◌, codes, Option, Some, None, is_none, is_some}
use Rattle.toml.specs.Data.{Data, string, integer, boolean, array, table, Items, no_items, item, Members, no_members, member, get_member}
use Rattle.bus_formats.specs.Codes.{transmit_status_word, transmitter_shutdown, override_transmitter_shutdown, reset_remote_terminal}
use Rattle.bus_plan.specs.Document.{number_within}
use Rattle.bus_plan.specs.Ranges.{from_to, word_range, own_sub_range, code_range}
use Rattle.bus_plan.specs.Place.{join, at_number, shown, or_place}
use Rattle.bus_plan.specs.Positions.{positions_of, may_stand}
use Rattle.bus_plan.specs.Rows.{RowData, RowsData, knows, shape_at, has_word}
use Rattle.bus_plan.specs.declared.ranges.Range.{Range}
use Rattle.bus_plan.specs.declared.rows.Head.{Head}
use Rattle.bus_plan.specs.declared.rows.Presence.{Presence}
use Rattle.bus_plan.specs.declared.rows.Presence.TheVariants.{Required, Optional}
use Rattle.bus_plan.specs.declared.rows.Refusable.{Refusable}
use Rattle.bus_plan.specs.declared.rows.Refusable.TheVariants.{Subaddresses, ModeCodes}
use Rattle.bus_plan.specs.declared.rows.Shape.{Shape}
use Rattle.bus_plan.specs.declared.rows.Shape.TheVariants.{Any, Flag, Number, Either, Word, DataWords, Refusals, Turns, Positions, Tables}
use Rattle.bus_plan.specs.declared.rows.Words.{Words}
use Rattle.bus_plan.specs.declared.rows.Words.TheVariants as words
use Rattle.bus_plan.specs.declared.rules.Rule.{Rule}
use Rattle.bus_plan.specs.declared.rules.Rule.TheVariants.{UnknownKey, Missing, WrongKind, OutOfRange}
use Rattle.bus_plan.specs.declared.rules.Spot.{Spot}
use Rattle.bus_plan.specs.declared.rules.Spot.TheVariants.{AtKey, AtMember}

abbrev pub is_number : Data → Bool
is_number (integer z) = true
is_number _ = false

abbrev pub is_string : Data → Bool
is_string (string s) = true
is_string _ = false

abbrev pub is_flag : Data → Bool
is_flag (boolean b) = true
is_flag _ = false

abbrev pub is_table : Data → Bool
is_table (table ms) = true
is_table _ = false

abbrev pub is_within : Range → Data → Bool
is_within range d = is_some (number_within range (Some d))

abbrev pub is_either : ℕ → ℕ → Data → Bool
is_either first second d = is_within (from_to first first) d || is_within (from_to second second) d

abbrev pub is_one_of : Words → Data → Bool
is_one_of words (string s) = has_word words s
is_one_of words _ = true

-- the mode codes that each terminal obeys
abbrev pub is_always_obeyed : ℕ → Bool
is_always_obeyed code =
    (code == transmit_status_word) || (code == transmitter_shutdown) || (code == override_transmitter_shutdown)
    || (code == reset_remote_terminal)

abbrev pub unless_obeyed : Option ℕ → Option ℕ
unless_obeyed (Some code) = if is_always_obeyed code then None else Some code
unless_obeyed None = None

-- the subaddress or mode code, where a terminal may refuse it
abbrev pub refusable : Refusable → Data → Option ℕ
refusable Subaddresses d = number_within own_sub_range (Some d)
refusable ModeCodes d = unless_obeyed (number_within code_range (Some d))

-- whether a list stands there, whose members are of one kind
abbrev pub is_list : Shape → Bool
is_list DataWords = true
is_list (Refusals which) = true
is_list Turns = true
is_list (Positions range most) = true
is_list Tables = true
is_list _ = false

-- the kind of a value, or of each member of a list
abbrev pub has_kind : Shape → Data → Bool
has_kind Any d = true
has_kind Flag d = is_flag d
has_kind (Number range) d = is_number d
has_kind (Either first second) d = is_number d
has_kind (Word words) d = is_string d
has_kind DataWords d = is_number d
has_kind (Refusals which) d = is_number d
has_kind Turns d = is_string d
has_kind (Positions range most) d = is_number d
has_kind Tables d = is_table d

-- the range of a value, or of each member of a list
abbrev pub has_range : Shape → Data → Bool
has_range (Number range) d = is_within range d
has_range (Either first second) d = is_either first second d
has_range (Word words) d = is_one_of words d
has_range DataWords d = is_within word_range d
has_range (Refusals which) d = is_some (refusable which d)
has_range Turns d = is_one_of words.Turns d
has_range _ d = true

abbrev pub items_length : Items → ℕ
items_length no_items = 0
items_length (item d ds) = suc (items_length ds)

-- the range of a list as a whole: its length, and the order of positions
abbrev pub has_range_whole : Shape → Items → Bool
has_range_whole DataWords ds = nat_le 1 (items_length ds) && nat_le (items_length ds) 32
has_range_whole Turns ds = nat_le (items_length ds) 3
has_range_whole (Positions range most) ds = may_stand range most (positions_of ds)
has_range_whole _ ds = true

-- whether a value, or a member of a list, keeps the rule
abbrev pub keeps : Rule → Shape → Data → Bool
keeps WrongKind shape d = has_kind shape d
keeps OutOfRange shape d = has_range shape d
keeps _ shape d = true

-- whether a list as a whole keeps the rule
abbrev pub keeps_whole : Rule → Shape → Items → Bool
keeps_whole OutOfRange shape ds = has_range_whole shape ds
keeps_whole _ shape ds = true

-- the first member, counted from n, that breaks the rule
abbrev pub first_bad : Rule → Shape → ℕ → Items → Option Spot
first_bad rule shape n no_items = None
first_bad rule shape n (item d ds) = if keeps rule shape d then first_bad rule shape (n + 1) ds else Some (AtMember n)

abbrev pub at_key_unless : Bool → Option Spot
at_key_unless kept = if kept then None else Some AtKey

-- where a list breaks the rule: at a member, or else as a whole
abbrev pub list_spot : Bool → Option Spot → Option Spot
list_spot whole (Some spot) = Some spot
list_spot whole None = at_key_unless whole

-- whether something other than a list keeps the rule where a list stands
abbrev pub keeps_no_list : Rule → Bool
keeps_no_list WrongKind = false
keeps_no_list _ = true

-- where a value breaks the rule
abbrev pub value_spot : Rule → Shape → Data → Option Spot
value_spot rule shape (array ds) =
    if is_list shape then list_spot (keeps_whole rule shape ds) (first_bad rule shape 1 ds)
    else at_key_unless (keeps rule shape (array ds))
value_spot rule shape d = at_key_unless (if is_list shape then keeps_no_list rule else keeps rule shape d)

-- where a member of a table breaks the rule
abbrev pub member_spot : Rule → Option Shape → Data → Option Spot
member_spot UnknownKey None d = Some AtKey
member_spot rule None d = None
member_spot rule (Some shape) d = value_spot rule shape d

-- the text of a spot
abbrev pub spot_place : List ℕ → List ℕ → Spot → List ℕ
spot_place path key AtKey = join path (shown key)
spot_place path key (AtMember n) = at_number (join (join path (shown key)) (codes ".")) n

abbrev pub at_spot : List ℕ → List ℕ → Option Spot → Option (List ℕ) → Option (List ℕ)
at_spot path key None other = other
at_spot path key (Some spot) other = Some (spot_place path key spot)

-- whether the key must be there
abbrev pub is_required : Presence → Bool
is_required Required = true
is_required Optional = false

module _ (head : Head) where
  -- the first member of a table that breaks the rule, in the order of the keys' bytes
  abbrev pub first_member : Rule → RowsData → List ℕ → Members → Option (List ℕ)
  first_member rule rows path no_members = None
  first_member rule rows path (member k d ms) =
      at_spot path k (member_spot rule (shape_at head rows k) d) (first_member rule rows path ms)

  -- the first required key that is absent, in the order of the rows
  abbrev pub first_missing : List RowData → List ℕ → Members → Option (List ℕ)
  first_missing [] path ms = None
  first_missing (r ∷ rs) path ms =
      if is_required r.presence && knows head r.versions && is_none (get_member r.key ms) then Some (join path r.key)
      else first_missing rs path ms

  -- the first place of a table that breaks the rule
  abbrev pub in_table : Rule → RowsData → List ℕ → Members → Option (List ℕ)
  in_table Missing rows path ms = or_place (first_missing rows.common path ms) (first_missing rows.own path ms)
  in_table rule rows path ms = first_member rule rows path ms
