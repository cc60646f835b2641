-- The grammar of a plan as rows: the keys of each table, and what stands there.
use Rattle.std.specs.Prelude.{ℕ, Bool, true, false, not, ◌&&◌, ◌||◌, List, [], ◌∷◌, map, Option, Some, None, is_some, bytes_eq, if◌then◌else◌, codes}
use Rattle.toml.specs.Data.{Members, get_member}
use Rattle.bus_plan.specs.Document.{is_text, number_within}
use Rattle.bus_plan.specs.Ranges.{version_range, address_range, terminal_range, controller_range, delay_range, word_range, own_sub_range, sub_range, count_range, repeat_range, frame_range, gap_range, abandon_range, code_range, transmit_range, attempt_range, struck_range, after_range, command_after_range, extra_range, flip_range, fade_range}
use Rattle.bus_plan.specs.declared.rows.Head.{Head}
use Rattle.bus_plan.specs.declared.rows.Presence.{Presence}
use Rattle.bus_plan.specs.declared.rows.Presence.TheVariants.{Required, Optional}
use Rattle.bus_plan.specs.declared.rows.Refusable.TheVariants.{Subaddresses, ModeCodes}
use Rattle.bus_plan.specs.declared.rows.Row.{Row}
use Rattle.bus_plan.specs.declared.rows.Rows.{Rows}
use Rattle.bus_plan.specs.declared.rows.Shape.{Shape}
use Rattle.bus_plan.specs.declared.rows.Shape.TheVariants.{Any, Flag, Number, Either, Word, DataWords, Refusals, Turns, Positions, Tables}
use Rattle.bus_plan.specs.declared.rows.TableKind.{TableKind}
use Rattle.bus_plan.specs.declared.rows.TableKind.TheVariants.{Root, Station, Load, Frame, Item, Fault}
use Rattle.bus_plan.specs.declared.rows.Versions.{Versions}
use Rattle.bus_plan.specs.declared.rows.Versions.TheVariants.{Every, First, Second}
use Rattle.bus_plan.specs.declared.rows.Words.{Words}
use Rattle.bus_plan.specs.declared.rows.Words.TheVariants as words

-- a key, whether it must be there, what stands there, and which versions of the plan know the row
pub record RowData : Type 0 where
  pub key : List ℕ
  pub presence : Presence
  pub shape : Shape
  pub versions : Versions

-- the rows that all tables of a kind have, and those by what the table is
pub record RowsData : Type 0 where
  pub common : List RowData
  pub own : List RowData

abbrev pub row_of : Row → RowData
row_of r = record { key = r.key.now; presence = r.presence; shape = r.shape; versions = r.versions }

abbrev pub rows_data : Rows → RowsData
rows_data rows = record { common = map row_of rows.common.now; own = map row_of rows.own.now }

abbrev pub needs : List ℕ → Shape → RowData
needs key shape = record { key = key; presence = Required; shape = shape; versions = Every }

abbrev pub takes : List ℕ → Shape → RowData
takes key shape = record { key = key; presence = Optional; shape = shape; versions = Every }

abbrev pub in_versions : Versions → RowData → RowData
in_versions versions r = record { key = r.key; presence = r.presence; shape = r.shape; versions = versions }

abbrev pub root_rows : List RowData
root_rows =
    needs (codes "version") (Number version_range)
    ∷ needs (codes "start") (Number address_range)
    ∷ needs (codes "station") Tables
    ∷ takes (codes "fault") Tables
    ∷ []

abbrev pub station_rows : List RowData
station_rows =
    takes (codes "delay") (Number delay_range)
    ∷ takes (codes "busy") Flag
    ∷ takes (codes "service") Flag
    ∷ takes (codes "subsystem_flag") Flag
    ∷ takes (codes "terminal_flag") Flag
    ∷ takes (codes "accepts") Flag
    ∷ takes (codes "vector") (Number word_range)
    ∷ takes (codes "bit") (Number word_range)
    ∷ takes (codes "no_receive") (Refusals Subaddresses)
    ∷ takes (codes "no_transmit") (Refusals Subaddresses)
    ∷ takes (codes "no_mode") (Refusals ModeCodes)
    ∷ takes (codes "channel") (Word words.Channels)
    ∷ takes (codes "load") Tables
    ∷ takes (codes "frame") Tables
    ∷ in_versions Second (takes (codes "repeat") (Number repeat_range))
    ∷ []

-- a terminal; a controller alone, where the plan starts with the address 31
abbrev pub terminal_rows : List RowData
terminal_rows =
    needs (codes "address") (Number terminal_range) ∷ takes (codes "subsystem") (Word words.Subsystems) ∷ []

abbrev pub controller_rows : List RowData
controller_rows =
    needs (codes "address") (Number controller_range) ∷ takes (codes "subsystem") (Word words.Nothing) ∷ []

abbrev pub load_rows : List RowData
load_rows = needs (codes "sub") (Number own_sub_range) ∷ needs (codes "words") DataWords ∷ []

abbrev pub frame_rows : List RowData
frame_rows = takes (codes "ticks") (Number frame_range) ∷ takes (codes "item") Tables ∷ []

abbrev pub item_rows : List RowData
item_rows =
    needs (codes "form") (Word words.Forms)
    ∷ takes (codes "channel") (Word words.Channels)
    ∷ takes (codes "gap") (Number gap_range)
    ∷ takes (codes "retry") Turns
    ∷ takes (codes "abandon") (Number abandon_range)
    ∷ []

abbrev pub receive_rows : List RowData
receive_rows =
    needs (codes "to") (Number address_range) ∷ needs (codes "sub") (Number sub_range) ∷ needs (codes "words") DataWords ∷ []

abbrev pub transmit_rows : List RowData
transmit_rows =
    needs (codes "from") (Number terminal_range)
    ∷ needs (codes "sub") (Number sub_range)
    ∷ needs (codes "count") (Number count_range)
    ∷ []

abbrev pub relay_rows : List RowData
relay_rows =
    needs (codes "from") (Number terminal_range)
    ∷ needs (codes "from_sub") (Number sub_range)
    ∷ needs (codes "to") (Number address_range)
    ∷ needs (codes "to_sub") (Number sub_range)
    ∷ needs (codes "count") (Number count_range)
    ∷ []

abbrev pub mode_rows : List RowData
mode_rows =
    needs (codes "to") (Number address_range)
    ∷ needs (codes "code") (Number code_range)
    ∷ takes (codes "t") (Number transmit_range)
    ∷ takes (codes "mode_sub") (Either 0 31)
    ∷ takes (codes "word") (Number word_range)
    ∷ []

-- an item whose form is no form: the keys of all forms, untested
abbrev pub any_form_rows : List RowData
any_form_rows =
    takes (codes "to") Any
    ∷ takes (codes "sub") Any
    ∷ takes (codes "words") Any
    ∷ takes (codes "from") Any
    ∷ takes (codes "count") Any
    ∷ takes (codes "from_sub") Any
    ∷ takes (codes "to_sub") Any
    ∷ takes (codes "code") Any
    ∷ takes (codes "t") Any
    ∷ takes (codes "mode_sub") Any
    ∷ takes (codes "word") Any
    ∷ []

abbrev pub fault_rows : List RowData
fault_rows =
    needs (codes "attempt") (Number attempt_range)
    ∷ needs (codes "part") (Word words.Parts)
    ∷ in_versions First (needs (codes "kind") (Word words.Kinds))
    ∷ in_versions Second (needs (codes "kind") (Word words.KindsWithFade))
    ∷ []

abbrev pub flip_rows : List RowData
flip_rows =
    needs (codes "word") (Number struck_range)
    ∷ needs (codes "at") (Positions flip_range 40)
    ∷ []

abbrev pub fade_rows : List RowData
fade_rows =
    needs (codes "word") (Number struck_range)
    ∷ needs (codes "at") (Positions fade_range 3)
    ∷ []

abbrev pub cut_rows : List RowData
cut_rows = needs (codes "after") (Number after_range) ∷ []

-- a controller's burst keeps its first word
abbrev pub command_cut_rows : List RowData
command_cut_rows = needs (codes "after") (Number command_after_range) ∷ []

abbrev pub extra_rows : List RowData
extra_rows = needs (codes "words") (Number extra_range) ∷ []

-- a fault whose kind is no kind: the keys of all kinds, untested
abbrev pub any_kind_rows : List RowData
any_kind_rows =
    takes (codes "word") Any ∷ takes (codes "at") Any ∷ takes (codes "after") Any ∷ takes (codes "words") Any ∷ []

abbrev pub has_text : List ℕ → List ℕ → Members → Bool
has_text key text ms = is_text text (get_member key ms)

abbrev pub own_station_rows : Head → Members → List RowData
own_station_rows head ms =
    if head.last_starts && is_some (number_within controller_range (get_member (codes "address") ms)) then controller_rows
    else terminal_rows

abbrev pub own_item_rows : Members → List RowData
own_item_rows ms =
    if has_text (codes "form") (codes "receive") ms then receive_rows
    else if has_text (codes "form") (codes "transmit") ms then transmit_rows
    else if has_text (codes "form") (codes "relay") ms then relay_rows
    else if has_text (codes "form") (codes "mode") ms then mode_rows
    else any_form_rows

abbrev pub cut_rows_of : Members → List RowData
cut_rows_of ms = if has_text (codes "part") (codes "command") ms then command_cut_rows else cut_rows

abbrev pub own_fault_rows : Head → Members → List RowData
own_fault_rows head ms =
    if has_text (codes "kind") (codes "flip") ms then flip_rows
    else if has_text (codes "kind") (codes "cut") ms then cut_rows_of ms
    else if has_text (codes "kind") (codes "extra") ms then extra_rows
    else if head.is_second && has_text (codes "kind") (codes "fade") ms then fade_rows
    else any_kind_rows

abbrev pub rows_from : List RowData → List RowData → RowsData
rows_from common own = record { common = common; own = own }

-- the rows of a table, by its kind, the plan's head and the table itself
abbrev pub rows_of : TableKind → Head → Members → RowsData
rows_of Root head ms = rows_from root_rows []
rows_of Station head ms = rows_from station_rows (own_station_rows head ms)
rows_of Load head ms = rows_from load_rows []
rows_of Frame head ms = rows_from frame_rows []
rows_of Item head ms = rows_from item_rows (own_item_rows ms)
rows_of Fault head ms = rows_from fault_rows (own_fault_rows head ms)

-- whether a plan's version knows a row
abbrev pub knows : Head → Versions → Bool
knows head Every = true
knows head First = not head.is_second
knows head Second = head.is_second

-- what stands at a key, where one of the rows has it
abbrev pub find_row : Head → List RowData → List ℕ → Option Shape
find_row head [] key = None
find_row head (r ∷ rs) key = if knows head r.versions && bytes_eq r.key key then Some r.shape else find_row head rs key

abbrev pub or_shape : Option Shape → Option Shape → Option Shape
or_shape (Some shape) other = Some shape
or_shape None other = other

abbrev pub shape_at : Head → RowsData → List ℕ → Option Shape
shape_at head rows key = or_shape (find_row head rows.common key) (find_row head rows.own key)

-- whether the text is one of the words
abbrev pub has_word : Words → List ℕ → Bool
has_word words.Nothing text = false
has_word words.Channels text = bytes_eq text (codes "A") || bytes_eq text (codes "B")
has_word words.Subsystems text = bytes_eq text (codes "recorder") || bytes_eq text (codes "tally")
has_word words.Forms text =
    bytes_eq text (codes "receive") || bytes_eq text (codes "transmit") || bytes_eq text (codes "relay") || bytes_eq text (codes "mode")
has_word words.Turns text = bytes_eq text (codes "same") || bytes_eq text (codes "other")
has_word words.Parts text = bytes_eq text (codes "command") || bytes_eq text (codes "first") || bytes_eq text (codes "second")
has_word words.Kinds text = bytes_eq text (codes "flip") || bytes_eq text (codes "cut") || bytes_eq text (codes "extra")
has_word words.KindsWithFade text =
    bytes_eq text (codes "flip") || bytes_eq text (codes "cut") || bytes_eq text (codes "extra") || bytes_eq text (codes "fade")
