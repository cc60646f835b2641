-- The walk over the tables of a plan: root, then the stations, each with its loads and then its frames with their items, then
-- the faults.
use Rattle.std.specs.Prelude.{ℕ, ◌+◌, List, codes, Option, Some, None}
use Rattle.toml.specs.Data.{Data, table, Items, no_items, item, Members, get_member}
use Rattle.bus_plan.specs.Document.{list_of}
use Rattle.bus_plan.specs.Place.{join, at_number, or_place}
use Rattle.bus_plan.specs.Rows.{rows_of}
use Rattle.bus_plan.specs.Rules.{in_table}
use Rattle.bus_plan.specs.declared.rows.Head.{Head}
use Rattle.bus_plan.specs.declared.rows.TableKind.{TableKind}
use Rattle.bus_plan.specs.declared.rows.TableKind.TheVariants.{Root, Station, Load, Frame, Item, Fault}
use Rattle.bus_plan.specs.declared.rules.Rule.{Rule}

-- what a search of one table finds in a value, the member n of an array
abbrev pub over_item : (List ℕ → Members → Option (List ℕ)) → List ℕ → ℕ → Data → Option (List ℕ)
over_item f path n (table ms) = f (join (at_number path n) (codes ".")) ms
over_item f path n _ = None

-- the first place that a search of one table finds in the tables of an array, whose members are counted from n
abbrev pub over_items : (List ℕ → Members → Option (List ℕ)) → List ℕ → ℕ → Items → Option (List ℕ)
over_items f path n no_items = None
over_items f path n (item d ds) = or_place (over_item f path n d) (over_items f path (n + 1) ds)

-- the same for an array that may be absent
abbrev pub over_list : (List ℕ → Members → Option (List ℕ)) → List ℕ → Option Items → Option (List ℕ)
over_list f path (Some ds) = over_items f path 1 ds
over_list f path None = None

-- the same for the array at a key
abbrev pub over : (List ℕ → Members → Option (List ℕ)) → List ℕ → List ℕ → Members → Option (List ℕ)
over f key path ms = over_list f (join (join path key) (codes ".")) (list_of (get_member key ms))

module _ (rule : Rule) (head : Head) where
  -- the first place of a table itself that breaks the rule
  abbrev pub own : TableKind → List ℕ → Members → Option (List ℕ)
  own kind path ms = in_table head rule (rows_of kind head ms) path ms

  -- the first place in a frame, in a station, in the document
  abbrev pub in_frame : List ℕ → Members → Option (List ℕ)
  in_frame path ms = or_place (own Frame path ms) (over (own Item) (codes "item") path ms)

  abbrev pub in_station : List ℕ → Members → Option (List ℕ)
  in_station path ms =
      or_place (own Station path ms)
      (or_place (over (own Load) (codes "load") path ms) (over in_frame (codes "frame") path ms))

  abbrev pub in_root : List ℕ → Members → Option (List ℕ)
  in_root path ms =
      or_place (own Root path ms)
      (or_place (over in_station (codes "station") path ms) (over (own Fault) (codes "fault") path ms))

  -- the first place in a table and those below it
  abbrev pub in_kind : TableKind → List ℕ → Members → Option (List ℕ)
  in_kind Root path ms = in_root path ms
  in_kind Station path ms = in_station path ms
  in_kind Load path ms = own Load path ms
  in_kind Frame path ms = in_frame path ms
  in_kind Item path ms = own Item path ms
  in_kind Fault path ms = own Fault path ms
