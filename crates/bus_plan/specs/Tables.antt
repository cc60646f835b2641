-- Which documents break no rule on keys, kinds and ranges, said of each table and each member without an order: that the search of the walk finds
-- nothing exactly there is proved (laws.rt).
use Rattle.std.specs.Prelude.{◌≡◌, ℕ, true, false, List, codes, All, IsSome, IfSome, ⊤}
use Rattle.toml.specs.Data.{Data, array, Items, no_items, item, Members, no_members, member, get_member}
use Rattle.bus_plan.specs.Decode.{tables_at}
use Rattle.bus_plan.specs.Rows.{RowData, RowsData, knows, rows_of, shape_at}
use Rattle.bus_plan.specs.Rules.{is_list, has_kind, has_range, has_range_whole, is_required}
use Rattle.bus_plan.specs.declared.rows.Head.{Head}
use Rattle.bus_plan.specs.declared.rows.Shape.{Shape}
use Rattle.bus_plan.specs.declared.rows.TableKind.{TableKind}
use Rattle.bus_plan.specs.declared.rows.TableKind.TheVariants.{Root, Station, Load, Frame, Item, Fault}
use Rattle.bus_plan.specs.declared.rules.Rule.{Rule}
use Rattle.bus_plan.specs.declared.rules.Rule.TheVariants.{UnknownKey, Missing, WrongKind, OutOfRange}

-- each item of an array, and each member of a table
abbrev pub EachItem : (Data → Type 0) → Items → Type 0
EachItem P no_items = ⊤
EachItem P (item d ds) = P d × EachItem P ds

abbrev pub EachMember : (List ℕ → Data → Type 0) → Members → Type 0
EachMember P no_members = ⊤
EachMember P (member k d ms) = P k d × EachMember P ms

-- the tables of the array at a key
abbrev pub tables_in : List ℕ → Members → List Members
tables_in key ms = tables_at (λ t. t) key ms

-- each table of a document, with its kind: the root, the stations with their loads and their frames with their items, and the faults
pub record EachInFrame (P : TableKind → Members → Type 0) (frame : Members) : Type 0 where
  pub own : P Frame frame
  pub items : All (P Item) (tables_in (codes "item") frame)

pub record EachInStation (P : TableKind → Members → Type 0) (station : Members) : Type 0 where
  pub own : P Station station
  pub loads : All (P Load) (tables_in (codes "load") station)
  pub frames : All (EachInFrame P) (tables_in (codes "frame") station)

pub record EachTable (P : TableKind → Members → Type 0) (doc : Members) : Type 0 where
  pub own : P Root doc
  pub stations : All (EachInStation P) (tables_in (codes "station") doc)
  pub faults : All (P Fault) (tables_in (codes "fault") doc)

-- a value is of the kind that stands at its key: where a list stands, an array whose items all are
pub record HasKind (shape : Shape) (d : Data) : Type 0 where
  pub list : is_list shape ≡ true → (ds : Items) × (d ≡ array ds) × EachItem (λ x. has_kind shape x ≡ true) ds
  pub value : is_list shape ≡ false → has_kind shape d ≡ true

-- a value lies in the range that stands at its key: of a list each item, and the list as a whole
pub record HasRange (shape : Shape) (d : Data) : Type 0 where
  pub list : is_list shape ≡ true → (ds : Items) → d ≡ array ds → EachItem (λ x. has_range shape x ≡ true) ds × (has_range_whole shape ds ≡ true)
  pub value : is_list shape ≡ false → has_range shape d ≡ true

-- the key of a row is there, where the plan's version knows the row and it must be there
abbrev pub IsThere : Head → Members → RowData → Type 0
IsThere head ms r = is_required r.presence ≡ true → knows head r.versions ≡ true → IsSome (get_member r.key ms)

-- a table with these rows keeps a rule
abbrev pub KeepsRows : Rule → Head → RowsData → Members → Type 0
KeepsRows UnknownKey head rows ms = EachMember (λ k d. IsSome (shape_at head rows k)) ms
KeepsRows Missing head rows ms = (All (IsThere head ms) rows.common) × (All (IsThere head ms) rows.own)
KeepsRows WrongKind head rows ms = EachMember (λ k d. IfSome (shape_at head rows k) (λ shape. HasKind shape d)) ms
KeepsRows OutOfRange head rows ms = EachMember (λ k d. IfSome (shape_at head rows k) (λ shape. HasRange shape d)) ms

-- no table of a document breaks a rule
abbrev pub KeepsRule : Rule → Head → Members → Type 0
KeepsRule rule head doc = EachTable (λ kind ms. KeepsRows rule head (rows_of kind head ms) ms) doc
