-- The walk for a rule on keys, kinds and ranges finds nothing exactly where no table of the document breaks the rule.
use Rattle.std.proofs.Common.{◌≡◌, ◌↔◌, ◌+◌, ℕ, Bool, true, false, cond, ◌&&◌, List, [], ◌∷◌, Option, Some, None, All, IsSome, IfSome, refl, sym, subst, codes}
use Rattle.std.specs.Prelude.{is_none}
use Rattle.std.proofs.lemmas.Bool.{false≢true}
use Rattle.std.proofs.lemmas.List.Elements.{All-nil, All-cons, All-tail}
use Rattle.toml.specs.Data.{Data, string, integer, float, boolean, datetime, array, table, Items, no_items, item, Members, no_members, member, get_member}
use Rattle.bus_plan.specs.Decode.{tables, tables_of}
use Rattle.bus_plan.specs.Document.{list_of}
use Rattle.bus_plan.specs.Place.{join}
use Rattle.bus_plan.specs.PlanOf.{in_document}
use Rattle.bus_plan.specs.Rows.{RowData, RowsData, knows, rows_of, shape_at}
use Rattle.bus_plan.specs.Rules.{is_list, has_kind, has_range, has_range_whole, keeps, keeps_whole, first_bad, at_key_unless, list_spot, keeps_no_list, value_spot, member_spot, at_spot, is_required, first_member, first_missing, in_table}
use Rattle.bus_plan.specs.Tables.{EachItem, EachMember, tables_in, EachInFrame, EachInStation, EachTable, HasKind, HasRange, IsThere, KeepsRows, KeepsRule}
use Rattle.bus_plan.specs.Walk.{over_item, over_items, over_list, over, own, in_frame, in_station, in_root}
use Rattle.bus_plan.specs.declared.rows.Head.{Head}
use Rattle.bus_plan.specs.declared.rows.Shape.{Shape}
use Rattle.bus_plan.specs.declared.rows.TableKind.{TableKind}
use Rattle.bus_plan.specs.declared.rows.TableKind.TheVariants.{Root, Station, Load, Frame, Item, Fault}
use Rattle.bus_plan.specs.declared.rules.Rule.{Rule}
use Rattle.bus_plan.specs.declared.rules.Rule.TheVariants.{UnknownKey, Missing, WrongKind, OutOfRange}
use Rattle.bus_plan.specs.declared.rules.Spot.{Spot}
use Rattle.bus_plan.specs.declared.rules.Spot.TheVariants.{AtMember}
use Rattle.bus_plan.proofs.ExactItems.{all_first, none_where, no_place}
use Rattle.bus_plan.proofs.ItemLaws.{none_unless, or_none_left, or_none_right}

-- ---- a value

kept-at-key : (b : Bool) → at_key_unless b ≡ None → b ≡ true
kept-at-key true h = refl
kept-at-key false h = absurd (cc)

at-key-kept : (b : Bool) → b ≡ true → at_key_unless b ≡ None
at-key-kept true h = refl
at-key-kept false h = absurd (false≢true h)

list-none : (whole : Bool) (o : Option Spot) → list_spot whole o ≡ None → (o ≡ None) × (whole ≡ true)
list-none whole None h = (refl, kept-at-key whole h)
list-none whole (Some spot) h = absurd (cc)

none-list : (whole : Bool) (o : Option Spot) → o ≡ None → whole ≡ true → list_spot whole o ≡ None
none-list whole None o h = at-key-kept whole h
none-list whole (Some spot) o h = absurd (cc)

bad-unless : (b : Bool) (n : ℕ) (rest : Option Spot) → cond b rest (Some (AtMember n)) ≡ None → (b ≡ true) × (rest ≡ None)
bad-unless true n rest h = (refl, h)
bad-unless false n rest h = absurd (cc)

module _ (rule : Rule) (shape : Shape) where
  items-to : (n : ℕ) (ds : Items) → first_bad rule shape n ds ≡ None → EachItem (λ x. keeps rule shape x ≡ true) ds
  items-to n no_items h = tt
  items-to n (item d ds) h =
      let parts = bad-unless (keeps rule shape d) n (first_bad rule shape (n + 1) ds) h in
      (parts.0, items-to (n + 1) ds parts.1)

  items-from : (n : ℕ) (ds : Items) → EachItem (λ x. keeps rule shape x ≡ true) ds → first_bad rule shape n ds ≡ None
  items-from n no_items h = refl
  items-from n (item d ds) h = let k : keeps rule shape d ≡ true = h.0 in rw k (items-from (n + 1) ds h.1)

  -- where a list stands, and where another value does
  abbrev ListSpot : Items → Option Spot
  ListSpot ds = list_spot (keeps_whole rule shape ds) (first_bad rule shape 1 ds)

  array-list : (ds : Items) → is_list shape ≡ true → value_spot rule shape (array ds) ≡ None → ListSpot ds ≡ None
  array-list ds e h = (rw e at h)

  array-value : (ds : Items) → is_list shape ≡ false → value_spot rule shape (array ds) ≡ None → keeps rule shape (array ds) ≡ true
  array-value ds e h = kept-at-key (keeps rule shape (array ds)) (rw e at h)

  abbrev PlainSpot : Data → Option Spot
  PlainSpot d = at_key_unless (cond (is_list shape) (keeps_no_list rule) (keeps rule shape d))

  plain-list : (d : Data) → is_list shape ≡ true → PlainSpot d ≡ None → keeps_no_list rule ≡ true
  plain-list d e h = kept-at-key (keeps_no_list rule) (rw e at h)

  plain-value : (d : Data) → is_list shape ≡ false → PlainSpot d ≡ None → keeps rule shape d ≡ true
  plain-value d e h = kept-at-key (keeps rule shape d) (rw e at h)

  -- from what holds of a list, or of another value, by whether a list stands
  array-from : (ds : Items) (b : Bool) → is_list shape ≡ b → (b ≡ true → ListSpot ds ≡ None) → (b ≡ false → keeps rule shape (array ds) ≡ true)
      → value_spot rule shape (array ds) ≡ None
  array-from ds true e l v = rw e (l refl)
  array-from ds false e l v = rw e (at-key-kept (keeps rule shape (array ds)) (v refl))

  plain-from : (d : Data) (b : Bool) → is_list shape ≡ b → (b ≡ true → keeps_no_list rule ≡ true) → (b ≡ false → keeps rule shape d ≡ true)
      → PlainSpot d ≡ None
  plain-from d true e l v = rw e (at-key-kept (keeps_no_list rule) (l refl))
  plain-from d false e l v = rw e (at-key-kept (keeps rule shape d) (v refl))

module _ (shape : Shape) where
  plain-kind : (d : Data) → PlainSpot WrongKind shape d ≡ None → HasKind shape d
  plain-kind d h = record {
    list = λ e. absurd (false≢true (plain-list WrongKind shape d e h));
    value = λ e. plain-value WrongKind shape d e h;
  }

  kind-to : (d : Data) → value_spot WrongKind shape d ≡ None → HasKind shape d
  kind-to (array ds) h = record {
    list = λ e. (ds, refl, items-to WrongKind shape 1 ds (list-none (keeps_whole WrongKind shape ds) _ (array-list WrongKind shape ds e h)).0);
    value = λ e. array-value WrongKind shape ds e h;
  }
  kind-to (string x) h = plain-kind (string x) h
  kind-to (integer x) h = plain-kind (integer x) h
  kind-to (float x) h = plain-kind (float x) h
  kind-to (boolean x) h = plain-kind (boolean x) h
  kind-to (datetime x) h = plain-kind (datetime x) h
  kind-to (table x) h = plain-kind (table x) h

  same-items : (ds es : Items) → array ds ≡ array es → EachItem (λ x. has_kind shape x ≡ true) es → EachItem (λ x. has_kind shape x ≡ true) ds
  same-items ds es e h = let same : es ≡ ds = cc in subst (λ x. EachItem (λ y. has_kind shape y ≡ true) x) same h

  array-kind : (ds : Items) → HasKind shape (array ds) → value_spot WrongKind shape (array ds) ≡ None
  array-kind ds h =
      array-from WrongKind shape ds (is_list shape) refl
      (λ e. let found = h.list e in
      none-list (keeps_whole WrongKind shape ds) _ (items-from WrongKind shape 1 ds (same-items ds found.0 found.1 found.2)) refl)
      h.value

  kind-from : (d : Data) → HasKind shape d → value_spot WrongKind shape d ≡ None
  kind-from (array ds) h = array-kind ds h
  kind-from (string x) h = plain-from WrongKind shape (string x) (is_list shape) refl (λ e. let found = (h.list e).1 in absurd (cc)) h.value
  kind-from (integer x) h = plain-from WrongKind shape (integer x) (is_list shape) refl (λ e. let found = (h.list e).1 in absurd (cc)) h.value
  kind-from (float x) h = plain-from WrongKind shape (float x) (is_list shape) refl (λ e. let found = (h.list e).1 in absurd (cc)) h.value
  kind-from (boolean x) h = plain-from WrongKind shape (boolean x) (is_list shape) refl (λ e. let found = (h.list e).1 in absurd (cc)) h.value
  kind-from (datetime x) h = plain-from WrongKind shape (datetime x) (is_list shape) refl (λ e. let found = (h.list e).1 in absurd (cc)) h.value
  kind-from (table x) h = plain-from WrongKind shape (table x) (is_list shape) refl (λ e. let found = (h.list e).1 in absurd (cc)) h.value

  plain-range : (d : Data) → ((ds : Items) → d ≡ array ds → ⊥) → PlainSpot OutOfRange shape d ≡ None → HasRange shape d
  plain-range d apart h = record {
    list = λ e ds same. absurd (apart ds same);
    value = λ e. plain-value OutOfRange shape d e h;
  }

  range-of : (ds es : Items) → array ds ≡ array es → ListSpot OutOfRange shape ds ≡ None
      → EachItem (λ x. has_range shape x ≡ true) es × (has_range_whole shape es ≡ true)
  range-of ds es e h =
      let same : ds ≡ es = cc in
      let parts = list-none (keeps_whole OutOfRange shape ds) _ h in
      subst (λ x. EachItem (λ y. has_range shape y ≡ true) x × (has_range_whole shape x ≡ true)) same (items-to OutOfRange shape 1 ds parts.0, parts.1)

  range-to : (d : Data) → value_spot OutOfRange shape d ≡ None → HasRange shape d
  range-to (array ds) h = record {
    list = λ e es same. range-of ds es same (array-list OutOfRange shape ds e h);
    value = λ e. array-value OutOfRange shape ds e h;
  }
  range-to (string x) h = plain-range (string x) (λ ds e. cc) h
  range-to (integer x) h = plain-range (integer x) (λ ds e. cc) h
  range-to (float x) h = plain-range (float x) (λ ds e. cc) h
  range-to (boolean x) h = plain-range (boolean x) (λ ds e. cc) h
  range-to (datetime x) h = plain-range (datetime x) (λ ds e. cc) h
  range-to (table x) h = plain-range (table x) (λ ds e. cc) h

  range-from : (d : Data) → HasRange shape d → value_spot OutOfRange shape d ≡ None
  range-from (array ds) h =
      array-from OutOfRange shape ds (is_list shape) refl
      (λ e. let found = h.list e ds refl in none-list (keeps_whole OutOfRange shape ds) _ (items-from OutOfRange shape 1 ds found.0) found.1) h.value
  range-from (string x) h = plain-from OutOfRange shape (string x) (is_list shape) refl (λ e. refl) h.value
  range-from (integer x) h = plain-from OutOfRange shape (integer x) (is_list shape) refl (λ e. refl) h.value
  range-from (float x) h = plain-from OutOfRange shape (float x) (is_list shape) refl (λ e. refl) h.value
  range-from (boolean x) h = plain-from OutOfRange shape (boolean x) (is_list shape) refl (λ e. refl) h.value
  range-from (datetime x) h = plain-from OutOfRange shape (datetime x) (is_list shape) refl (λ e. refl) h.value
  range-from (table x) h = plain-from OutOfRange shape (table x) (is_list shape) refl (λ e. refl) h.value

  -- a key that is known is no unknown key, whatever stands there
  known-items : (n : ℕ) (ds : Items) → first_bad UnknownKey shape n ds ≡ None
  known-items n no_items = refl
  known-items n (item d ds) = known-items (n + 1) ds

  known-value : (d : Data) → value_spot UnknownKey shape d ≡ None
  known-value (array ds) =
      array-from UnknownKey shape ds (is_list shape) refl (λ e. none-list true _ (known-items 1 ds) refl) (λ e. refl)
  known-value (string x) = plain-from UnknownKey shape (string x) (is_list shape) refl (λ e. refl) (λ e. refl)
  known-value (integer x) = plain-from UnknownKey shape (integer x) (is_list shape) refl (λ e. refl) (λ e. refl)
  known-value (float x) = plain-from UnknownKey shape (float x) (is_list shape) refl (λ e. refl) (λ e. refl)
  known-value (boolean x) = plain-from UnknownKey shape (boolean x) (is_list shape) refl (λ e. refl) (λ e. refl)
  known-value (datetime x) = plain-from UnknownKey shape (datetime x) (is_list shape) refl (λ e. refl) (λ e. refl)
  known-value (table x) = plain-from UnknownKey shape (table x) (is_list shape) refl (λ e. refl) (λ e. refl)

-- ---- a table

spot-none : (path key : List ℕ) (o : Option Spot) (rest : Option (List ℕ)) → at_spot path key o rest ≡ None → (o ≡ None) × (rest ≡ None)
spot-none path key None rest h = (refl, h)
spot-none path key (Some spot) rest h = absurd (cc)

none-spot : (path key : List ℕ) (o : Option Spot) (rest : Option (List ℕ)) → o ≡ None → rest ≡ None → at_spot path key o rest ≡ None
none-spot path key None rest o h = h
none-spot path key (Some spot) rest o h = absurd (cc)

module _ (head : Head) (rule : Rule) (rows : RowsData) (P : List ℕ → Data → Type 0) where
  members-to : ((k : List ℕ) (d : Data) → member_spot rule (shape_at head rows k) d ≡ None → P k d) → (path : List ℕ) (ms : Members)
      → first_member head rule rows path ms ≡ None → EachMember P ms
  members-to f path no_members h = tt
  members-to f path (member k d ms) h =
      let parts = spot-none path k (member_spot rule (shape_at head rows k) d) (first_member head rule rows path ms) h in
      (f k d parts.0, members-to f path ms parts.1)

  members-from : ((k : List ℕ) (d : Data) → P k d → member_spot rule (shape_at head rows k) d ≡ None) → (path : List ℕ) (ms : Members)
      → EachMember P ms → first_member head rule rows path ms ≡ None
  members-from f path no_members h = refl
  members-from f path (member k d ms) h =
      none-spot path k (member_spot rule (shape_at head rows k) d) (first_member head rule rows path ms) (f k d h.0) (members-from f path ms h.1)

unknown-to : (o : Option Shape) (d : Data) → member_spot UnknownKey o d ≡ None → IsSome o
unknown-to None d h = absurd (cc)
unknown-to (Some shape) d h = refl

unknown-from : (o : Option Shape) (d : Data) → IsSome o → member_spot UnknownKey o d ≡ None
unknown-from None d h = absurd (false≢true h)
unknown-from (Some shape) d h = known-value shape d

wrong-to : (o : Option Shape) (d : Data) → member_spot WrongKind o d ≡ None → IfSome o (λ shape. HasKind shape d)
wrong-to None d h = tt
wrong-to (Some shape) d h = kind-to shape d h

wrong-from : (o : Option Shape) (d : Data) → IfSome o (λ shape. HasKind shape d) → member_spot WrongKind o d ≡ None
wrong-from None d h = refl
wrong-from (Some shape) d h = kind-from shape d h

out-to : (o : Option Shape) (d : Data) → member_spot OutOfRange o d ≡ None → IfSome o (λ shape. HasRange shape d)
out-to None d h = tt
out-to (Some shape) d h = range-to shape d h

out-from : (o : Option Shape) (d : Data) → IfSome o (λ shape. HasRange shape d) → member_spot OutOfRange o d ≡ None
out-from None d h = refl
out-from (Some shape) d h = range-from shape d h

there-to : (r k : Bool) (o : Option Data) → (r && k && is_none o) ≡ false → r ≡ true → k ≡ true → IsSome o
there-to true true (Some d) h r k = refl
there-to true true None h r k = absurd (false≢true (sym h))
there-to true false o h r k = absurd (false≢true k)
there-to false k o h r e = absurd (false≢true r)

there-from : (r k : Bool) (o : Option Data) → (r ≡ true → k ≡ true → IsSome o) → (r && k && is_none o) ≡ false
there-from true true (Some d) h = refl
there-from true true None h = absurd (false≢true (h refl refl))
there-from true false o h = refl
there-from false k o h = refl

module _ (head : Head) (path : List ℕ) (ms : Members) where
  missing-to : (rows : List RowData) → first_missing head rows path ms ≡ None → All (IsThere head ms) rows
  missing-to [] h = All-nil (IsThere head ms)
  missing-to (r ∷ rs) h =
      let parts = none_unless (is_required r.presence && knows head r.versions && is_none (get_member r.key ms)) _ (first_missing head rs path ms) h in
      All-cons (IsThere head ms) r rs (there-to (is_required r.presence) (knows head r.versions) (get_member r.key ms) parts.0) (missing-to rs parts.1)

  missing-from : (rows : List RowData) → All (IsThere head ms) rows → first_missing head rows path ms ≡ None
  missing-from [] h = refl
  missing-from (r ∷ rs) h =
      none_where (is_required r.presence && knows head r.versions && is_none (get_member r.key ms)) _ _
      (there-from (is_required r.presence) (knows head r.versions) (get_member r.key ms) (all_first (IsThere head ms) r rs h))
      (missing-from rs (All-tail (IsThere head ms) r rs h))

  -- the search of one table
  pub rows-to : (rule : Rule) (rows : RowsData) → in_table head rule rows path ms ≡ None → KeepsRows rule head rows ms
  rows-to Missing rows h = (missing-to rows.common (or_none_left _ _ h), missing-to rows.own (or_none_right (first_missing head rows.common path ms) _ h))
  rows-to UnknownKey rows h = members-to head UnknownKey rows (λ k d. IsSome (shape_at head rows k)) (λ k d. unknown-to (shape_at head rows k) d) path ms h
  rows-to WrongKind rows h =
      members-to head WrongKind rows (λ k d. IfSome (shape_at head rows k) (λ shape. HasKind shape d)) (λ k d. wrong-to (shape_at head rows k) d) path ms h
  rows-to OutOfRange rows h =
      members-to head OutOfRange rows (λ k d. IfSome (shape_at head rows k) (λ shape. HasRange shape d)) (λ k d. out-to (shape_at head rows k) d) path ms h

  rows-from : (rule : Rule) (rows : RowsData) → KeepsRows rule head rows ms → in_table head rule rows path ms ≡ None
  rows-from Missing rows h = no_place _ _ (missing-from rows.common h.0) (missing-from rows.own h.1)
  rows-from UnknownKey rows h =
      members-from head UnknownKey rows (λ k d. IsSome (shape_at head rows k)) (λ k d. unknown-from (shape_at head rows k) d) path ms h
  rows-from WrongKind rows h =
      members-from head WrongKind rows (λ k d. IfSome (shape_at head rows k) (λ shape. HasKind shape d)) (λ k d. wrong-from (shape_at head rows k) d) path ms h
  rows-from OutOfRange rows h =
      members-from head OutOfRange rows (λ k d. IfSome (shape_at head rows k) (λ shape. HasRange shape d)) (λ k d. out-from (shape_at head rows k) d) path ms h

-- ---- the walk

-- a search of the tables of an array finds nothing exactly where it finds nothing in each
module _ (f : List ℕ → Members → Option (List ℕ)) (P : Members → Type 0) where
  array-to : ((path : List ℕ) (ms : Members) → f path ms ≡ None → P ms) → (path : List ℕ) (n : ℕ) (ds : Items) → over_items f path n ds ≡ None
      → All P (tables (λ t. t) ds)
  array-to g path n no_items h = All-nil P
  array-to g path n (item (table ms) ds) h =
      All-cons P ms (tables (λ t. t) ds) (g _ ms (or_none_left (over_item f path n (table ms)) _ h))
      (array-to g path (n + 1) ds (or_none_right (over_item f path n (table ms)) _ h))
  array-to g path n (item (string x) ds) h = array-to g path (n + 1) ds h
  array-to g path n (item (integer x) ds) h = array-to g path (n + 1) ds h
  array-to g path n (item (float x) ds) h = array-to g path (n + 1) ds h
  array-to g path n (item (boolean x) ds) h = array-to g path (n + 1) ds h
  array-to g path n (item (datetime x) ds) h = array-to g path (n + 1) ds h
  array-to g path n (item (array x) ds) h = array-to g path (n + 1) ds h

  array-of : ((path : List ℕ) (ms : Members) → P ms → f path ms ≡ None) → (path : List ℕ) (n : ℕ) (ds : Items) → All P (tables (λ t. t) ds)
      → over_items f path n ds ≡ None
  array-of g path n no_items h = refl
  array-of g path n (item (table ms) ds) h =
      no_place (over_item f path n (table ms)) _ (g _ ms (all_first P ms (tables (λ t. t) ds) h))
      (array-of g path (n + 1) ds (All-tail P ms (tables (λ t. t) ds) h))
  array-of g path n (item (string x) ds) h = array-of g path (n + 1) ds h
  array-of g path n (item (integer x) ds) h = array-of g path (n + 1) ds h
  array-of g path n (item (float x) ds) h = array-of g path (n + 1) ds h
  array-of g path n (item (boolean x) ds) h = array-of g path (n + 1) ds h
  array-of g path n (item (datetime x) ds) h = array-of g path (n + 1) ds h
  array-of g path n (item (array x) ds) h = array-of g path (n + 1) ds h

  lists-to : ((path : List ℕ) (ms : Members) → f path ms ≡ None → P ms) → (path : List ℕ) (o : Option Items) → over_list f path o ≡ None
      → All P (tables_of (λ t. t) o)
  lists-to g path None h = All-nil P
  lists-to g path (Some ds) h = array-to g path 1 ds h

  lists-from : ((path : List ℕ) (ms : Members) → P ms → f path ms ≡ None) → (path : List ℕ) (o : Option Items) → All P (tables_of (λ t. t) o)
      → over_list f path o ≡ None
  lists-from g path None h = refl
  lists-from g path (Some ds) h = array-of g path 1 ds h

  over-to : ((path : List ℕ) (ms : Members) → f path ms ≡ None → P ms) → (key path : List ℕ) (ms : Members) → over f key path ms ≡ None
      → All P (tables_in key ms)
  over-to g key path ms h = lists-to g (join (join path key) (codes ".")) (list_of (get_member key ms)) h

  over-from : ((path : List ℕ) (ms : Members) → P ms → f path ms ≡ None) → (key path : List ℕ) (ms : Members) → All P (tables_in key ms)
      → over f key path ms ≡ None
  over-from g key path ms h = lists-from g (join (join path key) (codes ".")) (list_of (get_member key ms)) h

module _ (rule : Rule) (head : Head) where
  abbrev Keeps : TableKind → Members → Type 0
  Keeps kind ms = KeepsRows rule head (rows_of kind head ms) ms

  own-to : (kind : TableKind) (path : List ℕ) (ms : Members) → own rule head kind path ms ≡ None → Keeps kind ms
  own-to kind path ms h = rows-to head path ms rule (rows_of kind head ms) h

  own-from : (kind : TableKind) (path : List ℕ) (ms : Members) → Keeps kind ms → own rule head kind path ms ≡ None
  own-from kind path ms h = rows-from head path ms rule (rows_of kind head ms) h

  frame-to : (path : List ℕ) (ms : Members) → in_frame rule head path ms ≡ None → EachInFrame Keeps ms
  frame-to path ms h = record {
    own = own-to Frame path ms (or_none_left _ _ h);
    items = over-to (own rule head Item) (Keeps Item) (own-to Item) (codes "item") path ms (or_none_right (own rule head Frame path ms) _ h);
  }

  frame-from : (path : List ℕ) (ms : Members) → EachInFrame Keeps ms → in_frame rule head path ms ≡ None
  frame-from path ms h =
      no_place (own rule head Frame path ms) _ (own-from Frame path ms h.own)
      (over-from (own rule head Item) (Keeps Item) (own-from Item) (codes "item") path ms h.items)

  station-to : (path : List ℕ) (ms : Members) → in_station rule head path ms ≡ None → EachInStation Keeps ms
  station-to path ms h =
      let below = or_none_right (own rule head Station path ms) _ h in
      record {
        own = own-to Station path ms (or_none_left _ _ h);
        loads = over-to (own rule head Load) (Keeps Load) (own-to Load) (codes "load") path ms (or_none_left _ _ below);
        frames = over-to (in_frame rule head) (EachInFrame Keeps) frame-to (codes "frame") path ms
            (or_none_right (over (own rule head Load) (codes "load") path ms) _ below);
      }

  station-from : (path : List ℕ) (ms : Members) → EachInStation Keeps ms → in_station rule head path ms ≡ None
  station-from path ms h =
      no_place (own rule head Station path ms) _ (own-from Station path ms h.own)
      (no_place (over (own rule head Load) (codes "load") path ms) _
      (over-from (own rule head Load) (Keeps Load) (own-from Load) (codes "load") path ms h.loads)
      (over-from (in_frame rule head) (EachInFrame Keeps) frame-from (codes "frame") path ms h.frames))

  root-to : (path : List ℕ) (ms : Members) → in_root rule head path ms ≡ None → EachTable Keeps ms
  root-to path ms h =
      let below = or_none_right (own rule head Root path ms) _ h in
      record {
        own = own-to Root path ms (or_none_left _ _ h);
        stations = over-to (in_station rule head) (EachInStation Keeps) station-to (codes "station") path ms (or_none_left _ _ below);
        faults = over-to (own rule head Fault) (Keeps Fault) (own-to Fault) (codes "fault") path ms
            (or_none_right (over (in_station rule head) (codes "station") path ms) _ below);
      }

  root-from : (path : List ℕ) (ms : Members) → EachTable Keeps ms → in_root rule head path ms ≡ None
  root-from path ms h =
      no_place (own rule head Root path ms) _ (own-from Root path ms h.own)
      (no_place (over (in_station rule head) (codes "station") path ms) _
      (over-from (in_station rule head) (EachInStation Keeps) station-from (codes "station") path ms h.stations)
      (over-from (own rule head Fault) (Keeps Fault) (own-from Fault) (codes "fault") path ms h.faults))

pub rule-exact : (rule : Rule) (head : Head) (doc : Members) → (in_document rule head doc ≡ None) ↔ KeepsRule rule head doc
unfolding in_document
rule-exact rule head doc = (root-to rule head [] doc, root-from rule head [] doc)
