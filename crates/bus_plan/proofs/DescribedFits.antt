-- Each value of the document that describes an accepted plan is of its kind and in its range.
use Rattle.std.proofs.Common.{◌≡◌, ◌<◌, ◌≤◌, ◌+◌, ◌⊎◌, inl, inr, ℕ, zero, suc, Bool, true, false, cond, ◌==◌, List, [], ◌∷◌, length, Option, Some, None, All, IsSome, IfSome, arith, refl, sym, ap, ◌∙◌, subst, codes, eqb-true}
use Rattle.std.specs.Prelude.{is_some, nat_le}
use Rattle.std.specs.Int.{bit_at}
use Rattle.std.proofs.lemmas.Bool.{and_from, false≢true}
use Rattle.std.proofs.lemmas.Bool.Decides.{nat_tests}
use Rattle.std.proofs.lemmas.List.Elements.{All-nil, All-cons, All-tail}
use Rattle.toml.specs.Data.{Data, string, boolean, array, table, Items, Members, no_members, member}
use Rattle.bus_base.specs.declared.samples.Channel.{Channel}
use Rattle.bus_base.specs.declared.samples.Channel.TheVariants.{A, B}
use Rattle.bus_base.specs.declared.samples.Part.{Part}
use Rattle.bus_base.specs.declared.samples.Part.TheVariants.{Command, First, Second}
use Rattle.bus_formats.specs.Accepted.{AreWords, IsRefusable, ListsOnly}
use Rattle.bus_formats.specs.declared.plan.Turn.{Turn}
use Rattle.bus_formats.specs.declared.plan.Turn.TheVariants.{Same, Other}
use Rattle.bus_plan.specs.Decode.{tables}
use Rattle.bus_plan.specs.Described.{number, numbers, items_of, tables_of_all, channel_text, turn_text, part_text, numbers_in, refused_numbers}
use Rattle.bus_plan.specs.Positions.{may_stand, positions_of}
use Rattle.bus_plan.specs.Ranges.{word_range, own_sub_range}
use Rattle.bus_plan.specs.Rows.{RowsData, shape_at}
use Rattle.bus_plan.specs.Rules.{is_list, has_kind, has_range, has_range_whole, items_length, in_table}
use Rattle.bus_plan.specs.Tables.{EachItem, EachMember, HasKind, HasRange, KeepsRows}
use Rattle.bus_plan.specs.declared.ranges.Range.{Range}
use Rattle.bus_plan.specs.declared.rows.Head.{Head}
use Rattle.bus_plan.specs.declared.rows.Refusable.TheVariants.{Subaddresses, ModeCodes}
use Rattle.bus_plan.specs.declared.rows.Shape.{Shape}
use Rattle.bus_plan.specs.declared.rows.Shape.TheVariants.{Flag, Number, Either, Word, DataWords, Refusals, Turns, Positions, Tables}
use Rattle.bus_plan.specs.declared.rows.Words.{Words}
use Rattle.bus_plan.specs.declared.rows.Words.TheVariants as words
use Rattle.bus_plan.specs.declared.rules.Rule.{Rule}
use Rattle.bus_plan.specs.declared.rules.Rule.TheVariants.{UnknownKey, Missing, WrongKind, OutOfRange}
use Rattle.bus_plan.proofs.DescribedValues.{within-back, code-refused}
use Rattle.bus_plan.proofs.ExactItems.{all_first}
use Rattle.bus_plan.proofs.ExactTables.{rows-to}
use Rattle.bus_plan.proofs.RangeLaws.{IsIn}

-- a value is of the kind and in the range of what stands there
pub record IsFitting (shape : Shape) (d : Data) : Type 0 where
  pub kind : HasKind shape d
  pub range : HasRange shape d

-- a member of a table has a key that is known, and a value that fits
abbrev pub Fits : Head → RowsData → List ℕ → Data → Type 0
Fits head rows k d = (shape : Shape) × (shape_at head rows k ≡ Some shape) × IsFitting shape d

each-map : (P Q : List ℕ → Data → Type 0) → ((k : List ℕ) (d : Data) → P k d → Q k d) → (ms : Members) → EachMember P ms → EachMember Q ms
each-map P Q f no_members h = tt
each-map P Q f (member k d ms) h = (f k d h.0, each-map P Q f ms h.1)

some-shape : (o : Option Shape) (shape : Shape) → o ≡ Some shape → IsSome o
some-shape o shape e = rw e refl

kind-there : (o : Option Shape) (shape : Shape) (d : Data) → o ≡ Some shape → HasKind shape d → IfSome o (λ s. HasKind s d)
kind-there o shape d e h = subst (λ x. IfSome x (λ s. HasKind s d)) (sym e) h

range-there : (o : Option Shape) (shape : Shape) (d : Data) → o ≡ Some shape → HasRange shape d → IfSome o (λ s. HasRange s d)
range-there o shape d e h = subst (λ x. IfSome x (λ s. HasRange s d)) (sym e) h

-- a table whose members fit, and whose required keys are there, keeps each rule
pub rows-kept : (head : Head) (rows : RowsData) (ms : Members) → EachMember (Fits head rows) ms → in_table head Missing rows [] ms ≡ None
    → (rule : Rule) → KeepsRows rule head rows ms
rows-kept head rows ms h m UnknownKey =
    each-map (Fits head rows) (λ k d. IsSome (shape_at head rows k)) (λ k d f. some-shape (shape_at head rows k) f.0 f.1) ms h
rows-kept head rows ms h m Missing = rows-to head [] ms Missing rows m
rows-kept head rows ms h m WrongKind =
    each-map (Fits head rows) (λ k d. IfSome (shape_at head rows k) (λ s. HasKind s d))
    (λ k d f. kind-there (shape_at head rows k) f.0 d f.1 f.2.kind) ms h
rows-kept head rows ms h m OutOfRange =
    each-map (Fits head rows) (λ k d. IfSome (shape_at head rows k) (λ s. HasRange s d))
    (λ k d f. range-there (shape_at head rows k) f.0 d f.1 f.2.range) ms h

-- ---- values that are no lists

pub fit-number : (range : Range) (n : ℕ) → IsIn range n → IsFitting (Number range) (number n)
fit-number range n h = record {
  kind = record { list = λ e. absurd (false≢true e); value = λ e. refl };
  range = record { list = λ e. absurd (false≢true e); value = λ e. ap is_some (within-back range n h) };
}

pub fit-flag : (b : Bool) → IsFitting Flag (boolean b)
fit-flag b = record {
  kind = record { list = λ e. absurd (false≢true e); value = λ e. refl };
  range = record { list = λ e. absurd (false≢true e); value = λ e. refl };
}

-- a text that is one of the words
pub fit-word : (words : Words) (text : List ℕ) → has_range (Word words) (string text) ≡ true → IsFitting (Word words) (string text)
fit-word words text h = record {
  kind = record { list = λ e. absurd (false≢true e); value = λ e. refl };
  range = record { list = λ e. absurd (false≢true e); value = λ e. h };
}

pub fit-channel : (c : Channel) → IsFitting (Word words.Channels) (channel_text c)
fit-channel A = fit-word words.Channels (codes "A") refl
fit-channel B = fit-word words.Channels (codes "B") refl

pub fit-part : (p : Part) → IsFitting (Word words.Parts) (part_text p)
fit-part Command = fit-word words.Parts (codes "command") refl
fit-part First = fit-word words.Parts (codes "first") refl
fit-part Second = fit-word words.Parts (codes "second") refl

either-there : (m : ℕ) → (m ≡ 0) ⊎ (m ≡ 31) → has_range (Either 0 31) (number m) ≡ true
either-there m (inl e) = subst (λ n. has_range (Either 0 31) (number n) ≡ true) (sym e) refl
either-there m (inr e) = subst (λ n. has_range (Either 0 31) (number n) ≡ true) (sym e) refl

pub fit-either : (m : ℕ) → (m ≡ 0) ⊎ (m ≡ 31) → IsFitting (Either 0 31) (number m)
fit-either m h = record {
  kind = record { list = λ e. absurd (false≢true e); value = λ e. refl };
  range = record { list = λ e. absurd (false≢true e); value = λ e. either-there m h };
}

-- ---- lists

each-of : {X : Type 0} (P : Data → Type 0) (f : X → Data) (xs : List X) → All (λ x. P (f x)) xs → EachItem P (items_of f xs)
each-of P f [] h = tt
each-of P f (x ∷ xs) h = (all_first (λ x. P (f x)) x xs h, each-of P f xs (All-tail (λ x. P (f x)) x xs h))

each-always : {X : Type 0} (P : Data → Type 0) (f : X → Data) (xs : List X) → ((x : X) → P (f x)) → EachItem P (items_of f xs)
each-always P f [] h = tt
each-always P f (x ∷ xs) h = (h x, each-always P f xs h)

length-of : {X : Type 0} (f : X → Data) (xs : List X) → items_length (items_of f xs) ≡ length xs
length-of f [] = refl
length-of f (x ∷ xs) = ap suc (length-of f xs)

same-array : (P : Items → Type 0) (ds es : Items) → array ds ≡ array es → P ds → P es
same-array P ds es e h = let same : ds ≡ es = cc in subst P same h

-- a list fits whose items do, and which does as a whole
pub fit-list : (shape : Shape) (ds : Items) → is_list shape ≡ true → EachItem (λ x. has_kind shape x ≡ true) ds → EachItem (λ x. has_range shape x ≡ true) ds
    → has_range_whole shape ds ≡ true → IsFitting shape (array ds)
fit-list shape ds l k r w = record {
  kind = record { list = λ e. (ds, refl, k); value = λ e. absurd (false≢true (sym e ∙ l)) };
  range = record {
    list = λ e es same. same-array (λ xs. EachItem (λ x. has_range shape x ≡ true) xs × (has_range_whole shape xs ≡ true)) ds es same (r, w);
    value = λ e. absurd (false≢true (sym e ∙ l));
  };
}

word-there : (w : ℕ) → w < 65536 → has_range DataWords (number w) ≡ true
word-there w h = ap is_some (within-back word_range w (omega arith, omega (arith, h)))

pub fit-words : (ws : List ℕ) → 1 ≤ length ws → length ws ≤ 32 → AreWords ws → IsFitting DataWords (numbers ws)
fit-words ws some few h =
    let long : items_length (items_of number ws) ≡ length ws = length-of number ws in
    fit-list DataWords (items_of number ws) refl (each-always (λ x. has_kind DataWords x ≡ true) number ws (λ w. refl))
    (each-of (λ x. has_range DataWords x ≡ true) number ws (λ k d within. word-there _ (h k d within)))
    (and_from (nat_le 1 (items_length (items_of number ws))) (nat_le (items_length (items_of number ws)) 32)
    (grind (arith, nat_tests, long, some)) (grind (arith, nat_tests, long, few)))

numbers-step : (P : ℕ → Type 0) (set n left : ℕ) (b : Bool) → (bit_at set n == 1) ≡ b → ListsOnly P set → All P (numbers_in set (n + 1) left)
    → All P (cond b (n ∷ numbers_in set (n + 1) left) (numbers_in set (n + 1) left))
numbers-step P set n left true e h rest = All-cons P n (numbers_in set (n + 1) left) (h n (eqb-true (bit_at set n) 1 e)) rest
numbers-step P set n left false e h rest = rest

numbers-all : (P : ℕ → Type 0) (set n left : ℕ) → ListsOnly P set → All P (numbers_in set n left)
numbers-all P set n zero h = All-nil P
numbers-all P set n (suc left) h = numbers-step P set n left (bit_at set n == 1) refl h (numbers-all P set (n + 1) left h)

pub fit-subs : (set : ℕ) → ListsOnly (IsIn own_sub_range) set → IsFitting (Refusals Subaddresses) (refused_numbers set)
fit-subs set h =
    let ns : List ℕ = numbers_in set 0 32 in
    fit-list (Refusals Subaddresses) (items_of number ns) refl
    (each-always (λ x. has_kind (Refusals Subaddresses) x ≡ true) number ns (λ n. refl))
    (each-of (λ x. has_range (Refusals Subaddresses) x ≡ true) number ns
    (λ k d within. ap is_some (within-back own_sub_range _ (numbers-all (IsIn own_sub_range) set 0 32 h k d within)))) refl

pub fit-codes : (set : ℕ) → ListsOnly IsRefusable set → IsFitting (Refusals ModeCodes) (refused_numbers set)
fit-codes set h =
    let ns : List ℕ = numbers_in set 0 32 in
    fit-list (Refusals ModeCodes) (items_of number ns) refl
    (each-always (λ x. has_kind (Refusals ModeCodes) x ≡ true) number ns (λ n. refl))
    (each-of (λ x. has_range (Refusals ModeCodes) x ≡ true) number ns
    (λ k d within. ap is_some (code-refused _ (numbers-all IsRefusable set 0 32 h k d within)))) refl

turn-kind : (t : Turn) → has_kind Turns (turn_text t) ≡ true
turn-kind Same = refl
turn-kind Other = refl

turn-range : (t : Turn) → has_range Turns (turn_text t) ≡ true
turn-range Same = refl
turn-range Other = refl

pub fit-turns : (ts : List Turn) → length ts ≤ 3 → IsFitting Turns (array (items_of turn_text ts))
fit-turns ts few =
    let long : items_length (items_of turn_text ts) ≡ length ts = length-of turn_text ts in
    fit-list Turns (items_of turn_text ts) refl (each-always (λ x. has_kind Turns x ≡ true) turn_text ts turn-kind)
    (each-always (λ x. has_range Turns x ≡ true) turn_text ts turn-range) (grind (arith, nat_tests, long, few))

pub fit-positions : (range : Range) (most : ℕ) (ps : List ℕ) → may_stand range most (positions_of (items_of number ps)) ≡ true
    → IsFitting (Positions range most) (numbers ps)
fit-positions range most ps h =
    fit-list (Positions range most) (items_of number ps) refl
    (each-always (λ x. has_kind (Positions range most) x ≡ true) number ps (λ p. refl))
    (each-always (λ x. has_range (Positions range most) x ≡ true) number ps (λ p. refl)) h

pub fit-tables : {X : Type 0} (f : X → Members) (xs : List X) → IsFitting Tables (tables_of_all f xs)
fit-tables f xs =
    fit-list Tables (items_of (λ x. table (f x)) xs) refl (each-always (λ x. has_kind Tables x ≡ true) (λ x. table (f x)) xs (λ x. refl))
    (each-always (λ x. has_range Tables x ≡ true) (λ x. table (f x)) xs (λ x. refl)) refl

-- what holds of each table that is made holds of the tables of the array
pub all-made : {X : Type 0} (P : Members → Type 0) (f : X → Members) (xs : List X) → All (λ x. P (f x)) xs
    → All P (tables (λ t. t) (items_of (λ x. table (f x)) xs))
all-made P f [] h = All-nil P
all-made P f (x ∷ xs) h =
    All-cons P (f x) (tables (λ t. t) (items_of (λ x. table (f x)) xs)) (all_first (λ x. P (f x)) x xs h)
    (all-made P f xs (All-tail (λ x. P (f x)) x xs h))
