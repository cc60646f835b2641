-- Each number of a plan that is read lies in its range.
use Rattle.std.proofs.Common.{◌≡◌, ◌<◌, ◌≤◌, ◌^◌, inl, inr, ℕ, Bool, true, false, cond, pos, negsuc, List, [], ◌∷◌, ◌++◌, length, Option, Some, None, All, IfSome, bit_or, arith, refl, sym, subst, nat_lt, length-append}
use Rattle.std.proofs.lemmas.Bool.{cases_eq}
use Rattle.std.proofs.lemmas.Bool.Decides.{nat_tests}
use Rattle.std.proofs.lemmas.List.Elements.{All-nil, All-cons, All-append, All-push}
use Rattle.std.proofs.lemmas.Nat.Bits.{bit_at_or, bit_at-pow_other, bit_at-zero}
use Rattle.toml.specs.Data.{Data, string, integer, float, boolean, datetime, array, table, Items, no_items, item, Members, get_member}
use Rattle.bus_base.specs.Positions.{IsBetween}
use Rattle.bus_formats.specs.Accepted.{AreWords, ListsOnly}
use Rattle.bus_plan.specs.Decode.{of_table, tables, tables_of, tables_at, number_at, list_at, words_from, words_of, words_at, filled, refusal_of, least_of, bits_from, bits_of, bits_at}
use Rattle.bus_plan.specs.Document.{number_within, number_or, number_in, lies_in}
use Rattle.bus_plan.specs.Positions.{pushed}
use Rattle.bus_plan.specs.Ranges.{word_range}
use Rattle.bus_plan.specs.Rules.{refusable}
use Rattle.bus_plan.specs.declared.ranges.Range.{Range}
use Rattle.bus_plan.specs.declared.rows.Refusable.{Refusable}

abbrev pub IsIn : Range → ℕ → Type 0
IsIn range n = IsBetween range.low range.high n

-- a number that is taken lies in its range
lies : (range : Range) (n : ℕ) → lies_in range n ≡ true → IsIn range n
lies range n h = grind (arith, nat_tests)

taken : (range : Range) (n : ℕ) (b : Bool) → lies_in range n ≡ b → IfSome (cond b (Some n) None) (IsIn range)
taken range n true h = lies range n h
taken range n false h = tt

pub within : (range : Range) (d : Option Data) → IfSome (number_within range d) (IsIn range)
within range None = tt
within range (Some (integer (pos n))) = taken range n (lies_in range n) refl
within range (Some (integer (negsuc n))) = tt
within range (Some (string s)) = tt
within range (Some (float x)) = tt
within range (Some (boolean x)) = tt
within range (Some (datetime x)) = tt
within range (Some (array x)) = tt
within range (Some (table x)) = tt

or_other : (P : ℕ → Type 0) (other : ℕ) (n : Option ℕ) → P other → IfSome n P → P (number_or other n)
or_other P other (Some n) o h = h
or_other P other None o h = o

pub number : (range : Range) (other : ℕ) (d : Option Data) → IsIn range other → IsIn range (number_in range other d)
number range other d o = or_other (IsIn range) other (number_within range d) o (within range d)

pub at : (range : Range) (other : ℕ) (key : List ℕ) (ms : Members) → range.low ≤ other → other ≤ range.high
    → IsIn range (number_at range other key ms)
at range other key ms l h = number range other (get_member key ms) (l, h)

-- what holds of what is read from each table holds of each element of what is read from an array
all_of_table : {T : Type 0} (P : T → Type 0) (f : Members → T) → ((ms : Members) → P (f ms)) → (d : Data) → All P (of_table f d)
all_of_table P f h (table ms) = All-cons P (f ms) [] (h ms) (All-nil P)
all_of_table P f h (integer x) = All-nil P
all_of_table P f h (string s) = All-nil P
all_of_table P f h (float x) = All-nil P
all_of_table P f h (boolean x) = All-nil P
all_of_table P f h (datetime x) = All-nil P
all_of_table P f h (array x) = All-nil P

all_tables : {T : Type 0} (P : T → Type 0) (f : Members → T) → ((ms : Members) → P (f ms)) → (ds : Items) → All P (tables f ds)
all_tables P f h no_items = All-nil P
all_tables P f h (item d ds) = All-append P (of_table f d) (tables f ds) (all_of_table P f h d) (all_tables P f h ds)

all_tables_of : {T : Type 0} (P : T → Type 0) (f : Members → T) → ((ms : Members) → P (f ms)) → (ds : Option Items) → All P (tables_of f ds)
all_tables_of P f h None = All-nil P
all_tables_of P f h (Some ds) = all_tables P f h ds

pub all_at : {T : Type 0} (P : T → Type 0) (f : Members → T) → ((ms : Members) → P (f ms)) → (key : List ℕ) (ms : Members)
    → All P (tables_at f key ms)
all_at P f h key ms = all_tables_of P f h (list_at key ms)

-- a list that is pushed to stays within its length
pushed_cases : {T : Type 0} (most : ℕ) (xs : List T) (x : T) (b : Bool) → nat_lt (length xs) most ≡ b → length xs ≤ most
    → length (cond b (xs ++ x ∷ []) xs) ≤ most
pushed_cases most xs x true e h =
    let longer = length-append xs (x ∷ []) in
    let room : length xs < most = grind (arith, nat_tests) in
    omega (arith, longer, room)
pushed_cases most xs x false e h = h

pub pushed_length : {T : Type 0} (most : ℕ) (xs : List T) (x : T) → length xs ≤ most → length (pushed most xs x) ≤ most
pushed_length most xs x h = pushed_cases most xs x (nat_lt (length xs) most) refl h

words_fit : (words : List ℕ) (ds : Items) → length words ≤ 32 → length (words_from words ds) ≤ 32
words_fit words no_items h = h
words_fit words (item d ds) h =
    words_fit (pushed 32 words (number_in word_range 0 (Some d))) ds (pushed_length 32 words (number_in word_range 0 (Some d)) h)

word : (d : Data) → number_in word_range 0 (Some d) < 65536
word d = let h = number word_range 0 (Some d) (omega arith, omega arith) in omega (arith, h.1)

push_cases : (b : Bool) (words : List ℕ) (w : ℕ) → AreWords words → w < 65536 → AreWords (cond b (words ++ w ∷ []) words)
push_cases true words w h l = All-push (λ w. w < 65536) words w h l
push_cases false words w h l = h

words_are : (words : List ℕ) (ds : Items) → AreWords words → AreWords (words_from words ds)
words_are words no_items h = h
words_are words (item d ds) h =
    words_are (pushed 32 words (number_in word_range 0 (Some d))) ds (push_cases _ words (number_in word_range 0 (Some d)) h (word d))

words_of_fit : (ds : Option Items) → length (words_of ds) ≤ 32
words_of_fit None = omega arith
words_of_fit (Some ds) = words_fit [] ds (omega arith)

words_of_are : (ds : Option Items) → AreWords (words_of ds)
words_of_are None = All-nil (λ w. w < 65536)
words_of_are (Some ds) = words_are [] ds (All-nil (λ w. w < 65536))

filled_fit : (ws : List ℕ) → length ws ≤ 32 → IsBetween 1 32 (length (filled ws))
filled_fit [] h = (omega arith, omega arith)
filled_fit (w ∷ ws) h = (omega arith, h)

filled_are : (ws : List ℕ) → AreWords ws → AreWords (filled ws)
filled_are [] h = All-cons (λ w. w < 65536) 0 [] (omega arith) (All-nil (λ w. w < 65536))
filled_are (w ∷ ws) h = h

-- a block has 1 to 32 data words
pub block_fits : (key : List ℕ) (ms : Members) → IsBetween 1 32 (length (words_at key ms))
block_fits key ms = filled_fit (words_of (list_at key ms)) (words_of_fit (list_at key ms))

pub block_words : (key : List ℕ) (ms : Members) → AreWords (words_at key ms)
block_words key ms = filled_are (words_of (list_at key ms)) (words_of_are (list_at key ms))

-- a set of bits lists only what is put into it
lists_none : (P : ℕ → Type 0) → ListsOnly P 0
lists_none P n h = absurd (omega (arith, h, bit_at-zero n))

lists_more : (P : ℕ → Type 0) (set k : ℕ) → ListsOnly P set → P k → ListsOnly P (bit_or set (2 ^ k))
lists_more P set k h p n b =
    let either = bit_at_or set (2 ^ k) n in
    elim (cases_eq n k) [
      | inl e ↦ subst P (sym e) p
      | inr ne ↦ let other = bit_at-pow_other k n ne in h n (omega (arith, b, either, other))
    ]

lists_from : (P : ℕ → Type 0) (which : Refusable) → ((d : Data) → P (refusal_of which d)) → (bits : ℕ) (ds : Items)
    → ListsOnly P bits → ListsOnly P (bits_from which bits ds)
lists_from P which h bits no_items l = l
lists_from P which h bits (item d ds) l =
    lists_from P which h (bit_or bits (2 ^ refusal_of which d)) ds (lists_more P bits (refusal_of which d) l (h d))

lists_of : (P : ℕ → Type 0) (which : Refusable) → ((d : Data) → P (refusal_of which d)) → (ds : Option Items) → ListsOnly P (bits_of which ds)
lists_of P which h None = lists_none P
lists_of P which h (Some ds) = lists_from P which h 0 ds (lists_none P)

-- the refusals of a terminal, where each of them may be one
pub lists_at : (P : ℕ → Type 0) (which : Refusable) → P (least_of which) → ((d : Data) → IfSome (refusable which d) P)
    → (key : List ℕ) (ms : Members) → ListsOnly P (bits_at which key ms)
lists_at P which o h key ms = lists_of P which (λ d. or_other P (least_of which) (refusable which d) o (h d)) (list_at key ms)
