-- Each value of a plan is read back from what the document that describes the plan has for it.
use Rattle.std.proofs.Common.{◌≡◌, ◌<◌, ◌≤◌, ◌+◌, ◌^◌, inl, inr, max, ℕ, zero, suc, Bool, true, false, cond, ◌&&◌, ◌||◌, ◌==◌, List, [], ◌∷◌, ◌++◌, map, length, get_or, Some, All, bit_or, arith, refl, sym, ap, ◌∙◌, subst, eqb-true, eq-eqb, nat_lt, length-append}
use Rattle.std.specs.Prelude.{nat_le}
use Rattle.std.specs.Int.{bit_at}
use Rattle.std.specs.List.{list_any, range_with_len}
use Rattle.std.proofs.lemmas.Bool.{and_from, cases_Bool, cases_eq, false≢true}
use Rattle.std.proofs.lemmas.Bool.Decides.{nat_tests}
use Rattle.std.proofs.lemmas.List.{append-nil, append_assoc, get_or_default}
use Rattle.std.proofs.lemmas.List.Elements.{All-tail}
use Rattle.std.proofs.lemmas.Nat.Bits.{bit_at_or, bit_at-pow_same, bit_at-pow_other, bit_at-zero, bit_at-lt, same_from_bits}
use Rattle.toml.specs.Data.{table, Members}
use Rattle.bus_base.specs.Positions.{IsWithin, Rises, names, set_of}
use Rattle.bus_formats.specs.Accepted.{AreWords, IsRefusable, ListsOnly}
use Rattle.bus_formats.specs.declared.plan.Turn.{Turn}
use Rattle.bus_formats.specs.declared.plan.Turn.TheVariants.{Same, Other}
use Rattle.bus_plan.specs.Decode.{tables, words_from, filled, refusal_of, bits_from}
use Rattle.bus_plan.specs.DecodeItems.{turns_from}
use Rattle.bus_plan.specs.Described.{number, items_of, turn_text, numbers_in, positions_taken}
use Rattle.bus_plan.specs.Document.{number_within, number_or, number_in, lies_in}
use Rattle.bus_plan.specs.Positions.{rises, pushed, byte_range, positions_from}
use Rattle.bus_plan.specs.Ranges.{word_range, own_sub_range, code_range}
use Rattle.bus_plan.specs.Rules.{refusable, unless_obeyed, is_always_obeyed}
use Rattle.bus_plan.specs.declared.ranges.Range.{Range}
use Rattle.bus_plan.specs.declared.rows.Refusable.{Refusable}
use Rattle.bus_plan.specs.declared.rows.Refusable.TheVariants.{Subaddresses, ModeCodes}
use Rattle.bus_plan.proofs.ExactItems.{all_first, no-or, eqb-apart}
use Rattle.bus_plan.proofs.Flips.{low_first, first_high, rest_rises}
use Rattle.bus_plan.proofs.RangeLaws.{IsIn}

-- ---- numbers

pub lies-there : (range : Range) (n : ℕ) → IsIn range n → lies_in range n ≡ true
lies-there range n (low, high) = grind (arith, nat_tests, low, high)

pub within-back : (range : Range) (n : ℕ) → IsIn range n → number_within range (Some (number n)) ≡ Some n
within-back range n h = let e : lies_in range n ≡ true = lies-there range n h in rw e refl

pub number-back : (range : Range) (other n : ℕ) → IsIn range n → number_in range other (Some (number n)) ≡ n
number-back range other n h = let e : lies_in range n ≡ true = lies-there range n h in rw e refl

-- ---- lists

pushes : {T : Type 0} (most : ℕ) (xs : List T) (x : T) → length xs < most → pushed most xs x ≡ xs ++ x ∷ []
pushes most xs x h = let e : nat_lt (length xs) most ≡ true = grind (arith, nat_tests, h) in rw e refl

one-longer : {T : Type 0} (xs : List T) (x : T) → length (xs ++ x ∷ []) ≡ suc (length xs)
one-longer xs x = let e = length-append xs (x ∷ []) in omega (arith, e)

words-back : (before ws : List ℕ) → length before + length ws ≤ 32 → AreWords ws → words_from before (items_of number ws) ≡ before ++ ws
words-back before [] few h = sym (append-nil before)
words-back before (w ∷ ws) few h =
    let below : w < 65536 = all_first (λ w. w < 65536) w ws h in
    let same : number_in word_range 0 (Some (number w)) ≡ w = number-back word_range 0 w (omega arith, omega (arith, below)) in
    let longer : length (before ++ w ∷ []) ≡ suc (length before) = one-longer before w in
    ap (λ v. words_from (pushed 32 before v) (items_of number ws)) same
    ∙ ap (λ bs. words_from bs (items_of number ws)) (pushes 32 before w (omega (arith, few)))
    ∙ words-back (before ++ w ∷ []) ws (omega (arith, few, longer)) (All-tail (λ w. w < 65536) w ws h) ∙ append_assoc before (w ∷ []) ws

pub filled-back : (ws : List ℕ) → 1 ≤ length ws → filled ws ≡ ws
filled-back [] h = absurd (omega (arith, h))
filled-back (w ∷ ws) h = refl

pub block-back : (ws : List ℕ) → 1 ≤ length ws → length ws ≤ 32 → AreWords ws → filled (words_from [] (items_of number ws)) ≡ ws
block-back ws some few h = ap filled (words-back [] ws (omega (arith, few)) h) ∙ filled-back ws some

pub turns-back : (before ts : List Turn) → length before + length ts ≤ 3 → turns_from before (items_of turn_text ts) ≡ before ++ ts
turns-back before [] few = sym (append-nil before)
turns-back before (Same ∷ ts) few =
    let longer : length (before ++ Same ∷ []) ≡ suc (length before) = one-longer before Same in
    ap (λ bs. turns_from bs (items_of turn_text ts)) (pushes 3 before Same (omega (arith, few)))
    ∙ turns-back (before ++ Same ∷ []) ts (omega (arith, few, longer)) ∙ append_assoc before (Same ∷ []) ts
turns-back before (Other ∷ ts) few =
    let longer : length (before ++ Other ∷ []) ≡ suc (length before) = one-longer before Other in
    ap (λ bs. turns_from bs (items_of turn_text ts)) (pushes 3 before Other (omega (arith, few)))
    ∙ turns-back (before ++ Other ∷ []) ts (omega (arith, few, longer)) ∙ append_assoc before (Other ∷ []) ts

pub turns-read : (ts : List Turn) → length ts ≤ 3 → turns_from [] (items_of turn_text ts) ≡ ts
turns-read ts few = turns-back [] ts (omega (arith, few))

positions-from : (before ps : List ℕ) → length before + length ps ≤ 41 → All (λ p. p ≤ 255) ps
    → positions_from before (items_of number ps) ≡ before ++ ps
positions-from before [] few h = sym (append-nil before)
positions-from before (p ∷ ps) few h =
    let below : p ≤ 255 = all_first (λ p. p ≤ 255) p ps h in
    let same = number-back byte_range 255 p (omega arith, below) in
    let longer : length (before ++ p ∷ []) ≡ suc (length before) = one-longer before p in
    ap (λ v. positions_from (pushed 41 before v) (items_of number ps)) same
    ∙ ap (λ bs. positions_from bs (items_of number ps)) (pushes 41 before p (omega (arith, few)))
    ∙ positions-from (before ++ p ∷ []) ps (omega (arith, few, longer)) (All-tail (λ p. p ≤ 255) p ps h) ∙ append_assoc before (p ∷ []) ps

-- what is read from each table is what it was made of
pub tables-back : {X : Type 0} (f : Members → X) (g : X → Members) (xs : List X) → All (λ x. f (g x) ≡ x) xs
    → tables f (items_of (λ x. table (g x)) xs) ≡ xs
tables-back f g [] h = refl
tables-back f g (x ∷ xs) h =
    let first : f (g x) ≡ x = all_first (λ x. f (g x) ≡ x) x xs h in
    ap (λ y. y ∷ tables f (items_of (λ x. table (g x)) xs)) first
    ∙ ap (λ ys. x ∷ ys) (tables-back f g xs (All-tail (λ x. f (g x) ≡ x) x xs h))

-- ---- sets of numbers

none-max : (x : ℕ) → max 0 x ≡ x
none-max x = grind (arith)

max-none : (x : ℕ) → max x 0 ≡ x
max-none x = grind (arith)

-- the bits below n are those of the set, and those from n on are none
record IsBelow (set n bits : ℕ) : Type 0 where
  same : (i : ℕ) → i < n → bit_at bits i ≡ bit_at set i
  none : (i : ℕ) → n ≤ i → bit_at bits i ≡ 0

below-taken : (set n bits : ℕ) → bit_at set n ≡ 1 → IsBelow set n bits → IsBelow set (n + 1) (bit_or bits (2 ^ n))
below-taken set n bits one h = record {
  same = λ i less.
      elim (cases_eq i n) [
        | inl e ↦
            let both = bit_at_or bits (2 ^ n) n in
            let there : bit_at (2 ^ n) n ≡ 1 = bit_at-pow_same n in
            let absent : bit_at bits n ≡ 0 = h.none n (omega arith) in
            let made : bit_at (bit_or bits (2 ^ n)) n ≡ 1 = both ∙ ap (λ x. max x (bit_at (2 ^ n) n)) absent ∙ none-max (bit_at (2 ^ n) n) ∙ there in
            subst (λ j. bit_at (bit_or bits (2 ^ n)) j ≡ bit_at set j) (sym e) (made ∙ sym one)
        | inr ne ↦
            let both = bit_at_or bits (2 ^ n) i in
            let other : bit_at (2 ^ n) i ≡ 0 = bit_at-pow_other n i ne in
            let below : i < n = omega (arith, less, ne) in
            both ∙ ap (λ x. max (bit_at bits i) x) other ∙ max-none (bit_at bits i) ∙ h.same i below
      ];
  none = λ i above.
      let both = bit_at_or bits (2 ^ n) i in
      let other : bit_at (2 ^ n) i ≡ 0 = bit_at-pow_other n i (λ e. omega (arith, above, e)) in
      both ∙ ap (λ x. max (bit_at bits i) x) other ∙ max-none (bit_at bits i) ∙ h.none i (omega (arith, above));
}

below-left : (set n bits : ℕ) → bit_at set n ≡ 0 → IsBelow set n bits → IsBelow set (n + 1) bits
below-left set n bits zeros h = record {
  same = λ i less.
      elim (cases_eq i n) [
        | inl e ↦ subst (λ j. bit_at bits j ≡ bit_at set j) (sym e) (h.none n (omega arith) ∙ sym zeros)
        | inr ne ↦ h.same i (omega (arith, less, ne))
      ];
  none = λ i above. h.none i (omega (arith, above));
}

bit-none : (set n : ℕ) → (bit_at set n == 1) ≡ false → bit_at set n ≡ 0
bit-none set n h =
    let few = bit_at-lt set n in
    elim (cases_eq (bit_at set n) 1) [
      | inl e ↦ absurd (false≢true (sym h ∙ eq-eqb (bit_at set n) 1 e))
      | inr ne ↦ omega (arith, few, ne)
    ]

module _ (which : Refusable) (set : ℕ) (refuses : (n : ℕ) → bit_at set n ≡ 1 → refusal_of which (number n) ≡ n) where
  bits-step : (left n bits : ℕ) (b : Bool) → (bit_at set n == 1) ≡ b
      → ((m more : ℕ) → IsBelow set m more → IsBelow set (left + m) (bits_from which more (items_of number (numbers_in set m left))))
      → IsBelow set n bits
      → IsBelow set (suc left + n) (bits_from which bits (items_of number (cond b (n ∷ numbers_in set (n + 1) left) (numbers_in set (n + 1) left))))
  bits-step left n bits true e rest h =
      let one : bit_at set n ≡ 1 = eqb-true (bit_at set n) 1 e in
      let count : left + (n + 1) ≡ suc left + n = omega arith in
      subst (λ m. IsBelow set m (bits_from which bits (items_of number (n ∷ numbers_in set (n + 1) left)))) count
      (subst (λ v. IsBelow set (left + (n + 1)) (bits_from which (bit_or bits (2 ^ v)) (items_of number (numbers_in set (n + 1) left)))) (sym (refuses n one))
      (rest (n + 1) (bit_or bits (2 ^ n)) (below-taken set n bits one h)))
  bits-step left n bits false e rest h =
      let count : left + (n + 1) ≡ suc left + n = omega arith in
      subst (λ m. IsBelow set m (bits_from which bits (items_of number (numbers_in set (n + 1) left)))) count
      (rest (n + 1) bits (below-left set n bits (bit-none set n e) h))

  bits-from : (left n bits : ℕ) → IsBelow set n bits → IsBelow set (left + n) (bits_from which bits (items_of number (numbers_in set n left)))
  bits-from zero n bits h = let e : 0 + n ≡ n = omega arith in rw e h
  bits-from (suc left) n bits h = bits-step left n bits (bit_at set n == 1) refl (bits-from left) h

  by-place : (bits i : ℕ) (b : Bool) → nat_lt i 32 ≡ b → IsBelow set 32 bits → ((i : ℕ) → 32 ≤ i → bit_at set i ≡ 0) → bit_at bits i ≡ bit_at set i
  by-place bits i true e h small = h.same i (grind (arith, nat_tests, e))
  by-place bits i false e h small =
      let above : 32 ≤ i = grind (arith, nat_tests, e) in
      h.none i above ∙ sym (small i above)

  start-bits : IsBelow set 0 0
  start-bits = record { same = λ i less. absurd (omega (arith, less)); none = λ i above. bit_at-zero i }

  pub bits-back : ((i : ℕ) → 32 ≤ i → bit_at set i ≡ 0) → bits_from which 0 (items_of number (numbers_in set 0 32)) ≡ set
  bits-back small =
      let made : IsBelow set 32 (bits_from which 0 (items_of number (numbers_in set 0 32))) = bits-from 32 0 0 start-bits in
      same_from_bits (bits_from which 0 (items_of number (numbers_in set 0 32))) set
      (λ i. by-place (bits_from which 0 (items_of number (numbers_in set 0 32))) i (nat_lt i 32) refl made small)

-- a number of a set that lists only what may be refused is read as itself, and none is above 31
small-set : (P : ℕ → Type 0) (set : ℕ) → ((n : ℕ) → P n → n ≤ 31) → ListsOnly P set → (i : ℕ) → 32 ≤ i → bit_at set i ≡ 0
small-set P set few h i above =
    elim (cases_Bool (bit_at set i == 1)) [
      | inl holds ↦ let most = few i (h i (eqb-true (bit_at set i) 1 holds)) in absurd (omega (arith, above, most))
      | inr fails ↦ bit-none set i fails
    ]

sub-refused : (n : ℕ) → IsIn own_sub_range n → refusal_of Subaddresses (number n) ≡ n
sub-refused n h = ap (number_or 1) (within-back own_sub_range n h)

pub subs-back : (set : ℕ) → ListsOnly (IsIn own_sub_range) set → bits_from Subaddresses 0 (items_of number (numbers_in set 0 32)) ≡ set
subs-back set h =
    bits-back Subaddresses set (λ n one. sub-refused n (h n one))
    (small-set (IsIn own_sub_range) set (λ n r. omega (arith, r.1)) h)

not-obeyed : (n : ℕ) → IsRefusable n → is_always_obeyed n ≡ false
not-obeyed n h =
    no-or _ (n == 8)
    (no-or _ (n == 5) (no-or (n == 2) (n == 4) (eqb-apart n 2 h.status) (eqb-apart n 4 h.shutdown)) (eqb-apart n 5 h.override))
    (eqb-apart n 8 h.reset)

pub code-refused : (n : ℕ) → IsRefusable n → refusable ModeCodes (number n) ≡ Some n
code-refused n h =
    let e : is_always_obeyed n ≡ false = not-obeyed n h in
    ap unless_obeyed (within-back code_range n (omega arith, h.within)) ∙ rw e refl

pub codes-back : (set : ℕ) → ListsOnly IsRefusable set → bits_from ModeCodes 0 (items_of number (numbers_in set 0 32)) ≡ set
codes-back set h =
    bits-back ModeCodes set (λ n one. ap (number_or 0) (code-refused n (h n one)))
    (small-set IsRefusable set (λ n r. r.within) h)

-- ---- sets of positions

rest-up : (p : ℕ) (ps : List ℕ) → Rises (p ∷ ps) → Rises ps
rest-up p ps r i less =
    let e : suc i + 1 ≡ suc (i + 1) = omega arith in
    let up : get_or (p ∷ ps) (suc i) 0 < get_or (p ∷ ps) (suc i + 1) 0 = r (suc i) (omega (arith, less)) in
    (rw e at up)

above : (p : ℕ) (ps : List ℕ) → Rises (p ∷ ps) → (i : ℕ) → i < length ps → p < get_or ps i 0
above p ps r zero less = r 0 (omega (arith, less))
above p [] r (suc i) less = absurd (omega (arith, less))
above p (q ∷ qs) r (suc i) less =
    let first : p < q = r 0 (omega arith) in
    let later : q < get_or qs i 0 = above q qs (rest-up p (q ∷ qs) r) i (omega (arith, less)) in
    omega (arith, first, later)

pub rises-from : (low high : ℕ) (ps : List ℕ) → IsWithin low high ps → Rises ps → rises low high ps ≡ true
rises-from low high [] w r = refl
rises-from low high (p ∷ ps) w r =
    let first : (low ≤ p) × (p ≤ high) = w 0 (omega arith) in
    let rest : rises (suc p) high ps ≡ true =
    rises-from (suc p) high ps (λ i less. (above p ps r i less, (w (suc i) (omega (arith, less))).1)) (λ i less. rest-up p ps r i less) in
    and_from (nat_le low p && nat_le p high) (rises (suc p) high ps) (grind (arith, nat_tests, first)) rest

-- a list of positions that rise from n on, and the flags of the positions from n on
names-none : (n : ℕ) (ps : List ℕ) (low high : ℕ) → n < low → rises low high ps ≡ true → list_any (λ q. q == n) ps ≡ false
names-none n [] low high less h = refl
names-none n (p ∷ ps) low high less h =
    let l : low ≤ p = low_first low high p ps h in
    no-or (p == n) _ (eqb-apart p n (λ e. omega (arith, l, less, e))) (names-none n ps (suc p) high (omega (arith, l, less)) (rest_rises low high p ps h))

stays-out : (p : ℕ) (ps : List ℕ) (left n : ℕ) → p < n → map (names (p ∷ ps)) (range_with_len n left) ≡ map (names ps) (range_with_len n left)
unfolding names
stays-out p ps zero n less = refl
stays-out p ps (suc left) n less =
    let e : (p == n) ≡ false = eqb-apart p n (λ same. omega (arith, less, same)) in
    ap (λ b. (b || list_any (λ q. q == n) ps) ∷ map (names (p ∷ ps)) (range_with_len (n + 1) left)) e
    ∙ ap (λ xs. list_any (λ q. q == n) ps ∷ xs) (stays-out p ps left (n + 1) (omega (arith, less)))

higher : (n p high : ℕ) (ps : List ℕ) → n < p → rises n high (p ∷ ps) ≡ true → rises (n + 1) high (p ∷ ps) ≡ true
higher n p high ps less h = grind (arith, nat_tests, less, h)

-- the positions that a list names are that list
taken-step : (left n high p : ℕ) (ps : List ℕ) → ((m : ℕ) (qs : List ℕ) → rises m high qs ≡ true → high < m + left
    → positions_taken m (map (names qs) (range_with_len m left)) ≡ qs) → rises n high (p ∷ ps) ≡ true → high < n + suc left
    → positions_taken n (map (names (p ∷ ps)) (range_with_len n (suc left))) ≡ p ∷ ps
unfolding names
taken-step left n high p ps rest h room =
    let low : n ≤ p = low_first n high p ps h in
    elim (cases_eq p n) [
      | inl e ↦
          let here : ((p == n) || list_any (λ q. q == n) ps) ≡ true = rw (eq-eqb p n e) refl in
          let further : rises (n + 1) high ps ≡ true = subst (λ m. rises m high ps ≡ true) (omega (arith, e)) (rest_rises n high p ps h) in
          ap (λ b. cond b (n ∷ positions_taken (n + 1) (map (names (p ∷ ps)) (range_with_len (n + 1) left))) (positions_taken (n + 1) (map (names (p ∷ ps)) (range_with_len (n + 1) left)))) here
          ∙ ap (λ xs. n ∷ positions_taken (n + 1) xs) (stays-out p ps left (n + 1) (omega (arith, e)))
          ∙ ap (λ xs. n ∷ xs) (rest (n + 1) ps further (omega (arith, room))) ∙ ap (λ m. m ∷ ps) (sym e)
      | inr ne ↦
          let less : n < p = omega (arith, low, ne) in
          let more : rises (n + 1) high (p ∷ ps) ≡ true = higher n p high ps less h in
          let absent : list_any (λ q. q == n) (p ∷ ps) ≡ false = names-none n (p ∷ ps) (n + 1) high (omega arith) more in
          ap (λ b. cond b (n ∷ positions_taken (n + 1) (map (names (p ∷ ps)) (range_with_len (n + 1) left))) (positions_taken (n + 1) (map (names (p ∷ ps)) (range_with_len (n + 1) left)))) absent
          ∙ rest (n + 1) (p ∷ ps) more (omega (arith, room))
    ]

taken-back : (left n high : ℕ) (ps : List ℕ) → rises n high ps ≡ true → high < n + left
    → positions_taken n (map (names ps) (range_with_len n left)) ≡ ps
unfolding names
taken-back zero n high [] h room = refl
taken-back zero n high (p ∷ ps) h room =
    let low : n ≤ p = low_first n high p ps h in
    let most : p ≤ high = first_high n high p ps h in
    absurd (omega (arith, low, most, room))
taken-back (suc left) n high [] h room = taken-back left (n + 1) high [] refl (omega (arith, room))
taken-back (suc left) n high (p ∷ ps) h room = taken-step left n high p ps (λ m qs r more. taken-back left m high qs r more) h room

pub set-back : (high : ℕ) (ps : List ℕ) → rises 0 high ps ≡ true → high < 40 → positions_taken 0 (set_of ps) ≡ ps
unfolding set_of
set-back high ps h room = taken-back 40 0 high ps h (omega (arith, room))

low-enough : (ps : List ℕ) (high : ℕ) → high ≤ 39 → IsWithin 0 high ps → All (λ p. p ≤ 255) ps
low-enough ps high h w k d within =
    let same : get_or ps k d ≡ get_or ps k 0 = get_or_default ps k d 0 within in
    let most : get_or ps k 0 ≤ high = (w k within).1 in
    omega (arith, same, most, h)

pub list-back : (ps : List ℕ) → length ps ≤ 40 → IsWithin 0 39 ps → positions_from [] (items_of number ps) ≡ ps
list-back ps few w = positions-from [] ps (omega (arith, few)) (low-enough ps 39 (omega arith) w)
