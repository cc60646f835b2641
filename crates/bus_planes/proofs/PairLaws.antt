-- The seventeen pairs after the sync, tested and read all at once.
use Rattle.std.proofs.Common.{◌≡◌, ℕ, zero, suc, ◌+◌, ◌-◌, ◌*◌, ◌/◌, ◌%◌, ◌<◌, min, Bool, true, false, not, ◌==◌, ◌&&◌, ◌||◌, eqb, ltb, T, refl, sym, ap, ◌∙◌, arith, inl, inr, ◌⊎◌, eqb→eq, ltb→lt}
use Rattle.std.specs.Int.{bit_at}
use Rattle.std.proofs.lemmas.Bool.{cases_eq, cases_lt}
use Rattle.std.proofs.lemmas.Nat.Bits.{bit_at_and, bit_at_xor, bit_at-suc, bit_at-lt, bit_at_above, same_from_bits}
use lib.Bits.{bit_and, bit_xor}
use Rattle.bus_words.specs.declared.word.Word.{Word}
use Rattle.bus_line.specs.Spelling.{Spells, SpellsBit, is_one, number_of}
use Rattle.bus_planes.specs.Bits.{ArePairs, shown}
use Rattle.bus_line.proofs.Numbers.{number_bit}
use Rattle.bus_planes.proofs.Shown.{pair-spells, spells-pair}

-- ---- a test of each of so many numbers

abbrev pub below : (ℕ → Bool) → ℕ → Bool
below p zero = true
below p (suc n) = p n && below p n

and-left : (a b : Bool) → T (a && b) → T a
and-left true b t = tt
and-left false b t = t

and-right : (a b : Bool) → T (a && b) → T b
and-right true b t = t
and-right false b t = absurd t

every : (p : ℕ → Bool) (n : ℕ) → T (below p n) → (i : ℕ) → i < n → T (p i)
every p zero all i h = absurd (omega (arith, h))
every p (suc n) all i h = elim (cases_eq i n) [
  | inl here ↦ rw here (and-left (p n) (below p n) all)
  | inr other ↦ every p n (and-right (p n) (below p n) all) i (omega (arith, h, other))
]

-- ---- the mask of the pairs

abbrev pairs_mask : ℕ
pairs_mask = 366503875904

mask-is : (i : ℕ) → i < 17 → bit_at pairs_mask (6 + 2 * i) ≡ 1
mask-is i h = eqb→eq (bit_at pairs_mask (6 + 2 * i)) 1 (every (λ i. eqb (bit_at pairs_mask (6 + 2 * i)) 1) 17 tt i h)

either : (a b : Bool) → T (a || b) → T a ⊎ T b
either true b t = inl t
either false b t = inr t

mask-only : (j : ℕ) → j < 39 → (bit_at pairs_mask j ≡ 0) ⊎ ((i : ℕ) × (i < 17) × (j ≡ 6 + 2 * i))
mask-only j h =
    let test : T (eqb (bit_at pairs_mask j) 0 || (eqb j (6 + 2 * ((j - 6) / 2)) && ltb ((j - 6) / 2) 17)) =
    every (λ j. eqb (bit_at pairs_mask j) 0 || (eqb j (6 + 2 * ((j - 6) / 2)) && ltb ((j - 6) / 2) 17)) 39 tt j h in
    elim (either (eqb (bit_at pairs_mask j) 0) (eqb j (6 + 2 * ((j - 6) / 2)) && ltb ((j - 6) / 2) 17) test) [
      | inl none ↦ inl (eqb→eq (bit_at pairs_mask j) 0 none)
      | inr some ↦ inr (
        (j - 6) / 2,
        ltb→lt ((j - 6) / 2) 17 (and-right (eqb j (6 + 2 * ((j - 6) / 2))) (ltb ((j - 6) / 2) 17) some),
        eqb→eq j (6 + 2 * ((j - 6) / 2)) (and-left (eqb j (6 + 2 * ((j - 6) / 2))) (ltb ((j - 6) / 2) 17) some),
      )
    ]

-- ---- a bit that differs from the next

differ : (plus j : ℕ) → bit_at (bit_xor plus (plus / 2)) j ≡ (bit_at plus j + bit_at plus (suc j)) % 2
differ plus j = bit_at_xor plus (plus / 2) j ∙ ap (λ b. (bit_at plus j + b) % 2) (sym (bit_at-suc plus j))

-- by what two bits are
other-bit : (a b : ℕ) → a < 2 → b < 2 → (a + b) % 2 ≡ 1 → (b == 1) ≡ not (a == 1)
other-bit zero zero p q e = absurd (omega (arith, e))
other-bit zero (suc zero) p q e = refl
other-bit (suc zero) zero p q e = refl
other-bit (suc zero) (suc zero) p q e = absurd (omega (arith, e))
other-bit (suc (suc a)) b p q e = absurd (omega (arith, p))
other-bit zero (suc (suc b)) p q e = absurd (omega (arith, q))
other-bit (suc zero) (suc (suc b)) p q e = absurd (omega (arith, q))

bit-other : (a b : ℕ) → a < 2 → b < 2 → (b == 1) ≡ not (a == 1) → (a + b) % 2 ≡ 1
bit-other zero zero p q e = absurd (cc)
bit-other zero (suc zero) p q e = refl
bit-other (suc zero) zero p q e = refl
bit-other (suc zero) (suc zero) p q e = absurd (cc)
bit-other (suc (suc a)) b p q e = absurd (omega (arith, p))
bit-other zero (suc (suc b)) p q e = absurd (omega (arith, q))
bit-other (suc zero) (suc (suc b)) p q e = absurd (omega (arith, q))

-- ---- the test

pub pairs-tested : (plus : ℕ) → bit_and (bit_xor plus (plus / 2)) pairs_mask ≡ pairs_mask → ArePairs plus
pairs-tested plus e i h =
    let j : ℕ = 6 + 2 * i in
    let x : ℕ = bit_at (bit_xor plus (plus / 2)) j in
    let both : min x (bit_at pairs_mask j) ≡ bit_at pairs_mask j = sym (bit_at_and (bit_xor plus (plus / 2)) pairs_mask j) ∙ ap (λ n. bit_at n j) e in
    let one : bit_at pairs_mask j ≡ 1 = mask-is i h in
    let few : x < 2 = bit_at-lt (bit_xor plus (plus / 2)) j in
    let set : x ≡ 1 = omega (arith, both, one, few) in
    other-bit (bit_at plus j) (bit_at plus (suc j)) (bit_at-lt plus j) (bit_at-lt plus (suc j)) (sym (differ plus j) ∙ set)

pub pairs-pass : (plus : ℕ) → ArePairs plus → bit_and (bit_xor plus (plus / 2)) pairs_mask ≡ pairs_mask
pairs-pass plus pairs = same_from_bits (bit_and (bit_xor plus (plus / 2)) pairs_mask) pairs_mask (λ j.
    let at : bit_at (bit_and (bit_xor plus (plus / 2)) pairs_mask) j ≡ min (bit_at (bit_xor plus (plus / 2)) j) (bit_at pairs_mask j) = bit_at_and (bit_xor plus (plus / 2)) pairs_mask j in
    elim (cases_lt j 39) [
      | inl low ↦ elim (mask-only j low) [
        | inl none ↦ omega (arith, at, none)
        | inr some ↦ (
            let set : bit_at (bit_xor plus (plus / 2)) j ≡ 1 =
            differ plus j ∙ bit-other (bit_at plus j) (bit_at plus (suc j)) (bit_at-lt plus j) (bit_at-lt plus (suc j)) (rw some.2 (pairs some.0 some.1)) in
            let few : bit_at pairs_mask j < 2 = bit_at-lt pairs_mask j in
            omega (arith, at, set, few))
      ]
      | inr high ↦ (let none : bit_at pairs_mask j ≡ 0 = bit_at_above pairs_mask 39 j (omega arith) high in omega (arith, at, none))
    ])

-- ---- what the pairs spell

pub pairs-spell : (plus bits : ℕ) → ArePairs plus → bits ≡ number_of (λ i. is_one plus (6 + 2 * i)) 16 →
    (i : ℕ) → i < 16 → SpellsBit (shown plus) (6 + 2 * i) (is_one bits (15 - i))
pairs-spell plus bits pairs e i h =
    let one : is_one bits (15 - i) ≡ is_one plus (6 + 2 * i) =
    ap (λ n. is_one n (15 - i)) e ∙ number_bit (λ i. is_one plus (6 + 2 * i)) 16 i h in
    rw one (pair-spells plus (6 + 2 * i) (is_one plus (6 + 2 * i)) (omega (arith, h)) refl (pairs i (omega (arith, h))))

pub last-spells : (plus : ℕ) → ArePairs plus → SpellsBit (shown plus) 38 (is_one plus 38)
last-spells plus pairs = pair-spells plus 38 (is_one plus 38) (omega arith) refl (pairs 16 (omega arith))

-- where a word is spelled all pairs are bits
pub spelled-pairs : (plus : ℕ) (word : Word) → Spells word (shown plus) → ArePairs plus
spelled-pairs plus word s i h = elim (cases_lt i 16) [
  | inl low ↦ (
      let both = spells-pair plus (6 + 2 * i) (is_one word.bits (15 - i)) (omega (arith, h)) (s.bits i low) in
      both.1 ∙ ap not (sym both.0))
  | inr high ↦ (
      let at : i ≡ 16 = omega (arith, h, high) in
      let both = spells-pair plus 38 s.further (omega arith) s.parity in
      rw at (both.1 ∙ ap not (sym both.0)))
]
