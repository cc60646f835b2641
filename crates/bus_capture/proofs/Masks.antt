-- Bits as answers, and lanes at places that are written out.
use Rattle.std.proofs.Common.{◌≡◌, ℕ, zero, suc, ◌-◌, ◌^◌, ◌<◌, min, max, Bool, true, false, ◌==◌, ◌&&◌, ◌||◌, cond, eqb, T, List, length, map, get_or, refl, ap, ◌∙◌, arith, inl, inr, w64, eqb→eq}
use Rattle.std.specs.Int.{bit_at, trailing_ones}
use Rattle.std.proofs.lemmas.Bool.{cases_eq}
use Rattle.std.proofs.lemmas.List.{get_or-map}
use Rattle.std.proofs.lemmas.Nat.Bits.{bit_at_and, bit_at_or, bit_at-lt, bit_at_ones, bit_at-trailing_ones}
use Rattle.std.proofs.lemmas.Simd.{bit_mask_l}
use lib.Bits.{bit_and, bit_or}
use lib.Lanes.{mask_l}
use Rattle.bus_capture.specs.Blocks.{has_bit}

-- ---- one bit

by-bit : (P : ℕ → Type 0) → P 0 → P 1 → (x : ℕ) → x < 2 → P x
by-bit P p q zero h = p
by-bit P p q (suc zero) h = q
by-bit P p q (suc (suc r)) h = absurd (omega arith)

by-bits : (P : ℕ → ℕ → Type 0) → P 0 0 → P 0 1 → P 1 0 → P 1 1 → (a b i : ℕ) → P (bit_at a i) (bit_at b i)
by-bits P p q r s a b i =
    by-bit (λ x. P x (bit_at b i)) (by-bit (P 0) p q (bit_at b i) (bit_at-lt b i)) (by-bit (P 1) r s (bit_at b i) (bit_at-lt b i)) (bit_at a i) (bit_at-lt a i)

pub has-and : (a b i : ℕ) → has_bit (bit_and a b) i ≡ (has_bit a i && has_bit b i)
has-and a b i = ap (λ n. n == 1) (bit_at_and a b i) ∙ by-bits (λ x y. (min x y == 1) ≡ ((x == 1) && (y == 1))) refl refl refl refl a b i

pub has-or : (a b i : ℕ) → has_bit (bit_or a b) i ≡ (has_bit a i || has_bit b i)
has-or a b i = ap (λ n. n == 1) (bit_at_or a b i) ∙ by-bits (λ x y. (max x y == 1) ≡ ((x == 1) || (y == 1))) refl refl refl refl a b i

one-is : (b : Bool) → (cond b 1 0 == 1) ≡ b
one-is true = refl
one-is false = refl

pub has-mask : (ms : List Bool) (i : ℕ) → has_bit (mask_l ms) i ≡ get_or ms i false
has-mask ms i = ap (λ n. n == 1) (bit_mask_l ms i) ∙ one-is (get_or ms i false)

-- the bits below the lowest that isn't set
pub ones-are : (n i : ℕ) → n < 2 ^ 64 → i < trailing_ones w64 n → has_bit n i ≡ true
unfolding lib.Count.count_trailing_zeros
ones-are n i fits below = elim (cases_eq n (2 ^ 64 - 1)) [
  | inl all ↦ (
      let few : trailing_ones w64 n ≡ 64 = rw all refl in
      let at : bit_at (2 ^ 64 - 1) i ≡ 1 = bit_at_ones 64 i (omega (arith, few, below)) in
      rw all (ap (λ x. x == 1) at))
  | inr some ↦ ap (λ x. x == 1) ((bit_at-trailing_ones w64 n (omega (arith, fits, some))).2 i below)
]

-- ---- lanes

abbrev pub below : (ℕ → Bool) → ℕ → Bool
below p zero = true
below p (suc n) = p n && below p n

and-left : (a b : Bool) → T (a && b) → T a
and-left true b t = tt
and-left false b t = t

and-right : (a b : Bool) → T (a && b) → T b
and-right true b t = t
and-right false b t = absurd t

every : (p : ℕ → Bool) (n : ℕ) → T (below p n) → (i : ℕ) → i < n → T (p i)
every p zero all i h = absurd (omega (arith, h))
every p (suc n) all i h = elim (cases_eq i n) [
  | inl here ↦ rw here (and-left (p n) (below p n) all)
  | inr other ↦ every p n (and-right (p n) (below p n) all) i (omega (arith, h, other))
]

-- the lanes at written places
pub picked : (both places : List ℕ) (f : ℕ → ℕ) → length places ≡ 64 → T (below (λ i. eqb (get_or places i 0) (f i)) 64) → (i : ℕ) → i < 64 →
    get_or (map (λ k. get_or both k 0) places) i 0 ≡ get_or both (f i) 0
picked both places f long all i h =
    get_or-map (λ k. get_or both k 0) places i 0 0 (omega (arith, long, h))
    ∙ ap (λ k. get_or both k 0) (eqb→eq (get_or places i 0) (f i) (every (λ i. eqb (get_or places i 0) (f i)) 64 all i h))
