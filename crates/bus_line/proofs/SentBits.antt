-- The ones among the bits that a word sends, and those of two words together.
use Rattle.std.proofs.Common.{◌≡◌, ℕ, zero, suc, ◌+◌, ◌-◌, ◌*◌, ◌/◌, ◌%◌, ◌^◌, ◌<◌, ◌≤◌, Bool, true, false, if◌then◌else◌, ◌==◌, List, count_ones, refl, sym, ap, ◌∙◌, arith, inl, inr}
use Rattle.std.proofs.lemmas.Bool.{eq-eqb, ne_eqb, cases_eq}
use Rattle.std.proofs.lemmas.Nat.{ones-le, shr-shr}
use lib.Count.{ones_step}
use Rattle.bus_base.specs.Flips.{takes, pairs_taken}
use Rattle.bus_words.specs.declared.word.Word.{Word}
use Rattle.bus_line.specs.Spelling.{sent_bit}
use Rattle.bus_line.proofs.Spelled.{sent_low, sent_last, odd_with}

-- whether two bits differ
abbrev pub differ : Bool → Bool → Bool
differ true true = false
differ true false = true
differ false true = true
differ false false = false

-- how many of the first n bits sent are one
pub ones_sent : Word → ℕ → ℕ
ones_sent w zero = 0
ones_sent w (suc n) = ones_sent w n + (if sent_bit w n then 1 else 0)

-- a further bit sent adds itself
pub ones_more : (w : Word) (n : ℕ) → ones_sent w (suc n) ≡ ones_sent w n + (if sent_bit w n then 1 else 0)
unfolding ones_sent
ones_more w n = refl

-- the lowest bit of a number as a count
one_counted : (m : ℕ) → (if m % 2 == 1 then 1 else 0) ≡ m % 2
one_counted m = elim (cases_eq (m % 2) 1) [
  | inl e ↦ (let t : (m % 2 == 1) ≡ true = eq-eqb (m % 2) 1 e in rw t (sym e))
  | inr e ↦ (let t : (m % 2 == 1) ≡ false = ne_eqb (m % 2) 1 e in rw t (omega arith))
]

-- bits that are left of a number, one fewer at a time
half_more : (b n : ℕ) → n < 16 → b / 2 ^ (15 - n) / 2 ≡ b / 2 ^ (16 - n)
half_more b n h = let e : (15 - n) + 1 ≡ 16 - n = omega arith in rw e at (shr-shr b (15 - n) 1)

-- no bit sent has no ones
pub ones_none : (w : Word) → ones_sent w 0 ≡ count_ones 0
unfolding ones_sent
ones_none w = omega (arith, ones-le 0 0 (omega arith))

-- the first n bits sent have the ones of the number that they make
ones_of_bits : (w : Word) → w.bits < 65536 → (n : ℕ) → n ≤ 16 → ones_sent w n ≡ count_ones (w.bits / 2 ^ (16 - n))
ones_of_bits w h zero q = let z : w.bits / 65536 ≡ 0 = omega arith in rw z (ones_none w)
ones_of_bits w h (suc n) q =
    let before = ones_of_bits w h n (omega arith) in
    let step = ones_step (w.bits / 2 ^ (15 - n)) in
    let half = half_more w.bits n (omega arith) in
    let bit : sent_bit w n ≡ (w.bits / 2 ^ (15 - n) % 2 == 1) = sent_low w n (omega arith) in
    let counted = one_counted (w.bits / 2 ^ (15 - n)) in
    let place : 16 - suc n ≡ 15 - n = omega arith in
    rw (ones_more w n, bit, place) (omega (arith, before, step, ap count_ones half, counted))

-- the sixteen bits sent have the ones of the word's number
pub count_sent : (w : Word) → w.bits < 65536 → ones_sent w 16 ≡ count_ones w.bits
count_sent w h = let one : w.bits / 2 ^ 0 ≡ w.bits = omega arith in ones_of_bits w h 16 (omega arith) ∙ ap count_ones one

-- what is sent has an odd number of ones
pub ones_odd : (w : Word) → w.bits < 65536 → ones_sent w 17 % 2 ≡ 1
ones_odd w h =
    let all = ones_of_bits w h 16 (omega arith) in
    let one : w.bits / 2 ^ 0 ≡ w.bits = omega arith in
    rw (ones_more w 16, sent_last w, all, one) (odd_with (count_ones w.bits))

-- one bit of two words, and whether they differ, add an even number
differ_even : (a b : Bool) (m n k : ℕ) → (m + n + k) % 2 ≡ 0 → ((m + (if a then 1 else 0)) + (n + (if b then 1 else 0)) + (k + (if differ a b then 1 else 0))) % 2 ≡ 0
differ_even true true m n k h = omega arith
differ_even true false m n k h = omega arith
differ_even false true m n k h = omega arith
differ_even false false m n k h = omega arith

-- where the pairs taken are those at which two words differ, the words' ones and the pairs are even together
pub evens : (set : List Bool) (w v : Word) (n : ℕ) → ((i : ℕ) → i < n → takes set (6 + 2 * i) ≡ differ (sent_bit w i) (sent_bit v i)) →
    (ones_sent w n + ones_sent v n + pairs_taken set n) % 2 ≡ 0
evens set w v zero h = rw (ones_none w, ones_none v) (omega (arith, ones-le 0 0 (omega arith)))
evens set w v (suc n) h =
    rw (ones_more w n, ones_more v n, h n (omega arith))
    (differ_even (sent_bit w n) (sent_bit v n) (ones_sent w n) (ones_sent v n) (pairs_taken set n) (evens set w v n (λ i q. h i (omega arith))))
