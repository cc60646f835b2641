-- Numbers by their bits, the highest first.
use Rattle.std.proofs.Common.{◌≡◌, ℕ, zero, suc, ◌+◌, ◌-◌, ◌*◌, ◌/◌, ◌%◌, ◌^◌, ◌<◌, ◌≤◌, Bool, true, false, if◌then◌else◌, ◌==◌, refl, sym, ap, ◌∙◌, arith, inl, inr, pow-suc, div-one, add-one}
use Rattle.std.proofs.lemmas.Bool.{eq-eqb, ne_eqb, eqb-true, eqb-false, cases_eq, cases_Bool}
use Rattle.std.proofs.lemmas.Nat.Bits.{bit_at-suc, bit_at-lt}
use Rattle.std.proofs.Math.Pow.{pow_mono}
use Rattle.std.specs.Int.{bit_at}
use mir.Val.{bool_byte}
use Rattle.bus_line.specs.Spelling.{is_one, number_of}

-- n bits make a number below 2 ^ n
pub number_below : (b : ℕ → Bool) (n : ℕ) → number_of b n < 2 ^ n
unfolding number_of
number_below b zero = omega arith
number_below b (suc n) = elim (cases_Bool (b n)) [
  | inl e ↦ rw e (omega (arith, number_below b n, pow-suc 2 n))
  | inr e ↦ rw e (omega (arith, number_below b n, pow-suc 2 n))
]

-- the first 16 bits make no number above their range
pub number_fits : (b : ℕ → Bool) (n : ℕ) → n < 16 → number_of b n < 32768
number_fits b n h = let m : 2 ^ n ≤ 2 ^ 15 = pow_mono (let k : n ≤ 15 = omega arith in k) in omega (arith, number_below b n, m)

-- a further bit doubles the number and adds itself, as the code computes it
pub number_more : (b : ℕ → Bool) (n : ℕ) → number_of b (n + 1) ≡ 2 * number_of b n + (if b n then 1 else 0)
unfolding number_of
number_more b n = rw add-one refl

-- one bit more, as the reader adds it
pub number_step : (b : ℕ → Bool) (n bits byte : ℕ) (r : Bool) → bits ≡ number_of b n → byte ≡ bool_byte r → r ≡ b n → bits * 2 + byte ≡ number_of b (n + 1)
number_step b n bits byte true e f g = rw (number_more b n, ← g) (omega arith)
number_step b n bits byte false e f g = rw (number_more b n, ← g) (omega arith)

-- without its last bit a number is half as great
number_half : (b : ℕ → Bool) (n : ℕ) → number_of b (suc n) / 2 ≡ number_of b n
unfolding number_of
number_half b n = elim (cases_Bool (b n)) [ inl e ↦ rw e (omega arith) | inr e ↦ rw e (omega arith) ]

-- the last bit is the lowest
number_last : (b : ℕ → Bool) (n : ℕ) → is_one (number_of b (suc n)) 0 ≡ b n
unfolding number_of
number_last b n = elim (cases_Bool (b n)) [
  | inl e ↦ rw e (eq-eqb ((2 * number_of b n + 1) / 2 ^ 0 % 2) 1 (simp div-one (omega arith)))
  | inr e ↦ rw e (ne_eqb ((2 * number_of b n + 0) / 2 ^ 0 % 2) 1 (λ q. omega (arith, div-one (2 * number_of b n + 0))))
]

-- the bits of the number of some bits are these
pub number_bit : (b : ℕ → Bool) (n i : ℕ) → i < n → is_one (number_of b n) (n - 1 - i) ≡ b i
number_bit b zero i h = absurd (omega arith)
number_bit b (suc n) i h = elim (cases_eq i n) [
  | inl e ↦ (let z : suc n - 1 - i ≡ 0 = omega arith in rw (z, e) (number_last b n))
  | inr e ↦ (
      let z : suc n - 1 - i ≡ suc (n - 1 - i) = omega arith in
      rw z (ap (λ x. x == 1) (bit_at-suc (number_of b (suc n)) (n - 1 - i) ∙ ap (λ x. bit_at x (n - 1 - i)) (number_half b n))
      ∙ number_bit b n i (omega arith)))
]

-- a bit as a number, and as a test
pub same_bit : (a b i j : ℕ) → is_one a i ≡ is_one b j → bit_at a i ≡ bit_at b j
same_bit a b i j h =
    let x : bit_at a i < 2 = bit_at-lt a i in
    let y : bit_at b j < 2 = bit_at-lt b j in
    elim (cases_Bool (is_one b j)) [
      | inl e ↦ (let p : bit_at a i ≡ 1 = eqb-true (bit_at a i) 1 (h ∙ e) in let q : bit_at b j ≡ 1 = eqb-true (bit_at b j) 1 e in p ∙ sym q)
      | inr e ↦ (
          let p : bit_at a i ≡ 1 → ⊥ = eqb-false (bit_at a i) 1 (h ∙ e) in
          let q : bit_at b j ≡ 1 → ⊥ = eqb-false (bit_at b j) 1 e in
          let u : bit_at a i ≡ 0 = omega arith in
          let v : bit_at b j ≡ 0 = omega arith in
          u ∙ sym v)
    ]
