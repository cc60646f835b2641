-- The first halves of four pairs at once.
use Rattle.std.proofs.Common.{◌≡◌, ℕ, ◌+◌, ◌*◌, ◌/◌, ◌%◌, ◌^◌, ◌<◌, Bool, List, map, get_or, refl, sym, ap, ◌∙◌, arith, ◌==◌}
use Rattle.std.specs.List.{range_with_len}
use Rattle.std.specs.Int.{bit_at}
use Rattle.std.proofs.Math.Nat.{div-div-eq-div-mul}
use Rattle.std.proofs.lemmas.Nat.{pow-add}
use Rattle.std.proofs.lemmas.Nat.Bits.{bit_at_cat_low}
use Rattle.std.proofs.lemmas.List.FromFn.{get_or-map-range_with_len}
use Rattle.bus_line.specs.Spelling.{is_one, number_of}

-- the number of the first halves of the four pairs that eight bits are
abbrev pub of_four : ℕ → ℕ
of_four bits = number_of (λ i. is_one bits (2 * i)) 4

-- those of all eight bits
abbrev pub each_of_four : List ℕ
each_of_four = map of_four (range_with_len 0 256)

-- eight bits from a place on
bit-from : (plus place i : ℕ) → i < 8 → is_one (plus / 2 ^ place % 256) i ≡ is_one plus (place + i)
bit-from plus place i h =
    let q : ℕ = plus / 2 ^ place in
    let parts : q / 256 * 2 ^ 8 + q % 256 ≡ q = omega arith in
    let low : bit_at (q % 256) i ≡ bit_at q i = sym (bit_at_cat_low (q / 256) 8 (q % 256) i h) ∙ ap (λ n. bit_at n i) parts in
    let moved : q / 2 ^ i ≡ plus / 2 ^ (place + i) = div-div-eq-div-mul plus (2 ^ place) (2 ^ i) ∙ ap (λ d. plus / d) (sym (pow-add 2 place i)) in
    ap (λ b. b == 1) (low ∙ ap (λ n. n % 2) moved)

same-four : (p q : ℕ → Bool) → ((i : ℕ) → i < 4 → p i ≡ q i) → number_of p 4 ≡ number_of q 4
unfolding number_of
same-four p q same = rw (same 0 (omega arith), same 1 (omega arith), same 2 (omega arith), same 3 (omega arith)) refl

pub four-found : (plus place : ℕ) → get_or each_of_four (plus / 2 ^ place % 256) 0 ≡ number_of (λ i. is_one plus (place + 2 * i)) 4
four-found plus place =
    get_or-map-range_with_len of_four 0 256 (plus / 2 ^ place % 256) (plus / 2 ^ place % 256) 0 (omega arith) (omega arith)
    ∙ same-four (λ i. is_one (plus / 2 ^ place % 256) (2 * i)) (λ i. is_one plus (place + 2 * i)) (λ i h. bit-from plus place (2 * i) (omega (arith, h)))

pub sixteen-of-fours : (plus : ℕ) →
    number_of (λ i. is_one plus (6 + 2 * i)) 4 * 4096 + number_of (λ i. is_one plus (14 + 2 * i)) 4 * 256
    + number_of (λ i. is_one plus (22 + 2 * i)) 4 * 16 + number_of (λ i. is_one plus (30 + 2 * i)) 4
    ≡ number_of (λ i. is_one plus (6 + 2 * i)) 16
unfolding number_of
sixteen-of-fours plus = omega arith
