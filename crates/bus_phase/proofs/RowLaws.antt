-- What becomes of the samples that wait.
use Rattle.std.proofs.Common.{◌≡◌, ℕ, zero, suc, ◌+◌, ◌-◌, ◌≤◌, List, [], ◌∷◌, ◌++◌, length, take, drop, refl, ap, ◌∙◌, arith, append_assoc, append-nil}
use Rattle.std.specs.Prelude.{replicate}
use Rattle.std.proofs.lemmas.List.{take-take, take_all, take-append-le, length-take-le, replicate-append-replicate}
use Rattle.bus_base.specs.declared.samples.Sample.{Sample}
use Rattle.bus_phase.specs.Rows.{fit}

-- the first samples of an array whose first was moved to its end are those after the first
pub take_after_first : (n : ℕ) (xs : List Sample) → suc n ≤ length xs → take n (drop 1 xs ++ take 1 xs) ≡ drop 1 (take (suc n) xs)
take_after_first n [] h = absurd (omega arith)
take_after_first n (x ∷ xs) h = take-append-le n xs (x ∷ []) (omega arith)

-- a row that is long enough is cut
pub fit_cut : (n : ℕ) (level : Sample) (xs : List Sample) → n ≤ length xs → fit n level xs ≡ take n xs
fit_cut n level xs h =
    let none : n - length xs ≡ 0 = omega arith in
    ap (λ k. take n xs ++ replicate k level) none ∙ append-nil (take n xs)

-- a front of an array, cut further, is a shorter front of it
pub fit_of_front : (n count : ℕ) (level : Sample) (xs : List Sample) → n ≤ count → count ≤ length xs → fit n level (take count xs) ≡ take n xs
fit_of_front n count level xs h within =
    let len : length (take count xs) ≡ count = length-take-le count xs within in
    fit_cut n level (take count xs) (omega (arith, len)) ∙ take-take n count xs h

-- one level more after those that were written
pub level_more : (front : List Sample) (level : Sample) (n : ℕ) → (front ++ replicate n level) ++ (level ∷ []) ≡ front ++ replicate (n + 1) level
level_more front level n = append_assoc front (replicate n level) (level ∷ []) ∙ ap (λ l. front ++ l) (replicate-append-replicate n 1 level)

-- a front of an array that is made longer goes on with the level
pub fit_long : (n from : ℕ) (level : Sample) (xs : List Sample) → from ≤ n → n ≤ length xs →
    fit n level (take from xs) ≡ take from xs ++ replicate (n - from) level
fit_long n from level xs order within =
    let len : length (take from xs) ≡ from = length-take-le from xs (omega arith) in
    let whole : take n (take from xs) ≡ take from xs = take_all n (take from xs) (omega (arith, len)) in
    rw (whole, len) refl

-- the array without its first sample, which was moved to its end
pub rest_of_front : (count : ℕ) (xs : List Sample) → (count ≡ 0 → ⊥) → count ≤ length xs →
    take (count - 1) (drop 1 xs ++ take 1 xs) ≡ drop 1 (take count xs)
rest_of_front zero xs some within = absurd (some refl)
rest_of_front (suc n) xs some within =
    let one : suc n - 1 ≡ n = omega arith in
    ap (λ k. take k (drop 1 xs ++ take 1 xs)) one ∙ take_after_first n xs within
