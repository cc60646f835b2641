-- The slots behind the first, of those that are kept.
use Rattle.std.proofs.Common.{◌≡◌, ℕ, zero, suc, ◌≤◌, min, List, [], ◌∷◌, length, take, refl, ap, ◌∙◌, arith}
use Rattle.std.proofs.lemmas.List.{take_min}

take-fewer : {A : Type 0} (n m : ℕ) (xs : List A) → n ≤ m → take n (take m xs) ≡ take n xs
take-fewer zero m xs h = refl
take-fewer (suc n) zero xs h = absurd (omega (arith, h))
take-fewer (suc n) (suc m) [] h = refl
take-fewer (suc n) (suc m) (x ∷ xs) h = ap (λ ys. x ∷ ys) (take-fewer n m xs (omega (arith, h)))

-- the first 33 of the 34 that are kept
pub front-take : {A : Type 0} (kept whole : List A) (many : ℕ) → kept ≡ take 34 whole → many ≡ min (length kept) 33 → take many kept ≡ take 33 whole
front-take kept whole many is count =
    let swap : many ≡ min 33 (length kept) = omega (arith, count) in
    ap (λ n. take n kept) swap ∙ take_min 33 kept ∙ ap (take 33) is ∙ take-fewer 33 34 whole (omega arith)
