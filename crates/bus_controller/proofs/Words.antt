-- Data words that are kept one after the other.
use Rattle.std.proofs.Common.{◌≡◌, ℕ, ◌+◌, ◌<◌, ◌≤◌, List, [], ◌∷◌, ◌++◌, length, take, get_or, filter_map, Option, refl, sym, ap, ◌∙◌, arith, inl, inr, min, Bool, true, false, IsTrue, ◌↔◌}
use Rattle.std.proofs.lemmas.Bool.{cases_lt}
use Rattle.std.proofs.lemmas.List.{take_more, take-append-le, take_all, length-take, append-nil, length-append}
use Rattle.std.proofs.lemmas.List.Elements.{filter_map-append}

-- what has no room behind the first n is left out
pub take-again : {X : Type 0} (n : ℕ) (xs ys : List X) → take n (take n xs ++ ys) ≡ take n (xs ++ ys)
take-again {X} n xs ys = elim (cases_lt n (length xs)) [
  | inr few ↦ (let all : take n xs ≡ xs = take_all n xs few in rw all refl)
  | inl many ↦ (
      let long : length (take n xs) ≡ min n (length xs) = length-take n xs in
      take-append-le n (take n xs) ys (omega (arith, long, many))
      ∙ take_all n (take n xs) (omega (arith, long))
      ∙ sym (take-append-le n xs ys (omega (arith, many))))
]

-- one element more
pub keeps-more : {X : Type 0} (f : X → Option ℕ) (n : ℕ) (xs : List X) (i : ℕ) (x : X) → i < length xs → x ≡ get_or xs i x →
    take n (take n (filter_map f (take i xs)) ++ filter_map f (x ∷ [])) ≡ take n (filter_map f (take (i + 1) xs))
keeps-more {X} f n xs i x within is =
    let more : take (i + 1) xs ≡ take i xs ++ x ∷ [] = take_more xs i x within ∙ ap (λ y. take i xs ++ y ∷ []) (sym is) in
    take-again n (filter_map f (take i xs)) (filter_map f (x ∷ []))
    ∙ ap (take n) (sym (filter_map-append f (take i xs) (x ∷ [])) ∙ ap (filter_map f) (sym more))

pub take-room : {X : Type 0} (n : ℕ) (xs : List X) (x : X) → length xs < n → take n (xs ++ x ∷ []) ≡ xs ++ x ∷ []
take-room {X} n xs x room = take_all n (xs ++ x ∷ []) (let long : length (xs ++ x ∷ []) ≡ length xs + 1 = length-append xs (x ∷ []) in omega (arith, long, room))

pub take-full : {X : Type 0} (n : ℕ) (xs : List X) (x : X) → length xs ≡ n → take n (xs ++ x ∷ []) ≡ xs
take-full {X} n xs x full = take-append-le n xs (x ∷ []) (omega (arith, full)) ∙ take_all n xs (omega (arith, full))

pub take-none : {X : Type 0} (n : ℕ) (xs : List X) → length xs ≤ n → take n (xs ++ []) ≡ xs
take-none {X} n xs few = rw (append-nil xs) (take_all n xs few)

pub take-few : {X : Type 0} (n : ℕ) (xs : List X) → length (take n xs) ≤ n
take-few {X} n xs = let long : length (take n xs) ≡ min n (length xs) = length-take n xs in omega (arith, long)

pub keeps-at : {X : Type 0} (f : X → Option ℕ) (n : ℕ) (xs : List X) (i : ℕ) (d : X) (words : List ℕ) → i < length xs → words ≡ take n (filter_map f (take i xs)) →
    take n (words ++ filter_map f (get_or xs i d ∷ [])) ≡ take n (filter_map f (take (i + 1) xs))
keeps-at {X} f n xs i d words within are =
    rw are (take-again n (filter_map f (take i xs)) (filter_map f (get_or xs i d ∷ []))
    ∙ ap (take n) (sym (filter_map-append f (take i xs) (get_or xs i d ∷ [])) ∙ ap (filter_map f) (sym (take_more xs i d within))))

-- a push, where there may be no room
pub push-is : (old new : List ℕ) (w : ℕ) (r : Bool) → length old ≤ 32 → (IsTrue r ↔ (length old < 32)) → (r ≡ true → new ≡ old ++ w ∷ []) → (r ≡ false → new ≡ old) →
    new ≡ take 32 (old ++ w ∷ [])
push-is old new w true few room added full = added refl ∙ sym (take-room 32 old w (room.0 refl))
push-is old new w false few room added full = full refl ∙ sym (elim (cases_lt (length old) 32) [
  | inl less ↦ (let bad : false ≡ true = room.1 less in cc)
  | inr more ↦ take-full 32 old w (omega (arith, few, more))
])
