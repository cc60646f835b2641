-- Two lists item by item.
use Rattle.std.proofs.Common.{◌≡◌, inl, inr, ℕ, true, List, [], ◌∷◌, Some, subst}
use Rattle.std.proofs.lemmas.List.Elements.{All-head, All-tail}
use Rattle.std.specs.List.{All}
use Rattle.std.specs.Prelude.{Bool, filter, slice_get}
use Rattle.bus_law_phases.specs.Pairing.{Beside}
use Rattle.bus_law_table.proofs.Pairing.{Each, Has, has-filter}

-- a fact of each item, in both forms
pub each-of : {X : Type 0} (P : X → Type 0) (xs : List X) → All P xs → Each P xs
each-of P [] all = tt
each-of P (x ∷ xs) all = (All-head P x xs all, each-of P xs (All-tail P x xs all))

-- the item that stands beside one, with a fact of it
beside-has : {X Y : Type 0} (R : X → Y → Type 0) (Q : Y → Type 0) (xs : List X) (ys : List Y) (x : X) → Beside R xs ys → Each Q ys →
    Has (λ z. z ≡ x) xs → (y : Y) × R x y × Q y
beside-has R Q [] ys x pairs facts has = absurd has
beside-has R Q (z ∷ xs) [] x pairs facts has = absurd pairs
beside-has R Q (z ∷ xs) (y ∷ ys) x pairs facts has = elim has [
  | inl same ↦ (y, subst (λ v. R v y) same pairs.0, facts.0)
  | inr later ↦ beside-has R Q xs ys x pairs.1 facts.1 later
]

-- of a list of those that pass a test
pub beside-at : {X Y : Type 0} (R : X → Y → Type 0) (Q : Y → Type 0) (p : X → Bool) (xs : List X) (ys : List Y) (i : ℕ) (x : X) →
    Beside R (filter p xs) ys → Each Q ys → slice_get xs i ≡ Some x → p x ≡ true → (y : Y) × R x y × Q y
beside-at R Q p xs ys i x pairs facts there passes = beside-has R Q (filter p xs) ys x pairs facts (has-filter p xs i x there passes)

-- a fact of two items that follows from another one
pub beside-with : {X Y : Type 0} (R S : X → Y → Type 0) (Q : Y → Type 0) (xs : List X) (ys : List Y) → Beside R xs ys → Each Q ys →
    ((x : X) (y : Y) → R x y → Q y → S x y) → Beside S xs ys
beside-with R S Q [] [] pairs facts make = tt
beside-with R S Q [] (y ∷ ys) pairs facts make = absurd pairs
beside-with R S Q (x ∷ xs) [] pairs facts make = absurd pairs
beside-with R S Q (x ∷ xs) (y ∷ ys) pairs facts make = (make x y pairs.0 facts.0, beside-with R S Q xs ys pairs.1 facts.1 make)
