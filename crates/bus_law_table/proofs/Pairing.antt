-- Two lists of one length, item by item.
use Rattle.std.proofs.Common.{◌≡◌, ◌⊎◌, inl, inr, ℕ, zero, suc, Bool, true, false, List, [], ◌∷◌, map, Option, Some, None, refl, ap, ◌∙◌}
use Rattle.std.proofs.lemmas.Bool.{true≢false}
use Rattle.std.proofs.lemmas.Option.{none-some, same_Some}
use Rattle.std.specs.Prelude.{filter, filter_map, slice_get}

-- a fact of each item, and one of each item with the one at its place in the other list
abbrev pub Each : {X : Type 0} → (X → Type 0) → List X → Type 0
Each P [] = Unit {0}
Each P (x ∷ xs) = P x × Each P xs

abbrev pub Beside : {X Y : Type 0} → (X → Y → Type 0) → List X → List Y → Type 0
Beside R [] [] = Unit {0}
Beside R (x ∷ xs) (y ∷ ys) = R x y × Beside R xs ys
Beside R _ _ = ⊥

same-first : {X : Type 0} (x y : X) (xs ys : List X) → (x ∷ xs) ≡ (y ∷ ys) → x ≡ y
same-first x y xs ys same = cc

same-later : {X : Type 0} (x y : X) (xs ys : List X) → (x ∷ xs) ≡ (y ∷ ys) → xs ≡ ys
same-later x y xs ys same = cc

-- items with the same image stand beside one another
pub beside : {X Y Z : Type 0} (P : X → Type 0) (R : X → Y → Type 0) (f : X → Z) (g : Y → Z) (xs : List X) (ys : List Y) → Each P xs →
    map f xs ≡ map g ys → ((x : X) (y : Y) → P x → f x ≡ g y → R x y) → Beside R xs ys
beside P R f g [] [] each same make = tt
beside P R f g [] (y ∷ ys) each same make = absurd (cc)
beside P R f g (x ∷ xs) [] each same make = absurd (cc)
beside P R f g (x ∷ xs) (y ∷ ys) each same make = (
  make x y each.0 (same-first (f x) (g y) (map f xs) (map g ys) same),
  beside P R f g xs ys each.1 (same-later (f x) (g y) (map f xs) (map g ys) same) make,
)

-- so are their images under functions that agree beside
pub beside-map : {X Y Z : Type 0} (R : X → Y → Type 0) (f : X → Z) (g : Y → Z) (xs : List X) (ys : List Y) → Beside R xs ys →
    ((x : X) (y : Y) → R x y → f x ≡ g y) → map f xs ≡ map g ys
beside-map R f g [] [] pairs agree = refl
beside-map R f g [] (y ∷ ys) pairs agree = absurd pairs
beside-map R f g (x ∷ xs) [] pairs agree = absurd pairs
beside-map R f g (x ∷ xs) (y ∷ ys) pairs agree =
    ap (λ z. z ∷ map f xs) (agree x y pairs.0) ∙ ap (λ zs. g y ∷ zs) (beside-map R f g xs ys pairs.1 agree)

pub beside-filter_map : {X Y Z : Type 0} (R : X → Y → Type 0) (f : X → Option Z) (g : Y → Option Z) (xs : List X) (ys : List Y) → Beside R xs ys →
    ((x : X) (y : Y) → R x y → f x ≡ g y) → filter_map f xs ≡ filter_map g ys
beside-filter_map R f g [] [] pairs agree = refl
beside-filter_map R f g [] (y ∷ ys) pairs agree = absurd pairs
beside-filter_map R f g (x ∷ xs) [] pairs agree = absurd pairs
beside-filter_map R f g (x ∷ xs) (y ∷ ys) pairs agree =
    rw (agree x y pairs.0, beside-filter_map R f g xs ys pairs.1 agree) refl

pub each-other : {X Y : Type 0} (R : X → Y → Type 0) (Q : Y → Type 0) (xs : List X) (ys : List Y) → Beside R xs ys → ((x : X) (y : Y) → R x y → Q y) → Each Q ys
each-other R Q [] [] pairs tell = tt
each-other R Q [] (y ∷ ys) pairs tell = absurd pairs
each-other R Q (x ∷ xs) [] pairs tell = absurd pairs
each-other R Q (x ∷ xs) (y ∷ ys) pairs tell = (tell x y pairs.0, each-other R Q xs ys pairs.1 tell)

-- ---- lists of one kind

pub map-map : {X Y Z : Type 0} (f : Y → Z) (g : X → Y) (xs : List X) → map f (map g xs) ≡ map (λ x. f (g x)) xs
map-map f g [] = refl
map-map f g (x ∷ xs) = ap (λ zs. f (g x) ∷ zs) (map-map f g xs)

pub filter_map-map : {X Y Z : Type 0} (f : Y → Option Z) (g : X → Y) (xs : List X) → filter_map f (map g xs) ≡ filter_map (λ x. f (g x)) xs
filter_map-map f g [] = refl
filter_map-map f g (x ∷ xs) = rw (filter_map-map f g xs) refl

pub none-each : {X Y : Type 0} (P : X → Type 0) (f : X → Option Y) (xs : List X) → Each P xs → ((x : X) → P x → f x ≡ None) → filter_map f xs ≡ []
none-each P f [] each none = refl
none-each P f (x ∷ xs) each none = rw (none x each.0) (none-each P f xs each.1 none)

filter-one : {X : Type 0} (P : X → Type 0) (p : X → Bool) (x : X) (xs : List X) (b : Bool) → p x ≡ b → (b ≡ true → P x) → Each P (filter p xs) →
    Each P (filter p (x ∷ xs))
filter-one P p x xs true is here each = rw is (here refl, each)
filter-one P p x xs false is here each = rw is each

-- those of a list that pass a test, each with its place in that list
pub each-filter : {X : Type 0} (P : X → Type 0) (p : X → Bool) (xs : List X) →
    ((i : ℕ) (x : X) → slice_get xs i ≡ Some x → p x ≡ true → P x) → Each P (filter p xs)
each-filter P p [] make = tt
each-filter P p (x ∷ xs) make =
    filter-one P p x xs (p x) refl (make 0 x refl) (each-filter P p xs (λ i y there passes. make (suc i) y there passes))

-- ---- an item of a list

abbrev pub Has : {X : Type 0} → (X → Type 0) → List X → Type 0
Has P [] = ⊥
Has P (x ∷ xs) = P x ⊎ Has P xs

has-one : {X : Type 0} (P : X → Type 0) (p : X → Bool) (x : X) (xs : List X) (b : Bool) → p x ≡ b → (b ≡ true → P x ⊎ Has P (filter p xs)) →
    (b ≡ false → Has P (filter p xs)) → Has P (filter p (x ∷ xs))
has-one P p x xs true is passes fails = rw is (passes refl)
has-one P p x xs false is passes fails = rw is (fails refl)

-- an item that passes a test is among those that do
pub has-filter : {X : Type 0} (p : X → Bool) (xs : List X) (i : ℕ) (x : X) → slice_get xs i ≡ Some x → p x ≡ true → Has (λ y. y ≡ x) (filter p xs)
has-filter p [] i x there passes = absurd (none-some x there)
has-filter p (y ∷ ys) zero x there passes =
    let same : y ≡ x = same_Some y x there in
    has-one (λ z. z ≡ x) p y ys true (ap p same ∙ passes) (λ on. inl same) (λ off. absurd (true≢false off))
has-filter p (y ∷ ys) (suc i) x there passes =
    let later = has-filter p ys i x there passes in has-one (λ z. z ≡ x) p y ys (p y) refl (λ on. inr later) (λ off. later)
