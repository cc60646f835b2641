-- Facts of lists that the phases need.
use Rattle.std.proofs.Common.{◌≡◌, ◌≢◌, ℕ, zero, suc, Bool, true, false, List, [], ◌∷◌, map, Some, refl, ap, ◌∙◌, subst, arith}
use Rattle.std.proofs.lemmas.List.{append-nil}
use Rattle.std.proofs.lemmas.List.Elements.{All-head, All-tail}
use Rattle.std.proofs.lemmas.Option.{none-some, same_Some}
use Rattle.std.specs.List.{All}
use Rattle.std.specs.Prelude.{filter, flat_map, slice_get}
use Rattle.bus_law_phases.specs.Pairing.{Beside}
use Rattle.bus_law_table.proofs.Pairing as others

subst-first : {X : Type 0} (P : X → Type 0) (y x : X) → y ≡ x → P y → P x
subst-first P y x same is = subst P same is

-- a fact of each item, at a place
pub all-at : {X : Type 0} (P : X → Type 0) (xs : List X) (i : ℕ) (x : X) → All P xs → slice_get xs i ≡ Some x → P x
all-at P [] i x all there = absurd (none-some x there)
all-at P (y ∷ ys) zero x all there = subst-first P y x (same_Some y x there) (All-head P y ys all)
all-at P (y ∷ ys) (suc i) x all there = all-at P ys i x (All-tail P y ys all) there

-- lists of which none gives anything
nothing-step : {X Y : Type 0} (p : X → Bool) (f : X → List Y) (x : X) (xs : List X) (b : Bool) → p x ≡ b → (b ≡ true → f x ≡ []) →
    flat_map f (filter p xs) ≡ [] → flat_map f (filter p (x ∷ xs)) ≡ []
nothing-step p f x xs true is none rest = let here = none refl in rw (is, here) rest
nothing-step p f x xs false is none rest = rw is rest

nothing-of : {X Y : Type 0} (p : X → Bool) (f : X → List Y) (xs : List X) →
    ((i : ℕ) (y : X) → slice_get xs i ≡ Some y → p y ≡ true → f y ≡ []) → flat_map f (filter p xs) ≡ []
nothing-of p f [] none = refl
nothing-of p f (x ∷ xs) none =
    nothing-step p f x xs (p x) refl (λ on. none 0 x refl on) (nothing-of p f xs (λ i y there on. none (suc i) y there on))

-- and of which one does
first-step : {X Y : Type 0} (p : X → Bool) (f : X → List Y) (x : X) (xs : List X) → p x ≡ true → flat_map f (filter p xs) ≡ [] →
    flat_map f (filter p (x ∷ xs)) ≡ f x
first-step p f x xs is rest = rw (is, rest) (append-nil (f x))

later-step : {X Y : Type 0} (p : X → Bool) (f : X → List Y) (y x : X) (ys : List X) (b : Bool) → p y ≡ b → (b ≡ true → f y ≡ []) →
    flat_map f (filter p ys) ≡ f x → flat_map f (filter p (y ∷ ys)) ≡ f x
later-step p f y x ys true is none rest = let here = none refl in rw (is, here) rest
later-step p f y x ys false is none rest = rw is rest

pub one-gives : {X Y : Type 0} (p : X → Bool) (f : X → List Y) (xs : List X) (place : ℕ) (x : X) → slice_get xs place ≡ Some x → p x ≡ true →
    ((i : ℕ) (y : X) → slice_get xs i ≡ Some y → i ≢ place → p y ≡ true → f y ≡ []) → flat_map f (filter p xs) ≡ f x
one-gives p f [] place x there is none = absurd (none-some x there)
one-gives p f (y ∷ ys) zero x there is none =
    let same : y ≡ x = same_Some y x there in
    let on : p y ≡ true = ap p same ∙ is in
    first-step p f y ys on (nothing-of p f ys (λ i z here passes. none (suc i) z here (λ e. absurd (omega (arith, e))) passes)) ∙ ap f same
one-gives p f (y ∷ ys) (suc place) x there is none =
    later-step p f y x ys (p y) refl (λ on. none 0 y refl (λ e. absurd (omega (arith, e))) on)
    (one-gives p f ys place x there is (λ i z here apart passes. none (suc i) z here (λ e. apart (omega (arith, e))) passes))

-- pairs of one list with images of another
pub beside-into : {X Y Z : Type 0} (R : X → Y → Type 0) (S : X → Z → Type 0) (g : Y → Z) (xs : List X) (ys : List Y) → others.Beside R xs ys →
    ((x : X) (y : Y) → R x y → S x (g y)) → Beside S xs (map g ys)
beside-into R S g [] [] pairs make = tt
beside-into R S g [] (y ∷ ys) pairs make = absurd pairs
beside-into R S g (x ∷ xs) [] pairs make = absurd pairs
beside-into R S g (x ∷ xs) (y ∷ ys) pairs make = (make x y pairs.0, beside-into R S g xs ys pairs.1 make)
