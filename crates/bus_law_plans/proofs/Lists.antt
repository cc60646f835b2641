-- Lists of which each element is as is said, and two lists side by side.
use Rattle.std.proofs.Common.{◌≡◌, ℕ, zero, suc, Bool, true, false, List, [], ◌∷◌, ◌++◌, take, map, replicate, refl, sym, ap, subst, arith, drop}
use Rattle.std.specs.Prelude.{if◌then◌else◌, ◌&&◌, ◌==◌, reverse}
use Rattle.std.specs.List.{AllByRecursion as Each, AllZip}
use Rattle.std.proofs.lemmas.List.{reverse-append}
use Rattle.std.proofs.lemmas.Bool.{true≢false}
use Rattle.std.proofs.lemmas.Bool.Decides.{nat_tests}

-- ---- choices

-- what holds of both sides of a choice
pub either : {X : Type 0} (P : X → Type 0) (b : Bool) (x y : X) → P x → P y → P (if b then x else y)
either P true x y first second = first
either P false x y first second = second

-- of each side, where the test says so
pub either-by : {X : Type 0} (P : X → Type 0) (b : Bool) (x y : X) → (b ≡ true → P x) → (b ≡ false → P y) → P (if b then x else y)
either-by P true x y first second = first refl
either-by P false x y first second = second refl

-- a choice, where the test is false
pub skips : {X : Type 0} (b : Bool) (x y : X) → b ≡ false → (if b then x else y) ≡ y
skips b x y off = ap (λ (t : Bool). if t then x else y) off

-- both of two tests
pub and-both : (a b : Bool) → (a && b) ≡ true → (a ≡ true) × (b ≡ true)
and-both true true h = (refl, refl)
and-both true false h = absurd (true≢false (sym h))
and-both false b h = absurd (true≢false (sym h))

-- the test of equal numbers
pub same-number : (m n : ℕ) → (m == n) ≡ true → m ≡ n
same-number m n is = grind (arith, nat_tests, is)

-- ---- each element

-- each element is so, and hence otherwise
pub each-weaker : {X : Type 0} (P Q : X → Type 0) → ((x : X) → P x → Q x) → (xs : List X) → Each P xs → Each Q xs
each-weaker P Q h [] all = tt
each-weaker P Q h (x ∷ xs) all = (h x all.0, each-weaker P Q h xs all.1)

-- all values are so
pub each-always : {X : Type 0} (P : X → Type 0) → ((x : X) → P x) → (xs : List X) → Each P xs
each-always P h [] = tt
each-always P h (x ∷ xs) = (h x, each-always P h xs)

-- two facts of each element
pub each-both : {X : Type 0} (P Q R : X → Type 0) → ((x : X) → P x → Q x → R x) → (xs : List X) → Each P xs → Each Q xs → Each R xs
each-both P Q R h [] first second = tt
each-both P Q R h (x ∷ xs) first second = (h x first.0 second.0, each-both P Q R h xs first.1 second.1)

-- one list after another
pub each-append : {X : Type 0} (P : X → Type 0) (xs ys : List X) → Each P xs → Each P ys → Each P (xs ++ ys)
each-append P [] ys first second = second
each-append P (x ∷ xs) ys first second = (first.0, each-append P xs ys first.1 second)

-- each value of a function
pub each-map : {X Y : Type 0} (P : Y → Type 0) (f : X → Y) (xs : List X) → Each (λ x. P (f x)) xs → Each P (map f xs)
each-map P f [] all = tt
each-map P f (x ∷ xs) all = (all.0, each-map P f xs all.1)

-- the first elements
pub each-take : {X : Type 0} (P : X → Type 0) (n : ℕ) (xs : List X) → Each P xs → Each P (take n xs)
each-take P zero [] all = tt
each-take P zero (x ∷ xs) all = tt
each-take P (suc n) [] all = tt
each-take P (suc n) (x ∷ xs) all = (all.0, each-take P n xs all.1)

-- one element, so often
pub each-replicate : {X : Type 0} (P : X → Type 0) (n : ℕ) (x : X) → P x → Each P (replicate n x)
each-replicate P zero x h = tt
each-replicate P (suc n) x h = (h, each-replicate P n x h)

-- the elements in the other order
pub each-reverse : {X : Type 0} (P : X → Type 0) (xs : List X) → Each P xs → Each P (reverse xs)
each-reverse P [] all = tt
each-reverse P (x ∷ xs) all =
    subst (Each P) (sym (reverse-append (x ∷ []) xs)) (each-append P (reverse xs) (x ∷ []) (each-reverse P xs all.1) (all.0, tt))

-- no element is dropped
pub drop-none : {X : Type 0} (xs : List X) → drop 0 xs ≡ xs
drop-none [] = refl
drop-none (x ∷ xs) = refl

-- ---- two lists

-- a list beside its values
pub zip-map : {X Y : Type 0} (R : X → Y → Type 0) (f : X → Y) (xs : List X) → Each (λ x. R x (f x)) xs → AllZip R xs (map f xs)
zip-map R f [] all = tt
zip-map R f (x ∷ xs) all = (all.0, zip-map R f xs all.1)

-- two lists side by side are so, and hence otherwise
pub zip-weaker : {X Y : Type 0} (R S : X → Y → Type 0) → ((x : X) (y : Y) → R x y → S x y) → (xs : List X) (ys : List Y) → AllZip R xs ys → AllZip S xs ys
zip-weaker R S h [] [] all = tt
zip-weaker R S h [] (y ∷ ys) all = absurd all
zip-weaker R S h (x ∷ xs) [] all = absurd all
zip-weaker R S h (x ∷ xs) (y ∷ ys) all = (h x y all.0, zip-weaker R S h xs ys all.1)

-- the second of the lists changes element by element
pub zip-after : {X Y Z : Type 0} (R : X → Y → Type 0) (S : Y → Z → Type 0) (T : X → Z → Type 0) → ((x : X) (y : Y) (z : Z) → R x y → S y z → T x z) →
    (xs : List X) (ys : List Y) (zs : List Z) → AllZip R xs ys → AllZip S ys zs → AllZip T xs zs
zip-after R S T h [] [] [] first second = tt
zip-after R S T h [] [] (z ∷ zs) first second = absurd second
zip-after R S T h [] (y ∷ ys) zs first second = absurd first
zip-after R S T h (x ∷ xs) [] zs first second = absurd first
zip-after R S T h (x ∷ xs) (y ∷ ys) [] first second = absurd second
zip-after R S T h (x ∷ xs) (y ∷ ys) (z ∷ zs) first second = (h x y z first.0 second.0, zip-after R S T h xs ys zs first.1 second.1)

-- what is known of each element of the second
pub zip-second : {X Y : Type 0} (R : X → Y → Type 0) (P : Y → Type 0) → ((x : X) (y : Y) → R x y → P y) → (xs : List X) (ys : List Y) → AllZip R xs ys → Each P ys
zip-second R P h [] [] all = tt
zip-second R P h [] (y ∷ ys) all = absurd all
zip-second R P h (x ∷ xs) [] all = absurd all
zip-second R P h (x ∷ xs) (y ∷ ys) all = (h x y all.0, zip-second R P h xs ys all.1)

-- a fact of each element of the first beside the pair
pub zip-with : {X Y : Type 0} (P : X → Type 0) (R S : X → Y → Type 0) → ((x : X) (y : Y) → P x → R x y → S x y) → (xs : List X) (ys : List Y) →
    Each P xs → AllZip R xs ys → AllZip S xs ys
zip-with P R S h [] [] each all = tt
zip-with P R S h [] (y ∷ ys) each all = absurd all
zip-with P R S h (x ∷ xs) [] each all = absurd all
zip-with P R S h (x ∷ xs) (y ∷ ys) each all = (h x y each.0 all.0, zip-with P R S h xs ys each.1 all.1)
