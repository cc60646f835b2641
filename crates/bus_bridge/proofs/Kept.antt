-- Lists that grow by what each element gives, and elements by their places.
use Rattle.std.proofs.Common.{◌≡◌, ℕ, zero, suc, ◌+◌, ◌<◌, ◌≤◌, Bool, true, false, List, [], ◌∷◌, ◌++◌, length, take, drop, get_or, Option, Some, None, refl, ap, sym, ◌∙◌, subst, arith, add-one, append-nil, append_assoc, if◌then◌else◌}
use Rattle.std.specs.Prelude.{flat_map, option_to_list, slice_get}
use Rattle.std.specs.List.{AllByRecursion as Each}
use Rattle.std.proofs.lemmas.List.{length-append}
use Rattle.std.proofs.lemmas.Option.{none-some, same_Some}

module _ {X Y : Type 0} (f : X → List Y) where
  -- what one element more gives
  pub front-more : (xs : List X) (i : ℕ) (x : X) → i < length xs → x ≡ get_or xs i x →
      flat_map f (take (i + 1) xs) ≡ flat_map f (take i xs) ++ f x
  front-more xs i x low at = ap (λ (n : ℕ). flat_map f (take n xs)) (add-one i) ∙ by-place xs i low at
    where
      by-place : (ys : List X) (n : ℕ) → n < length ys → x ≡ get_or ys n x → flat_map f (take (suc n) ys) ≡ flat_map f (take n ys) ++ f x
      by-place [] n within here = absurd (omega (arith, within))
      by-place (y ∷ ys) zero within here = append-nil (f y) ∙ ap f (sym here)
      by-place (y ∷ ys) (suc n) within here =
          ap (λ (zs : List Y). f y ++ zs) (by-place ys n (omega (arith, within)) here) ∙ sym (append_assoc (f y) (flat_map f (take n ys)) (f x))

  -- the first elements give no more than all
  pub front-few : (xs : List X) (i : ℕ) → length (flat_map f (take i xs)) ≤ length (flat_map f xs)
  front-few [] zero = omega arith
  front-few [] (suc i) = omega arith
  front-few (x ∷ xs) zero = omega arith
  front-few (x ∷ xs) (suc i) =
      let some = length-append (f x) (flat_map f (take i xs)) in
      let all = length-append (f x) (flat_map f xs) in
      let few = front-few xs i in
      omega (arith, some, all, few)

  -- so there is room for one element's, where there is room for all
  pub room-more : (old now : List Y) (xs : List X) (i : ℕ) (x : X) (room : ℕ) → i < length xs → x ≡ get_or xs i x →
      now ≡ old ++ flat_map f (take i xs) → length old + length (flat_map f xs) ≤ room → length now + length (f x) ≤ room
  room-more old now xs i x room low at is few =
      let long = ap length is ∙ length-append old (flat_map f (take i xs)) in
      let next = ap length (front-more xs i x low at) ∙ length-append (flat_map f (take i xs)) (f x) in
      let all = front-few xs (i + 1) in
      omega (arith, long, next, all, few)

  pub items-more : (old now next : List Y) (xs : List X) (i : ℕ) (x : X) → i < length xs → x ≡ get_or xs i x →
      now ≡ old ++ flat_map f (take i xs) → next ≡ now ++ f x → next ≡ old ++ flat_map f (take (i + 1) xs)
  items-more old now next xs i x low at is more =
      more ∙ ap (λ (ys : List Y). ys ++ f x) is ∙ append_assoc old (flat_map f (take i xs)) (f x)
      ∙ ap (λ (ys : List Y). old ++ ys) (sym (front-more xs i x low at))

-- ---- places

pub take-none : {X : Type 0} (xs : List X) → take 0 xs ≡ []
take-none [] = refl
take-none (x ∷ xs) = refl

pub take-whole : {X : Type 0} (xs : List X) (n : ℕ) → length xs ≤ n → take n xs ≡ xs
take-whole [] zero low = refl
take-whole [] (suc n) low = refl
take-whole (x ∷ xs) zero low = absurd (omega (arith, low))
take-whole (x ∷ xs) (suc n) low = ap (λ ys. x ∷ ys) (take-whole xs n (omega (arith, low)))

-- an element by its place
pub found-at : {X : Type 0} (xs : List X) (i : ℕ) (x : X) → i < length xs → x ≡ get_or xs i x → slice_get xs i ≡ Some x
found-at [] i x low at = absurd (omega (arith, low))
found-at (y ∷ ys) zero x low at = ap Some (sym at)
found-at (y ∷ ys) (suc i) x low at = found-at ys i x (omega (arith, low)) at

pub found-or : {X : Type 0} (xs : List X) (i : ℕ) (d : X) → i < length xs → slice_get xs i ≡ Some (get_or xs i d)
found-or [] i d low = absurd (omega (arith, low))
found-or (y ∷ ys) zero d low = refl
found-or (y ∷ ys) (suc i) d low = found-or ys i d (omega (arith, low))

-- what holds of each holds of it
pub each-at : {X : Type 0} (P : X → Type 0) (xs : List X) (i : ℕ) (x : X) → slice_get xs i ≡ Some x → Each P xs → P x
each-at P [] i x at all = absurd (none-some x at)
each-at P (y ∷ ys) zero x at all = subst P (same_Some y x at) all.0
each-at P (y ∷ ys) (suc i) x at all = each-at P ys i x at all.1

-- a load that a test lets through
pub let-through : {X : Type 0} (test : Bool) (x : X) (xs : List X) → test ≡ true → xs ++ x ∷ [] ≡ xs ++ option_to_list (if test then Some x else None)
let-through true x xs is = refl
let-through false x xs is = (let no : false ≡ true = is in cc)

pub kept-out : {X : Type 0} (test : Bool) (x : X) (xs : List X) → test ≡ false → xs ≡ xs ++ option_to_list (if test then Some x else None)
kept-out true x xs is = (let no : true ≡ false = is in cc)
kept-out false x xs is = sym (append-nil xs)

pub drop-past : {X : Type 0} (xs : List X) (n : ℕ) → length xs ≤ n → drop n xs ≡ []
drop-past [] zero low = refl
drop-past [] (suc n) low = refl
drop-past (x ∷ xs) zero low = absurd (omega (arith, low))
drop-past (x ∷ xs) (suc n) low = drop-past xs n (omega (arith, low))

-- two numbers that are the same add up the same
pub same-sum : (a b c d : ℕ) → a ≡ c → b ≡ d → a + b ≡ c + d
same-sum a b c d ea eb = rw (ea, eb) refl
