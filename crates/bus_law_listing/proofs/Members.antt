-- Members of a list, and facts of all of them and of all pairs.
use Rattle.std.proofs.Common.{◌≡◌, ◌⊎◌, inl, inr, zero, suc, List, [], ◌∷◌, ◌++◌, map, refl, sym, ap, arith, subst, Contains, AllPairs}
use Rattle.std.specs.Prelude.{flat_map}

-- a member of a list
abbrev pub Has : {X : Type 0} → List X → X → Type 0
Has [] x = ⊥
Has (y ∷ ys) x = (y ≡ x) ⊎ Has ys x

-- a fact of each entry
abbrev pub Each : {X : Type 0} → (X → Type 0) → List X → Type 0
Each P [] = Unit {0}
Each P (x ∷ xs) = P x × Each P xs

-- a fact of each entry with each later one
abbrev pub Pairs : {X : Type 0} → (X → X → Type 0) → List X → Type 0
Pairs R [] = Unit {0}
Pairs R (x ∷ xs) = Each (R x) xs × Pairs R xs

-- a fact of each entry is one of a member
pub each-has : {X : Type 0} (P : X → Type 0) (xs : List X) (x : X) → Each P xs → Has xs x → P x
each-has P [] x each has = absurd has
each-has P (y ∷ ys) x each (inl same) = subst P same each.0
each-has P (y ∷ ys) x each (inr has) = each-has P ys x each.1 has

-- a fact of each member is one of each entry
pub has-each : {X : Type 0} (P : X → Type 0) (xs : List X) → ((x : X) → Has xs x → P x) → Each P xs
has-each P [] tell = tt
has-each P (x ∷ xs) tell = (tell x (inl refl), has-each P xs (λ y has. tell y (inr has)))

-- a fact that follows from another
pub each-more : {X : Type 0} (P Q : X → Type 0) (xs : List X) → ((x : X) → P x → Q x) → Each P xs → Each Q xs
each-more P Q [] tell each = tt
each-more P Q (x ∷ xs) tell each = (tell x each.0, each-more P Q xs tell each.1)

-- of the entries of two lists, one after the other
pub each-append : {X : Type 0} (P : X → Type 0) (xs ys : List X) → Each P xs → Each P ys → Each P (xs ++ ys)
each-append P [] ys old new = new
each-append P (x ∷ xs) ys old new = (old.0, each-append P xs ys old.1 new)

-- of those of the first
pub each-left : {X : Type 0} (P : X → Type 0) (xs ys : List X) → Each P (xs ++ ys) → Each P xs
each-left P [] ys each = tt
each-left P (x ∷ xs) ys each = (each.0, each-left P xs ys each.1)

-- of those of the second
pub each-right : {X : Type 0} (P : X → Type 0) (xs ys : List X) → Each P (xs ++ ys) → Each P ys
each-right P [] ys each = each
each-right P (x ∷ xs) ys each = each-right P xs ys each.1

-- of what is made of the entries
pub each-map : {X Y : Type 0} (P : Y → Type 0) (f : X → Y) (xs : List X) → Each (λ x. P (f x)) xs → Each P (map f xs)
each-map P f [] each = tt
each-map P f (x ∷ xs) each = (each.0, each-map P f xs each.1)

-- and back
pub map-each : {X Y : Type 0} (P : Y → Type 0) (f : X → Y) (xs : List X) → Each P (map f xs) → Each (λ x. P (f x)) xs
map-each P f [] each = tt
map-each P f (x ∷ xs) each = (each.0, map-each P f xs each.1)

-- two facts at once
pub each-both : {X : Type 0} (P Q : X → Type 0) (xs : List X) → Each P xs → Each Q xs → Each (λ x. P x × Q x) xs
each-both P Q [] p q = tt
each-both P Q (x ∷ xs) p q = ((p.0, q.0), each-both P Q xs p.1 q.1)

-- ---- pairs

-- the pairs of two lists, and those across
pub pairs-append : {X : Type 0} (R : X → X → Type 0) (xs ys : List X) → Pairs R xs → Pairs R ys → Each (λ x. Each (R x) ys) xs → Pairs R (xs ++ ys)
pairs-append R [] ys old new across = new
pairs-append R (x ∷ xs) ys old new across =
    (each-append (R x) xs ys old.0 across.0, pairs-append R xs ys old.1 new across.1)

-- the pairs of two lists, one after the other
pub pairs-across : {X : Type 0} (R : X → X → Type 0) (xs ys : List X) → Pairs R (xs ++ ys) → Each (λ x. Each (R x) ys) xs
pairs-across R [] ys pairs = tt
pairs-across R (x ∷ xs) ys pairs = (each-right (R x) xs ys pairs.0, pairs-across R xs ys pairs.1)

-- pairs of what is made of the entries
pub map-pairs : {X Y : Type 0} (R : Y → Y → Type 0) (f : X → Y) (xs : List X) → Pairs R (map f xs) → Pairs (λ x y. R (f x) (f y)) xs
map-pairs R f [] pairs = tt
map-pairs R f (x ∷ xs) pairs = (map-each (R (f x)) f xs pairs.0, map-pairs R f xs pairs.1)

-- and back
pub pairs-map : {X Y : Type 0} (R : Y → Y → Type 0) (f : X → Y) (xs : List X) → Pairs (λ x y. R (f x) (f y)) xs → Pairs R (map f xs)
pairs-map R f [] pairs = tt
pairs-map R f (x ∷ xs) pairs = (each-map (R (f x)) f xs pairs.0, pairs-map R f xs pairs.1)

-- where all entries have a fact that makes one of each pair
pub pairs-more : {X : Type 0} (P : X → Type 0) (R S : X → X → Type 0) (xs : List X) → ((x y : X) → P x → P y → R x y → S x y) → Each P xs → Pairs R xs →
    Pairs S xs
pairs-more P R S [] tell each pairs = tt
pairs-more P R S (x ∷ xs) tell each pairs = (
  each-more (λ y. P y × R x y) (S x) xs (λ y both. tell x y each.0 both.0 both.1) (each-both P (R x) xs each.1 pairs.0),
  pairs-more P R S xs tell each.1 pairs.1,
)

-- ---- as std has them

-- a member by its place is a member
pub contains-has : {X : Type 0} (xs : List X) (x : X) → Contains xs x → Has xs x
contains-has [] x has = absurd (omega (arith, has.1))
contains-has (y ∷ ys) x (zero, within, same) = inl same
contains-has (y ∷ ys) x (suc i, within, same) = inr (contains-has ys x (i, omega (arith, within), same))

-- and has a place
pub has-contains : {X : Type 0} (xs : List X) (x : X) → Has xs x → Contains xs x
has-contains [] x has = absurd has
has-contains (y ∷ ys) x (inl same) = (0, omega arith, same)
has-contains (y ∷ ys) x (inr has) = let at = has-contains ys x has in (suc at.0, omega (arith, at.1), at.2)

-- pairs by their places are pairs
pub pairs-all : {X : Type 0} (R : X → X → Type 0) (xs : List X) → AllPairs R xs → Pairs R xs
pairs-all R [] all = tt
pairs-all R (x ∷ xs) all = (
  has-each (R x) xs (λ y has. let at = has-contains xs y has in
      subst (R x) at.2 (all 0 (suc at.0) y (omega arith) (omega (arith, at.1)))),
  pairs-all R xs (λ i j d less within. all (suc i) (suc j) d (omega (arith, less)) (omega (arith, within))),
)

-- ---- a list made of lists

-- a member of the first of two lists is one of both
pub has-left : {X : Type 0} (xs ys : List X) (x : X) → Has xs x → Has (xs ++ ys) x
has-left [] ys x has = absurd has
has-left (y ∷ xs) ys x (inl same) = inl same
has-left (y ∷ xs) ys x (inr has) = inr (has-left xs ys x has)

-- so is one of the second
pub has-right : {X : Type 0} (xs ys : List X) (x : X) → Has ys x → Has (xs ++ ys) x
has-right [] ys x has = has
has-right (y ∷ xs) ys x has = inr (has-right xs ys x has)

-- what is made of a member is a member of what is made of all
pub has-map : {X Y : Type 0} (f : X → Y) (xs : List X) (x : X) → Has xs x → Has (map f xs) (f x)
has-map f [] x has = absurd has
has-map f (y ∷ ys) x (inl same) = inl (ap f same)
has-map f (y ∷ ys) x (inr has) = inr (has-map f ys x has)

-- and a member of that is made of one
pub map-has : {X Y : Type 0} (f : X → Y) (xs : List X) (y : Y) → Has (map f xs) y → (x : X) × Has xs x × (f x ≡ y)
map-has f [] y has = absurd has
map-has f (x ∷ xs) y (inl same) = (x, inl refl, same)
map-has f (x ∷ xs) y (inr has) = let at = map-has f xs y has in (at.0, inr at.1, at.2)

-- a member of one of the lists is one of all
pub has-flat : {X Y : Type 0} (f : X → List Y) (xs : List X) (x : X) (y : Y) → Has xs x → Has (f x) y → Has (flat_map f xs) y
has-flat f [] x y has at = absurd has
has-flat f (z ∷ zs) x y (inl same) at = has-left (f z) (flat_map f zs) y (subst (λ u. Has (f u) y) (sym same) at)
has-flat f (z ∷ zs) x y (inr has) at = has-right (f z) (flat_map f zs) y (has-flat f zs x y has at)

-- a fact of each entry of each of the lists
pub each-flat : {X Y : Type 0} (P : Y → Type 0) (f : X → List Y) (xs : List X) → Each (λ x. Each P (f x)) xs → Each P (flat_map f xs)
each-flat P f [] each = tt
each-flat P f (x ∷ xs) each = each-append P (f x) (flat_map f xs) each.0 (each-flat P f xs each.1)

-- pairs in each list, and across each two
pub pairs-flat : {X Y : Type 0} (R : Y → Y → Type 0) (f : X → List Y) (xs : List X) → Each (λ x. Pairs R (f x)) xs →
    Pairs (λ x y. Each (λ a. Each (R a) (f y)) (f x)) xs → Pairs R (flat_map f xs)
pairs-flat R f [] own across = tt
pairs-flat R f (x ∷ xs) own across =
    pairs-append R (f x) (flat_map f xs) own.0 (pairs-flat R f xs own.1 across.1)
    (has-each (λ a. Each (R a) (flat_map f xs)) (f x) (λ a at. each-flat (R a) f xs
    (each-more (λ y. Each (λ a. Each (R a) (f y)) (f x)) (λ y. Each (R a) (f y)) xs (λ y all. each-has (λ a. Each (R a) (f y)) (f x) a all at) across.0)))
