-- Stations by their addresses: which one is found, and what stays where one of them is changed.
use Rattle.std.proofs.Common.{◌≡◌, ◌≢◌, inl, inr, ℕ, suc, Bool, true, false, List, [], ◌∷◌, map, Option, Some, refl, sym, ap, ◌∙◌, subst, arith}
use Rattle.std.proofs.lemmas.Bool.{cases_Bool}
use Rattle.std.proofs.lemmas.Bool.Decides.{nat_tests}
use Rattle.std.proofs.lemmas.Option.{none-some, same_Some}
use Rattle.std.specs.Prelude.{if◌then◌else◌, find, ◌==◌, Contains, AllPairs}
use Rattle.std.specs.List.{AllByRecursion as Each, AllZip}
use Rattle.std.proofs.lemmas.List.Elements.{recursion_from_All}
use Rattle.bus_model.specs.Message.{Present, address_of_station}
use Rattle.bus_model.specs.Run.{is_at, with_station}
use Rattle.bus_law_plans.proofs.Lists.{either-by, each-both}

-- ---- addresses apart

-- no two are the same
abbrev pub Apart : List ℕ → Type 0
Apart [] = Unit {0}
Apart (x ∷ xs) = Each (λ y. x ≢ y) xs × Apart xs

-- by the rule of the plan
pub apart-from : (xs : List ℕ) → AllPairs (λ a b. a ≢ b) xs → Apart xs
apart-from [] h = tt
apart-from (x ∷ xs) h = (
  recursion_from_All (λ y. x ≢ y) xs (λ j d within. h 0 (suc j) d (omega arith) (omega (arith, within))),
  apart-from xs (λ i j d before within. h (suc i) (suc j) d (omega (arith, before)) (omega (arith, within))),
)

-- ---- which station is found

by-find : (address : ℕ) (s : Present) (rest : Option Present) (b : Bool) → is_at address s ≡ b → (if b then Some s else rest) ≡ (if is_at address s then Some s else rest)
by-find address s rest b is = ap (λ (t : Bool). if t then Some s else rest) (sym is)

-- the first station has the address
pub find-here : (address : ℕ) (s : Present) (stations : List Present) → is_at address s ≡ true → find (is_at address) (s ∷ stations) ≡ Some s
find-here address s stations here = sym (by-find address s (find (is_at address) stations) true here)

-- the first station has another address
pub find-later : (address : ℕ) (s : Present) (stations : List Present) → is_at address s ≡ false → find (is_at address) (s ∷ stations) ≡ find (is_at address) stations
find-later address s stations other = sym (by-find address s (find (is_at address) stations) false other)

own-at : (s : Present) → is_at (address_of_station s) s ≡ true
own-at s = same-number (address_of_station s)
  where
    same-number : (n : ℕ) → (n == n) ≡ true
    same-number n = grind (arith, nat_tests)

-- each station is the one that is found by its address
pub found-own : (stations : List Present) → Apart (map address_of_station stations) → Each (λ s. find (is_at (address_of_station s)) stations ≡ Some s) stations
found-own [] apart = tt
found-own (s ∷ stations) apart = (
  find-here (address_of_station s) s stations (own-at s),
  each-both (λ t. address_of_station s ≢ address_of_station t) (λ t. find (is_at (address_of_station t)) stations ≡ Some t)
      (λ t. find (is_at (address_of_station t)) (s ∷ stations) ≡ Some t)
      (λ t other found. find-later (address_of_station t) s stations (other-number (address_of_station s) (address_of_station t) other) ∙ found)
      stations (each-addresses stations apart.0) (found-own stations apart.1),
)
  where
    other-number : (m n : ℕ) → m ≢ n → (m == n) ≡ false
    other-number m n other = grind (arith, nat_tests, other)

    each-addresses : (ts : List Present) → Each (λ y. address_of_station s ≢ y) (map address_of_station ts) → Each (λ t. address_of_station s ≢ address_of_station t) ts
    each-addresses [] all = tt
    each-addresses (t ∷ ts) all = (all.0, each-addresses ts all.1)

-- what holds of each station holds of the one that is found
pub found-each : (P : Present → Type 0) (address : ℕ) (stations : List Present) (s : Present) → Each P stations → find (is_at address) stations ≡ Some s →
    P s × (is_at address s ≡ true)
found-each P address [] s all found = absurd (none-some s found)
found-each P address (t ∷ stations) s all found = elim (cases_Bool (is_at address t)) [
  | inl here ↦
      let same : t ≡ s = same_Some t s (sym (find-here address t stations here) ∙ found) in
      (subst P same all.0, ap (is_at address) (sym same) ∙ here)
  | inr other ↦ found-each P address stations s all.1 (sym (find-later address t stations other) ∙ found)
]

-- the same station is found in a list beside it
pub found-beside : (R : Present → Present → Type 0) → ((s t : Present) → R s t → address_of_station t ≡ address_of_station s) → (address : ℕ)
    (before later : List Present) (s : Present) → AllZip R before later → find (is_at address) before ≡ Some s →
    (t : Present) × (find (is_at address) later ≡ Some t) × R s t
found-beside R h address [] [] s all found = absurd (none-some s found)
found-beside R h address [] (b ∷ later) s all found = absurd all
found-beside R h address (a ∷ before) [] s all found = absurd all
found-beside R h address (a ∷ before) (b ∷ later) s all found =
    let at : is_at address b ≡ is_at address a = ap (λ n. n == address) (h a b all.0) in
    elim (cases_Bool (is_at address a)) [
      | inl here ↦
          let same : a ≡ s = same_Some a s (sym (find-here address a before here) ∙ found) in
          (b, find-here address b later (at ∙ here), subst (λ x. R x b) same all.0)
      | inr other ↦
          let rest = found-beside R h address before later s all.1 (sym (find-later address a before other) ∙ found) in
          (rest.0, find-later address b later (at ∙ other) ∙ rest.1, rest.2)
    ]

-- ---- one of them is changed

-- one station is changed, and the others stay
pub changed-zip : {X : Type 0} (R S : X → Present → Type 0) (address : ℕ) (change : Present → Present) →
    ((x : X) (s : Present) → R x s → is_at address s ≡ true → S x (change s)) → ((x : X) (s : Present) → R x s → is_at address s ≡ false → S x s) →
    (xs : List X) (stations : List Present) → AllZip R xs stations → AllZip S xs (with_station address change stations)
changed-zip R S address change here other [] [] all = tt
changed-zip R S address change here other [] (s ∷ stations) all = absurd all
changed-zip R S address change here other (x ∷ xs) [] all = absurd all
changed-zip R S address change here other (x ∷ xs) (s ∷ stations) all =
    (either-by (S x) (is_at address s) (change s) s (here x s all.0) (other x s all.0), changed-zip R S address change here other xs stations all.1)

-- the changed station is found by the address
pub find-changed : (address : ℕ) (change : Present → Present) → ((s : Present) → address_of_station (change s) ≡ address_of_station s) → (stations : List Present)
    (s : Present) → find (is_at address) stations ≡ Some s → find (is_at address) (with_station address change stations) ≡ Some (change s)
find-changed address change same [] s found = absurd (none-some s found)
find-changed address change same (a ∷ stations) s found = elim (cases_Bool (is_at address a)) [
  | inl here ↦
      let now : Present = if is_at address a then change a else a in
      let changed : now ≡ change a = ap (λ (b : Bool). if b then change a else a) here in
      let at : is_at address now ≡ true = ap (is_at address) changed ∙ (ap (λ n. n == address) (same a) ∙ here) in
      find-here address now (with_station address change stations) at
      ∙ ap Some (changed ∙ ap change (same_Some a s (sym (find-here address a stations here) ∙ found)))
  | inr away ↦
      let now : Present = if is_at address a then change a else a in
      let changed : now ≡ a = ap (λ (b : Bool). if b then change a else a) away in
      let at : is_at address now ≡ false = ap (is_at address) changed ∙ away in
      find-later address now (with_station address change stations) at
      ∙ find-changed address change same stations s (sym (find-later address a stations away) ∙ found)
]

-- ---- contained

-- the first number
pub contains-here : (x : ℕ) (xs : List ℕ) → Contains (x ∷ xs) x
contains-here x xs = (0, omega arith, refl)

-- a later one
pub contains-later : (x y : ℕ) (xs : List ℕ) → Contains xs y → Contains (x ∷ xs) y
contains-later x y xs h = (suc h.0, omega (arith, h.1), h.2)
