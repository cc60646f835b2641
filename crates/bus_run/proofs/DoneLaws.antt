-- Whether every station is idle and none is taking control.
use Rattle.std.proofs.Common.{◌≡◌, ℕ, zero, suc, ◌+◌, ◌≤◌, ◌<◌, arith, Bool, true, false, not, ◌&&◌, List, []}
use Rattle.std.proofs.Common.{◌∷◌, length, drop, refl, ap, sym, ◌∙◌, add-one, Option, Some, None, if◌then◌else◌}
use Rattle.std.specs.Prelude.{is_none, nat_le, slice_get}
use Rattle.std.proofs.lemmas.Bool.Decides.{nat_tests}
use Rattle.std.specs.List.{list_all}
use Rattle.std.proofs.lemmas.Option.{same_Some}
use Rattle.bus_station.specs.Roles.{role_by}
use Rattle.bus_station.specs.declared.role.Role.{Role}
use Rattle.bus_run.specs.StationRows.{takes}

-- a station that doesn't hold control isn't taking it
pub takes-by : (holds : Bool) (taking : Option ℕ) → takes (role_by holds (if holds then taking else None)) ≡ not (is_none (if holds then taking else None))
takes-by false taking = refl
takes-by true None = refl
takes-by true (Some first) = refl

-- twice not
not-not : (b : Bool) → not (not b) ≡ b
not-not true = refl
not-not false = refl

-- an idle station that is not taking control, by its role
pub none-taking : (idle : Bool) (role : Role) (holds : Bool) (taking : Option ℕ) → role ≡ role_by holds (if holds then taking else None) →
    (idle && not (takes role)) ≡ (idle && is_none (if holds then taking else None))
none-taking idle role holds taking is =
    ap (λ r. idle && not (takes r)) is ∙ ap (λ b. idle && not b) (takes-by holds taking) ∙ ap (λ b. idle && b) (not-not (is_none
    (if holds then taking else None)))

-- the elements from a place on
from : {A : Type 0} (xs : List A) (i : ℕ) (x : A) → slice_get xs i ≡ Some x → drop i xs ≡ x ∷ drop (suc i) xs
from [] i x here = (let no : None ≡ Some x = here in cc)
from (y ∷ xs) zero x here = ap (λ z. z ∷ xs) (same_Some y x here)
from (y ∷ xs) (suc i) x here = from xs i x here

-- the same by the place after it
pub rest-from : {A : Type 0} (xs : List A) (i : ℕ) (x : A) → slice_get xs i ≡ Some x → drop i xs ≡ x ∷ drop (i + 1) xs
rest-from xs i x here = from xs i x here ∙ ap (λ n. x ∷ drop n xs) (sym (add-one i))

-- one that is done leaves the others to be asked
pub all-next : {A : Type 0} (p : A → Bool) (xs : List A) (i : ℕ) (x : A) → slice_get xs i ≡ Some x → p x ≡ true →
    list_all p (drop i xs) ≡ list_all p (drop (i + 1) xs)
all-next p xs i x here is = ap (list_all p) (rest-from xs i x here) ∙ ap (λ b. b && list_all p (drop (i + 1) xs)) is

-- one that isn't is enough
pub all-ends : {A : Type 0} (p : A → Bool) (xs : List A) (i : ℕ) (x : A) → slice_get xs i ≡ Some x → p x ≡ false → list_all p (drop i xs) ≡ false
all-ends p xs i x here is = ap (list_all p) (rest-from xs i x here) ∙ ap (λ b. b && list_all p (drop (i + 1) xs)) is

-- nobody is left to be asked
pub all-asked : {A : Type 0} (p : A → Bool) (xs : List A) (n : ℕ) → n ≡ length xs → list_all p (drop n xs) ≡ true
all-asked p [] n is = rw is refl
all-asked p (x ∷ xs) n is = rw is (all-asked p xs (length xs) refl)

-- ---- the end of a run

-- both channels were quiet long enough, so it is over where all are done
pub over-then : (quiet counted : ℕ) (done found : Bool) → quiet ≡ counted → 80 ≤ quiet → found ≡ done → found ≡ (nat_le 80 counted && done)
over-then quiet counted done found is long same =
    let test : nat_le 80 counted ≡ true = grind (arith, nat_tests, is, long) in
    same ∙ sym (ap (λ b. b && done) test)

-- or not yet
pub over-else : (quiet counted : ℕ) (done : Bool) → quiet ≡ counted → quiet < 80 → false ≡ (nat_le 80 counted && done)
over-else quiet counted done is short =
    let test : nat_le 80 counted ≡ false = grind (arith, nat_tests, is, short) in
    sym (ap (λ b. b && done) test)

-- the same of the test itself
pub over-test : (quiet counted : ℕ) (done : Bool) → quiet ≡ counted → quiet < 80 → nat_le 80 quiet ≡ (nat_le 80 counted && done)
over-test quiet counted done is short =
    let test : nat_le 80 quiet ≡ false = grind (arith, nat_tests, short) in
    test ∙ over-else quiet counted done is short
