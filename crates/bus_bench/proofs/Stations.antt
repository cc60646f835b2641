-- The stations of a plan that is drawn: each has the address of its place.
use Rattle.std.proofs.Common.{◌≡◌, ℕ, zero, suc, ◌+◌, ◌-◌, ◌<◌, ◌≤◌, List, [], ◌∷◌, ◌++◌, length, map, get_or, arith, refl, sym, ap, ◌∙◌, subst}
use Rattle.std.specs.Prelude.{◌≢◌, All, AllPairs, Contains, fold, sum_by}
use Rattle.std.proofs.lemmas.List.Elements.{All-nil, All-cons}
use Rattle.std.proofs.lemmas.List.{append_assoc, append-nil}
use Rattle.bus_formats.specs.Plans.{FrameData, StationData}
use Rattle.bus_bench.specs.Generated.{station_at, terminals_from}

-- what holds of each terminal holds of all
pub all-terminals : (P : StationData → Type 0) (first count : ℕ) → ((a : ℕ) → a < first + count → P (station_at a [])) → All P (terminals_from first count)
unfolding terminals_from
all-terminals P first zero each = All-nil P
all-terminals P first (suc count) each =
    All-cons P (station_at first []) (terminals_from (suc first) count) (each first (omega arith)) (all-terminals P (suc first) count (λ a within. each a (omega (arith, within))))

-- a station's terminal addresses, with those of one more
abbrev addresses_with : ℕ → ℕ → ℕ → List FrameData → List ℕ
addresses_with first count last frames = map (λ s. s.terminal.address) (terminals_from first count ++ station_at last frames ∷ [])

pub how-many : (first count last : ℕ) (frames : List FrameData) → length (terminals_from first count ++ station_at last frames ∷ []) ≡ suc count
unfolding terminals_from
how-many first zero last frames = refl
how-many first (suc count) last frames = ap suc (how-many (suc first) count last frames)

pub how-many-addresses : (first count last : ℕ) (frames : List FrameData) → length (addresses_with first count last frames) ≡ suc count
unfolding terminals_from
how-many-addresses first zero last frames = refl
how-many-addresses first (suc count) last frames = ap suc (how-many-addresses (suc first) count last frames)

-- they count up
pub address-at : (first count last : ℕ) (frames : List FrameData) → last ≡ first + count → (i d : ℕ) → i ≤ count →
    get_or (addresses_with first count last frames) i d ≡ first + i
unfolding terminals_from
address-at first zero last frames is zero d within = omega (arith, is)
address-at first zero last frames is (suc i) d within = absurd (omega (arith, within))
address-at first (suc count) last frames is zero d within = omega arith
address-at first (suc count) last frames is (suc i) d within =
    let next : suc first + i ≡ first + suc i = omega arith in
    address-at (suc first) count last frames (omega (arith, is)) i d (omega (arith, within)) ∙ next

-- a sum to which no terminal adds
pub nothing-added : (f : StationData → ℕ) → ((a : ℕ) → f (station_at a []) ≡ 0) → (first count start : ℕ) →
    fold (λ n s. n + f s) start (terminals_from first count) ≡ start
unfolding terminals_from
nothing-added f none first zero start = refl
nothing-added f none first (suc count) start =
    let it = none first in
    let same : start + f (station_at first []) ≡ start = omega (arith, it) in
    nothing-added f none (suc first) count (start + f (station_at first [])) ∙ same

first : (a left next : ℕ) → next ≡ suc a → station_at a [] ∷ terminals_from next left ≡ terminals_from a (suc left)
unfolding terminals_from
first a left next is = ap (λ n. station_at a [] ∷ terminals_from n left) is

no-more : (done : List StationData) (a : ℕ) → done ++ terminals_from a 0 ≡ done
unfolding terminals_from
no-more done a = append-nil done

-- one terminal more, before those that are still to come
pub next-terminal : (done : List StationData) (a : ℕ) → a < 31 →
    (done ++ station_at a [] ∷ []) ++ terminals_from (a + 1) (31 - (a + 1)) ≡ done ++ terminals_from a (31 - a)
next-terminal done a below =
    let left : 31 - a ≡ suc (31 - (a + 1)) = omega (arith, below) in
    let next : a + 1 ≡ suc a = omega arith in
    append_assoc done (station_at a [] ∷ []) (terminals_from (a + 1) (31 - (a + 1))) ∙ ap (λ rest. done ++ rest) (first a (31 - (a + 1)) (a + 1) next ∙ ap (terminals_from a) (sym left))

-- none is still to come
pub last-terminal : (done : List StationData) (a : ℕ) → 31 ≤ a → done ++ terminals_from a (31 - a) ≡ done
last-terminal done a past =
    let none : 31 - a ≡ 0 = omega (arith, past) in
    ap (λ n. done ++ terminals_from a n) none ∙ no-more done a

-- the same where that terminal was pushed
pub terminal-pushed : (done now : List StationData) (station : StationData) (a : ℕ) → a < 31 → station ≡ station_at a [] → now ≡ done ++ station ∷ [] →
    done ++ terminals_from a (31 - a) ≡ terminals_from 0 31 → now ++ terminals_from (a + 1) (31 - (a + 1)) ≡ terminals_from 0 31
terminal-pushed done now station a below is pushed whole =
    ap (λ xs. xs ++ terminals_from (a + 1) (31 - (a + 1))) (pushed ∙ ap (λ s. done ++ s ∷ []) is) ∙ next-terminal done a below ∙ whole
