-- Runs of marked places up to a place, and counts of marked places, over numbers alone.
use Rattle.std.proofs.Common.{◌≡◌, inl, inr, ℕ, zero, suc, ◌+◌, ◌<◌, ◌≤◌, Bool, true, false, ◌==◌, List, [], ◌∷◌, length, refl, ap, ◌∙◌, arith}
use Rattle.std.proofs.lemmas.Bool.{cases_Bool, cases_eq, eq-eqb, ne_eqb}
use Rattle.std.specs.Prelude.{◌||◌, if◌then◌else◌}
use Rattle.bus_base.specs.Positions.{names}
use Rattle.bus_base.specs.Samples.{is_quiet}
use Rattle.bus_base.specs.declared.samples.Sample.{Sample}
use Rattle.bus_base.specs.declared.samples.Sample.TheVariants.{Plus, Minus, Quiet}
use Rattle.bus_line.specs.Past.{quiet}
use Rattle.bus_law_line.specs.Shown.{first_samples}

-- how many places in a row just before this one are marked
abbrev pub run_to : (ℕ → Bool) → ℕ → ℕ
run_to f zero = 0
run_to f (suc n) = if f n then suc (run_to f n) else 0

-- how many of the first places are marked
abbrev pub count_to : (ℕ → Bool) → ℕ → ℕ
count_to f zero = 0
count_to f (suc n) = count_to f n + (if f n then 1 else 0)

-- ---- counts

count-mono : (f g : ℕ → Bool) (r : ℕ) → ((j : ℕ) → j < r → f j ≡ true → g j ≡ true) → count_to f r ≤ count_to g r
count-mono f g zero more = omega arith
count-mono f g (suc r) more =
    let rest : count_to f r ≤ count_to g r = count-mono f g r (λ j low. more j (omega (arith, low))) in
    elim (cases_Bool (f r)) [
      | inl marked ↦ (let also : g r ≡ true = more r (omega arith) marked in rw (marked, also) (omega (arith, rest)))
      | inr bare ↦ rw bare (omega (arith, rest))
    ]

count-or : (f g h : ℕ → Bool) (r : ℕ) → ((j : ℕ) → h j ≡ (f j || g j)) → count_to h r ≤ count_to f r + count_to g r
count-or f g h zero both = omega arith
count-or f g h (suc r) both =
    let rest : count_to h r ≤ count_to f r + count_to g r = count-or f g h r both in
    rw (both r) (either (f r) (g r) (count_to h r) (count_to f r) (count_to g r) rest)
  where
    either : (a b : Bool) (l m n : ℕ) → l ≤ m + n → l + (if a || b then 1 else 0) ≤ m + (if a then 1 else 0) + (n + (if b then 1 else 0))
    either true true l m n h = omega (arith, h)
    either true false l m n h = omega (arith, h)
    either false true l m n h = omega (arith, h)
    either false false l m n h = omega (arith, h)

count-one : (q r : ℕ) → (count_to (λ p. q == p) r ≤ 1) × (r ≤ q → count_to (λ p. q == p) r ≡ 0)
count-one q zero = (omega arith, λ low. refl)
count-one q (suc r) =
    let rest = count-one q r in
    elim (cases_eq q r) [
      | inl same ↦ (
          let test : (q == r) ≡ true = eq-eqb q r same in
          let none : count_to (λ p. q == p) r ≡ 0 = rest.1 (omega (arith, same)) in
          (rw test (omega (arith, none)), λ low. absurd (omega (arith, low, same))))
      | inr apart ↦ (
          let test : (q == r) ≡ false = ne_eqb q r apart in
          let few : count_to (λ p. q == p) r ≤ 1 = rest.0 in
          (rw test (omega (arith, few)), λ low. (let none : count_to (λ p. q == p) r ≡ 0 = rest.1 (omega (arith, low)) in rw test (omega (arith, none)))))
    ]

-- no more places are named than a list has numbers
pub names-count : (positions : List ℕ) (r : ℕ) → count_to (names positions) r ≤ length positions
unfolding names
names-count [] zero = omega arith
names-count [] (suc r) = let rest : count_to (names []) r ≤ 0 = names-count [] r in omega (arith, rest)
names-count (q ∷ positions) r =
    let one : count_to (λ p. q == p) r ≤ 1 = (count-one q r).0 in
    let rest : count_to (names positions) r ≤ length positions = names-count positions r in
    let all : count_to (names (q ∷ positions)) r ≤ count_to (λ p. q == p) r + count_to (names positions) r =
    count-or (λ p. q == p) (names positions) (names (q ∷ positions)) r (λ j. refl) in
    omega (arith, one, rest, all)

pub count-below : (f : ℕ → Bool) (r : ℕ) → f 0 ≡ false → count_to f (suc r) ≤ r
count-below f zero bare = rw bare (omega arith)
count-below f (suc r) bare =
    let rest : count_to f (suc r) ≤ r = count-below f r bare in
    elim (cases_Bool (f (suc r))) [
      | inl marked ↦ rw marked (omega (arith, rest))
      | inr not ↦ rw not (omega (arith, rest))
    ]

-- ---- runs

run-count : (f : ℕ → Bool) (a : ℕ) → run_to f a ≡ 0 → (r : ℕ) → run_to f (a + r) ≤ count_to (λ j. f (a + j)) r
run-count f a none zero = let here : a + 0 ≡ a = omega arith in rw here (omega (arith, none))
run-count f a none (suc r) =
    let on : a + suc r ≡ suc (a + r) = omega arith in
    let rest : run_to f (a + r) ≤ count_to (λ j. f (a + j)) r = run-count f a none r in
    rw on (elim (cases_Bool (f (a + r))) [
      | inl marked ↦ rw marked (omega (arith, rest))
      | inr bare ↦ rw bare (omega arith)
    ])

-- after a place where no run is left, a run is as long as the marked places since at most
pub run-few : (f g : ℕ → Bool) (a r : ℕ) → run_to f a ≡ 0 → ((j : ℕ) → j < r → f (a + j) ≡ true → g j ≡ true) → run_to f (a + r) ≤ count_to g r
run-few f g a r none more =
    let run : run_to f (a + r) ≤ count_to (λ j. f (a + j)) r = run-count f a none r in
    let fewer : count_to (λ j. f (a + j)) r ≤ count_to g r = count-mono (λ j. f (a + j)) g r more in
    omega (arith, run, fewer)

-- ---- runs of quiet samples

quiet-more : (x : Sample) (past : List Sample) → quiet (x ∷ past) ≡ (if is_quiet x then suc (quiet past) else 0)
quiet-more Plus past = refl
quiet-more Minus past = refl
quiet-more Quiet past = refl

-- the quiet samples in a row up to now, where it is told which are quiet
pub quiet-run : (row : ℕ → Sample) (f : ℕ → Bool) (m : ℕ) → ((i : ℕ) → i < m → is_quiet (row i) ≡ f i) → quiet (first_samples row m) ≡ run_to f m
quiet-run row f zero same = refl
quiet-run row f (suc m) same =
    quiet-more (row m) (first_samples row m)
    ∙ ap (λ (b : Bool). if b then suc (quiet (first_samples row m)) else 0) (same m (omega arith))
    ∙ ap (λ q. if f m then suc q else 0) (quiet-run row f m (λ i low. same i (omega (arith, low))))
