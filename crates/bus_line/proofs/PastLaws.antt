-- What one channel showed, followed by one tick more.
use Rattle.std.proofs.Common.{◌≡◌, ℕ, suc, ◌+◌, ◌<◌, ◌≤◌, true, false, List, [], ◌∷◌, length, refl, arith, inl, inr, ◌⊎◌}
use Rattle.std.proofs.lemmas.Bool.{cases_Bool}
use Rattle.std.proofs.lemmas.Bool.Decides.{nat_tests}
use Rattle.bus_base.specs.Samples.{is_quiet}
use Rattle.bus_base.specs.declared.samples.Sample.{Sample}
use Rattle.bus_base.specs.declared.samples.Sample.TheVariants.{Plus, Minus, Quiet}
use Rattle.bus_line.specs.Past.{quiet, stopped, runs, first_tick}

-- no more ticks were quiet than there were
pub quiet-le : (past : List Sample) → quiet past ≤ length past
quiet-le [] = omega arith
quiet-le (Plus ∷ past) = omega arith
quiet-le (Minus ∷ past) = omega arith
quiet-le (Quiet ∷ past) = let below : quiet past ≤ length past = quiet-le past in omega arith

-- the quiet ticks and those before them are all
pub stopped-quiet : (past : List Sample) → stopped past + quiet past ≡ length past
stopped-quiet past = let below : quiet past ≤ length past = quiet-le past in omega arith

-- a tick that isn't quiet leaves no quiet ticks after it
pub quiet-pulse : (x : Sample) (past : List Sample) → is_quiet x ≡ false → quiet (x ∷ past) ≡ 0
quiet-pulse Plus past pulse = refl
quiet-pulse Minus past pulse = refl
quiet-pulse Quiet past pulse = absurd (grind (arith, pulse))

-- a quiet tick moves no stop
pub stopped-more : (past : List Sample) → stopped (Quiet ∷ past) ≡ stopped past
stopped-more past = let below : quiet past ≤ length past = quiet-le past in omega arith

-- a tick that isn't quiet is the last before the stop
pub stopped-pulse : (x : Sample) (past : List Sample) → is_quiet x ≡ false → stopped (x ∷ past) ≡ suc (length past)
stopped-pulse x past pulse = let none : quiet (x ∷ past) ≡ 0 = quiet-pulse x past pulse in omega (arith, none)

-- what it means that a burst runs
pub runs-parts : (k : ℕ) (past : List Sample) → runs k past ≡ true → (0 < stopped past) × (quiet past ≤ k)
runs-parts k past h = (grind (arith, nat_tests, h), grind (arith, nat_tests, h))

-- and the other way
pub runs-from : (k : ℕ) (past : List Sample) → 0 < stopped past → quiet past ≤ k → runs k past ≡ true
runs-from k past some few = grind (arith, nat_tests, some, few)

-- what it means that none runs: none was, or k + 1 quiet ticks came
pub rests-parts : (k : ℕ) (past : List Sample) → runs k past ≡ false → (stopped past ≡ 0) ⊎ (k < quiet past)
rests-parts k past h = grind (arith, nat_tests, h)

-- and the other way
pub rests-from : (k : ℕ) (past : List Sample) → (stopped past ≡ 0) ⊎ (k < quiet past) → runs k past ≡ false
rests-from k past h = grind (arith, nat_tests, h)

-- with a tick that isn't quiet a burst runs
pub runs-pulse : (k : ℕ) (x : Sample) (past : List Sample) → is_quiet x ≡ false → runs k (x ∷ past) ≡ true
runs-pulse k x past pulse =
    let none : quiet (x ∷ past) ≡ 0 = quiet-pulse x past pulse in
    runs-from k (x ∷ past) (omega (arith, none)) (omega (arith, none))

-- after k + 1 quiet ticks, or where there was no other, none runs with one more
pub rests-more : (k : ℕ) (past : List Sample) → runs k past ≡ false → runs k (Quiet ∷ past) ≡ false
rests-more k past h =
    let same : stopped (Quiet ∷ past) ≡ stopped past = stopped-more past in
    let cases : (stopped past ≡ 0) ⊎ (k < quiet past) = rests-parts k past h in
    rests-from k (Quiet ∷ past) (grind (arith, same, cases))

-- the burst that runs goes on with a tick
pub first_tick-runs : (k : ℕ) (x : Sample) (past : List Sample) → runs k past ≡ true → first_tick k (x ∷ past) ≡ first_tick k past
first_tick-runs k Plus past h = rw h refl
first_tick-runs k Minus past h = rw h refl
first_tick-runs k Quiet past h = refl

-- or one begins
pub first_tick-begins : (k : ℕ) (x : Sample) (past : List Sample) → runs k past ≡ false → is_quiet x ≡ false → first_tick k (x ∷ past) ≡ length past
first_tick-begins k x past h pulse = rw (pulse, h) refl

-- a tick that isn't quiet belongs to the newest burst
first_tick-pulse : (k : ℕ) (x : Sample) (past : List Sample) → is_quiet x ≡ false → (runs k past ≡ true → first_tick k past < stopped past) →
    first_tick k (x ∷ past) < suc (length past)
first_tick-pulse k x past pulse before = elim (cases_Bool (runs k past)) [
  | inl on ↦ (
      let same : first_tick k (x ∷ past) ≡ first_tick k past = first_tick-runs k x past on in
      let below : first_tick k past < stopped past = before on in
      omega (arith, same, below))
  | inr off ↦ (let begins : first_tick k (x ∷ past) ≡ length past = first_tick-begins k x past off pulse in omega (arith, begins))
]

-- the newest burst has ticks
pub first_tick-lt : (k : ℕ) (past : List Sample) → 0 < stopped past → first_tick k past < stopped past
first_tick-lt k [] some = absurd (omega (arith, some))
first_tick-lt k (Quiet ∷ past) some =
    let same : stopped (Quiet ∷ past) ≡ stopped past = stopped-more past in
    let rest : first_tick k past < stopped past = first_tick-lt k past (omega (arith, some, same)) in
    omega (arith, same, rest)
first_tick-lt k (Plus ∷ past) some =
    let now : first_tick k (Plus ∷ past) < suc (length past) = first_tick-pulse k Plus past refl (λ on. first_tick-lt k past (runs-parts k past on).0) in
    omega (arith, now)
first_tick-lt k (Minus ∷ past) some =
    let now : first_tick k (Minus ∷ past) < suc (length past) = first_tick-pulse k Minus past refl (λ on. first_tick-lt k past (runs-parts k past on).0) in
    omega (arith, now)
