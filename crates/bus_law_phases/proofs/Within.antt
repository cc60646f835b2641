-- Stretches of ticks in which nothing is heard, over quiet ticks.
use Rattle.std.proofs.Common.{◌≡◌, ℕ, zero, suc, ◌≤◌, Bool, true, false, List, [], ◌∷◌, ◌++◌, length, refl, arith}
use Rattle.std.proofs.lemmas.Bool.{lt-ltb}
use Rattle.std.specs.Prelude.{not, ◌&&◌, ◌||◌, nat_lt, if◌then◌else◌}
use Rattle.bus_base.specs.Samples.{is_quiet}
use Rattle.bus_base.specs.declared.samples.Sample.{Sample}
use Rattle.bus_line.specs.Past.{quiet_ticks, heard_within}

either-false : (b : Bool) → (if b then false else (false || false)) ≡ false
either-false true = refl
either-false false = refl

-- quiet ticks add nothing to what was heard
pub within-still : (n : ℕ) (past : List Sample) (a b : ℕ) → heard_within past a b ≡ false → heard_within (quiet_ticks n ++ past) a b ≡ false
unfolding heard_within
within-still zero past a b none = none
within-still (suc n) past a b none = rw (within-still n past a b none) (either-false (nat_lt (length (quiet_ticks n ++ past)) a))

by-tests : (early quiet first second rest other : Bool) → (if early then false else ((not quiet && first) || rest)) ≡ false → first ≡ true →
    (rest ≡ false → other ≡ false) → (if early then false else ((not quiet && second) || other)) ≡ false
by-tests true quiet first second rest other none low same = refl
by-tests false true first second rest other none low same = same none
by-tests false false true second rest other none low same = absurd (cc)
by-tests false false false second rest other none low same = absurd (cc)

-- nothing was heard from a tick on: whatever the bound
pub within-any : (past : List Sample) (a m b : ℕ) → length past ≤ m → heard_within past a m ≡ false → heard_within past a b ≡ false
unfolding heard_within
within-any [] a m b few none = refl
within-any (x ∷ past) a m b few none =
    by-tests (nat_lt (length past) a) (is_quiet x) (nat_lt (length past) m) (nat_lt (length past) b) (heard_within past a m) (heard_within past a b)
    none (lt-ltb (length past) m (omega (arith, few))) (within-any past a m b (omega (arith, few)))

-- nothing was heard from a tick on that is still to come
pub within-late : (past : List Sample) (a b : ℕ) → length past ≤ a → heard_within past a b ≡ false
unfolding heard_within
within-late [] a b few = refl
within-late (x ∷ past) a b few = rw (lt-ltb (length past) a (omega (arith, few))) refl
