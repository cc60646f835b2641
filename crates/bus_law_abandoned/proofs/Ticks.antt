-- The tick in which an answer is abandoned, in numbers.
use Rattle.std.proofs.Common.{◌≡◌, ℕ, ◌+◌, ◌≤◌, Bool, true, false, not, Option, Some, None, refl, subst, arith}
use Rattle.std.proofs.lemmas.Bool.Decides.{nat_tests}
use Rattle.std.proofs.lemmas.Option.{none-some, same_Some}
use Rattle.std.specs.Prelude.{◌-◌, ◌&&◌, nat_le, if◌then◌else◌, IfSome}
use Rattle.bus_formats.specs.declared.plan.Kind.{Kind}
use Rattle.bus_model.specs.Endings.{abandoned_at}
use Rattle.bus_model.specs.Strikes.{burst_end, ShownAnswer, is_faded}

-- an answer is abandoned in this tick, the last of n after tick e: it runs in it, and its sample isn't faded
pub record IsAbandonedIn (abandon : Option ℕ) (e : ℕ) (first : ShownAnswer) (tick : ℕ) : Type 0 where
  pub n : ℕ
  pub some : abandon ≡ Some n
  pub within : e + n ≤ burst_end first.burst
  pub heard : is_faded first (e + n - 1 - first.burst.start) ≡ false
  pub tick_is : tick ≡ e + n - 1

by-tests : (e n tick : ℕ) (first : ShownAnswer) (a b : Bool) → nat_le (e + n) (burst_end first.burst) ≡ a →
    is_faded first (e + n - 1 - first.burst.start) ≡ b →
    (if a && not b then Some (e + n - 1) else None) ≡ Some tick → IsAbandonedIn (Some n) e first tick
by-tests e n tick first true false early heard is = record {
  n = n;
  some = refl;
  within = grind (arith, nat_tests, early);
  heard = heard;
  tick_is = let same : e + n - 1 ≡ tick = same_Some (e + n - 1) tick is in omega (arith, same);
}
by-tests e n tick first true true early heard is = absurd (none-some tick is)
by-tests e n tick first false b early heard is = absurd (none-some tick is)

pub abandoned-when : (k : ℕ) (kind : Kind) (abandon : Option ℕ) (e : ℕ) (first : ShownAnswer) (tick : ℕ) →
    abandoned_at k kind abandon e first ≡ Some tick → IsAbandonedIn abandon e first tick
abandoned-when k kind None e first tick is = absurd (none-some tick is)
abandoned-when k kind (Some n) e first tick is =
    by-tests e n tick first (nat_le (e + n) (burst_end first.burst)) (is_faded first (e + n - 1 - first.burst.start)) refl refl is

-- what is in a range where there is something
pub within-range : (P : ℕ → Type 0) (o : Option ℕ) (n : ℕ) → IfSome o P → o ≡ Some n → P n
within-range P None n all is = absurd (none-some n is)
within-range P (Some m) n all is = subst P (same_Some m n is) all
