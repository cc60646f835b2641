-- Quiet ticks on a channel on which no burst runs.
use Rattle.std.proofs.Common.{◌≡◌, ◌⊎◌, inl, inr, ℕ, zero, suc, ◌+◌, ◌<◌, Bool, true, false, List, [], ◌∷◌, ◌++◌, length, Option, Some, None, refl, sym, ap, ◌∙◌, arith}
use Rattle.std.proofs.lemmas.Bool.Decides.{nat_tests}
use Rattle.std.specs.Prelude.{◌&&◌, ◌==◌, nat_lt, is_some}
use Rattle.bus_base.specs.Samples.{sample_on}
use Rattle.bus_base.specs.declared.samples.Channel.{Channel}
use Rattle.bus_base.specs.declared.samples.Channel.TheVariants.{A, B}
use Rattle.bus_base.specs.declared.samples.Sample.{Sample}
use Rattle.bus_base.specs.declared.samples.Sample.TheVariants.{Quiet}
use Rattle.bus_line.specs.Past.{quiet_ticks, quiet, stopped, runs, ended_now, heard_within, end_since}
use Rattle.bus_line.proofs.PastLaws.{rests-parts, rests-more, stopped-more}
use Rattle.bus_line.proofs.TickLaws.{at-quiet}
use Rattle.bus_line.proofs.HeardLaws.{heard_within-is, heard_within-from}
use Rattle.bus_line.proofs.EndLaws.{end_since-stays, end_since-late}
use Rattle.bus_model.specs.Hearing.{Moment, heard_on}
use Rattle.bus_base.specs.Samples.{quiet_pair}
use Rattle.bus_law_stations.specs.Silence.{quiet_moments}

pub quiet-on : (c : Channel) → sample_on quiet_pair c ≡ Quiet
quiet-on A = refl
quiet-on B = refl

-- a terminal hears them on either channel
pub heard-quiet : (c : Channel) (mays : List Bool) (heard : List Moment) →
    heard_on c (quiet_moments mays ++ heard) ≡ quiet_ticks (length mays) ++ heard_on c heard
heard-quiet c [] heard = refl
heard-quiet A (may ∷ mays) heard = ap (λ xs. Quiet ∷ xs) (heard-quiet A mays heard)
heard-quiet B (may ∷ mays) heard = ap (λ xs. Quiet ∷ xs) (heard-quiet B mays heard)

pub heard-long : (c : Channel) (heard : List Moment) → length (heard_on c heard) ≡ length heard
heard-long c [] = refl
heard-long c (now ∷ heard) = ap suc (heard-long c heard)

pub moments-long : (mays : List Bool) (heard : List Moment) → length (quiet_moments mays ++ heard) ≡ length mays + length heard
moments-long [] heard = omega arith
moments-long (may ∷ mays) heard = let rest : length (quiet_moments mays ++ heard) ≡ length mays + length heard = moments-long mays heard in omega (arith, rest)

-- no burst begins
pub rests-quiet : (k n : ℕ) (past : List Sample) → runs k past ≡ false → runs k (quiet_ticks n ++ past) ≡ false
rests-quiet k zero past none = none
rests-quiet k (suc n) past none = rests-more k (quiet_ticks n ++ past) (rests-quiet k n past none)

-- none ends
pub ended-quiet : (k : ℕ) (past : List Sample) → runs k past ≡ false → ended_now k (Quiet ∷ past) ≡ None
ended-quiet k past none =
    let cases : (stopped past ≡ 0) ⊎ (k < quiet past) = rests-parts k past none in
    let same : stopped (Quiet ∷ past) ≡ stopped past = stopped-more past in
    let test : ((suc (quiet past) == suc k) && nat_lt 0 (stopped (Quiet ∷ past))) ≡ false = grind (arith, nat_tests, cases, same) in
    rw test refl

-- what was heard stays heard
pub within-quiet : (n : ℕ) (past : List Sample) (a b : ℕ) → heard_within past a b ≡ true → heard_within (quiet_ticks n ++ past) a b ≡ true
within-quiet zero past a b heard = heard
within-quiet (suc n) past a b heard =
    let w = heard_within-is (quiet_ticks n ++ past) a b (within-quiet n past a b heard) in
    heard_within-from (Quiet ∷ (quiet_ticks n ++ past)) a b w.0 w.1 w.2 (λ e. w.3 (sym (at-quiet (quiet_ticks n ++ past) w.0) ∙ e))

-- an end that is known stays known, and is of an earlier tick
some-from : (o p : Option ℕ) → ((e : ℕ) → o ≡ Some e → p ≡ Some e) → is_some o ≡ true → is_some p ≡ true
some-from None p same some = absurd (grind (arith, some))
some-from (Some e) p same some = rw (same e refl) refl

pub over-quiet : (k n : ℕ) (past : List Sample) (a : ℕ) → is_some (end_since k past a) ≡ true → is_some (end_since k (quiet_ticks n ++ past) a) ≡ true
over-quiet k zero past a over = over
over-quiet k (suc n) past a over =
    some-from (end_since k (quiet_ticks n ++ past) a) (end_since k (Quiet ∷ (quiet_ticks n ++ past)) a)
    (λ e. end_since-stays k Quiet (quiet_ticks n ++ past) a e) (over-quiet k n past a over)

pub cases-option : {X : Type 0} (o : Option X) → (o ≡ None) ⊎ ((a : X) × (o ≡ Some a))
cases-option None = inl refl
cases-option (Some a) = inr (a, refl)

pub over-late : (k : ℕ) (past : List Sample) (a : ℕ) → is_some (end_since k past a) ≡ true → a < length past
over-late k past a over = elim (cases-option (end_since k past a)) [
  | inl none ↦ (let no : is_some (end_since k past a) ≡ false = rw none refl in absurd (grind (arith, over, no)))
  | inr found ↦ end_since-late k past a found.0 found.1
]
