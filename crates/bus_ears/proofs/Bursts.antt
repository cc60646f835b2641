-- Where a burst lies whose end became known in the newest tick, and which slots it has.
use Rattle.std.proofs.Common.{◌≡◌, ℕ, suc, ◌+◌, ◌-◌, ◌*◌, ◌/◌, ◌<◌, Bool, true, false, ◌==◌, ◌&&◌, nat_lt, List, ◌∷◌, length, Some, None, refl, sym, ap, ◌∙◌, arith, if◌then◌else◌}
use Rattle.std.proofs.lemmas.Bool.Decides.{nat_tests}
use Rattle.bus_base.specs.declared.samples.Sample.{Sample}
use Rattle.bus_base.specs.declared.samples.Sample.TheVariants.{Plus, Minus, Quiet}
use Rattle.bus_line.specs.declared.cutter.Cut.TheVariants as cuts
use Rattle.bus_line.specs.Past.{Burst, quiet, stopped, first_tick, newest_burst, ended_now, end_of, rest_of}
use Rattle.bus_line.specs.Bursts.{IsEndedNow}
use Rattle.bus_line.specs.Cutting.{Tells, running_slots}
use Rattle.bus_line.proofs.PastLaws.{runs-from, stopped-more}
use Rattle.bus_line.proofs.LookUpLaws.{ended-known}
use Rattle.bus_line.proofs.SlotLaws.{burst-ticks, slots-count}
use Rattle.bus_line.proofs.CollectLaws.{running-on}
use Rattle.bus_line.proofs.CutNow.{ended-more}

is-some-test : {A : Type 0} (b : Bool) (x y : A) → (if b then Some x else None) ≡ Some y → b ≡ true
is-some-test true x y e = refl
is-some-test false x y e = (let no : None ≡ Some y = e in cc)

ended-parts : (k : ℕ) (heard : List Sample) (burst : Burst) → ended_now k (Quiet ∷ heard) ≡ Some burst → (0 < stopped heard) × (quiet heard ≡ k)
ended-parts k heard burst e =
    let both : ((quiet (Quiet ∷ heard) == suc k) && nat_lt 0 (stopped (Quiet ∷ heard))) ≡ true =
    is-some-test ((quiet (Quiet ∷ heard) == suc k) && nat_lt 0 (stopped (Quiet ∷ heard))) (newest_burst k (Quiet ∷ heard)) burst e in
    let same : stopped (Quiet ∷ heard) ≡ stopped heard = stopped-more heard in
    (grind (arith, nat_tests, both, same), grind (arith, nat_tests, both))

ended-pulse : (k : ℕ) (x : Sample) (heard : List Sample) (burst : Burst) → quiet (x ∷ heard) ≡ 0 → ended_now k (x ∷ heard) ≡ Some burst →
    burst.slots ≡ running_slots k heard
ended-pulse k x heard burst none e =
    let both : ((quiet (x ∷ heard) == suc k) && nat_lt 0 (stopped (x ∷ heard))) ≡ true =
    is-some-test ((quiet (x ∷ heard) == suc k) && nat_lt 0 (stopped (x ∷ heard))) (newest_burst k (x ∷ heard)) burst e in
    absurd (grind (arith, nat_tests, both, none))

-- its slots are those of the burst that ran before the tick
pub ended-slots : (k : ℕ) (x : Sample) (heard : List Sample) (burst : Burst) → ended_now k (x ∷ heard) ≡ Some burst → burst.slots ≡ running_slots k heard
ended-slots k Plus heard burst e = ended-pulse k Plus heard burst refl e
ended-slots k Minus heard burst e = ended-pulse k Minus heard burst refl e
ended-slots k Quiet heard burst e =
    let parts = ended-parts k heard burst e in
    let on = runs-from k heard parts.0 (omega (arith, parts.1)) in
    let same : Some (newest_burst k heard) ≡ Some burst = sym (ended-more k heard on parts.1) ∙ e in
    let is_same : newest_burst k heard ≡ burst = cc in
    ap (λ (b : Burst). b.slots) (sym is_same) ∙ sym (running-on k heard on)

-- its place: its ticks, then k + 1 quiet ones up to now
pub record IsPlaced (k slots rest : ℕ) (heard : List Sample) (burst : Burst) : Type 0 where
  pub place : burst.first + (40 * slots + rest) + k ≡ length heard
  pub end : end_of burst + k ≡ length heard
  pub rest_is : rest_of burst ≡ rest

pub ended-placed : (k slots rest : ℕ) (x : Sample) (heard : List Sample) → Tells k (x ∷ heard) (cuts.Ended slots rest) →
    IsPlaced k slots rest heard (newest_burst k (x ∷ heard))
ended-placed k slots rest x heard (ended, none, count, left) =
    let past : List Sample = x ∷ heard in
    let n : ℕ = stopped past - first_tick k past in
    let known : IsEndedNow k past (newest_burst k past).first (newest_burst k past).ticks = ended-known k past (newest_burst k past) ended in
    let ticks : (newest_burst k past).ticks ≡ n = burst-ticks past (first_tick k past) n in
    let whole : length (newest_burst k past).slots ≡ n / 40 = slots-count past (first_tick k past) n in
    record {
      place = omega (arith, known.now, ticks, whole, count, left);
      end = omega (arith, known.now);
      rest_is = left;
    }
