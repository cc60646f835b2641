-- What becomes known with one tick more, case by case. For every lag.
use Rattle.std.proofs.Common.{◌≡◌, ℕ, suc, ◌-◌, ◌/◌, ◌%◌, ◌<◌, ◌≤◌, true, false, ◌==◌, ◌&&◌, nat_lt, List, [], ◌∷◌, length, Some, None, Option, refl, sym, ap, ◌∙◌, arith, inl, inr, ◌⊎◌}
use Rattle.std.proofs.lemmas.Bool.{cases_Bool}
use Rattle.std.proofs.lemmas.Bool.Decides.{nat_tests}
use Rattle.bus_base.specs.Samples.{is_quiet}
use Rattle.bus_base.specs.declared.samples.Sample.{Sample}
use Rattle.bus_base.specs.declared.samples.Sample.TheVariants.{Plus, Minus, Quiet}
use Rattle.bus_line.specs.declared.cutter.Cut.TheVariants as cuts
use Rattle.bus_line.specs.Past.{Burst, quiet, stopped, runs, first_tick, newest_burst, ended_now, slot_number, slot_between, slot_of, rest_of}
use Rattle.bus_line.specs.Cutting.{cut_of, cut_now, Tells}
use Rattle.bus_line.proofs.PastLaws.{quiet-le, quiet-pulse, stopped-more, runs-parts, rests-parts, first_tick-runs, first_tick-lt}
use Rattle.bus_line.proofs.SlotLaws.{burst-ticks, slots-count, burst_from-more}

-- ---- the cases

-- a quiet tick where no burst runs
pub now-idle : (k : ℕ) (past : List Sample) → runs k past ≡ false → cut_now k (Quiet ∷ past) ≡ cuts.Nothing
unfolding cut_now
now-idle k past off =
    let same : stopped (Quiet ∷ past) ≡ stopped past = stopped-more past in
    let rests : (stopped past ≡ 0) ⊎ (k < quiet past) = rests-parts k past off in
    let none : ended_now k (Quiet ∷ past) ≡ None = grind (arith, nat_tests, same, rests) in
    rw none refl

-- a quiet tick that a burst bridges
pub now-pending : (k : ℕ) (past : List Sample) → quiet past < k → cut_now k (Quiet ∷ past) ≡ cuts.Nothing
unfolding cut_now
now-pending k past few =
    let none : ended_now k (Quiet ∷ past) ≡ None = grind (arith, nat_tests, few) in
    rw none refl

-- quiet tick k + 1 makes the end of the burst known that ran
pub ended-more : (k : ℕ) (past : List Sample) → runs k past ≡ true → quiet past ≡ k → ended_now k (Quiet ∷ past) ≡ Some (newest_burst k past)
ended-more k past on all =
    let more : stopped (Quiet ∷ past) ≡ stopped past = stopped-more past in
    let some : 0 < stopped past = (runs-parts k past on).0 in
    let below : quiet past ≤ length past = quiet-le past in
    let less : first_tick k past < stopped past = first_tick-lt k past some in
    let same : newest_burst k (Quiet ∷ past) ≡ newest_burst k past =
    rw more (burst_from-more Quiet past (first_tick k past) (stopped past - first_tick k past) (omega (arith, less, below))) in
    let found : ended_now k (Quiet ∷ past) ≡ Some (newest_burst k (Quiet ∷ past)) = grind (arith, nat_tests, all, more, some) in
    found ∙ ap Some same

-- and tells its slots and rest
pub now-ended : (k : ℕ) (past : List Sample) → runs k past ≡ true → quiet past ≡ k →
    cut_now k (Quiet ∷ past) ≡ cuts.Ended ((stopped past - first_tick k past) / 40) ((stopped past - first_tick k past) % 40)
unfolding cut_now
now-ended k past on all =
    rw (ended-more k past on all)
    (rw (slots-count past (first_tick k past) (stopped past - first_tick k past), burst-ticks past (first_tick k past) (stopped past - first_tick k past)) refl)

-- a tick that isn't quiet makes no end known
pub ended-none : (k : ℕ) (x : Sample) (past : List Sample) → is_quiet x ≡ false → ended_now k (x ∷ past) ≡ None
ended-none k x past pulse = let none : quiet (x ∷ past) ≡ 0 = quiet-pulse x past pulse in grind (arith, nat_tests, none)

-- the first tick of a burst
pub now-begins : (k : ℕ) (x : Sample) (past : List Sample) → is_quiet x ≡ false → runs k past ≡ false → cut_now k (x ∷ past) ≡ cuts.Nothing
unfolding cut_now
now-begins k x past pulse off =
    let not_ended : ended_now k (x ∷ past) ≡ None = ended-none k x past pulse in
    let no_slot : slot_number k (x ∷ past) ≡ None = rw (pulse, off) refl in
    rw (not_ended, no_slot) refl

-- what a tick that isn't quiet tells, by the ticks of the burst before and with it
pub now-pulse : (k : ℕ) (x : Sample) (past : List Sample) (number : Option ℕ) → is_quiet x ≡ false → runs k past ≡ true →
    slot_between (stopped past - first_tick k past) (suc (length past) - first_tick k past) ≡ number →
    cut_now k (x ∷ past) ≡ cut_of (x ∷ past) (first_tick k past) None number
unfolding cut_now
now-pulse k x past number pulse on is =
    let not_ended : ended_now k (x ∷ past) ≡ None = ended-none k x past pulse in
    let first : first_tick k (x ∷ past) ≡ first_tick k past = first_tick-runs k x past on in
    let slot : slot_number k (x ∷ past) ≡ number = rw (pulse, on) is in
    rw (not_ended, slot, first) refl

-- ---- what a cut tells

-- a cut tells what was looked up, by cases
tells-of : (k : ℕ) (past : List Sample) (ended : Option Burst) (number : Option ℕ) → ended_now k past ≡ ended → slot_number k past ≡ number →
    ((burst : Burst) → ended ≡ Some burst → (number ≡ None) × (burst ≡ newest_burst k past)) → Tells k past (cut_of past (first_tick k past) ended number)
tells-of k past None None e n alone = (e, ap (slot_of past (first_tick k past)) n)
tells-of k past None (Some i) e n alone = (e, ap (slot_of past (first_tick k past)) n)
tells-of k past (Some burst) number e n alone =
    let both : (number ≡ None) × (burst ≡ newest_burst k past) = alone burst refl in
    (e ∙ ap Some both.1, ap (slot_of past (first_tick k past)) (n ∙ both.0), ap (λ (b : Burst). length b.slots) (sym both.1), ap rest_of (sym both.1))

-- where an end becomes known no slot ends
no-slot : (k : ℕ) (past : List Sample) → quiet past ≡ suc k → slot_number k past ≡ None
no-slot k [] q = refl
no-slot k (Plus ∷ past) q = absurd (omega (arith, q))
no-slot k (Minus ∷ past) q = absurd (omega (arith, q))
no-slot k (Quiet ∷ past) q = refl

-- the burst that is looked up is the newest, and no slot ends with it
tells-quiet : (k : ℕ) (past : List Sample) (burst : Burst) → ended_now k past ≡ Some burst → (slot_number k past ≡ None) × (burst ≡ newest_burst k past)
tells-quiet k past burst e = elim (cases_Bool ((quiet past == suc k) && nat_lt 0 (stopped past))) [
  | inr fails ↦ (let bad : ended_now k past ≡ None = rw fails refl in let f : None ≡ Some burst = sym bad ∙ e in cc)
  | inl holds ↦ (
      let q : quiet past ≡ suc k = grind (arith, nat_tests, holds) in
      let is : ended_now k past ≡ Some (newest_burst k past) = rw holds refl in
      (no-slot k past q, let f : Some burst ≡ Some (newest_burst k past) = sym e ∙ is in cc))
]

-- a cut tells what ended
pub cut-tells : (k : ℕ) (past : List Sample) → Tells k past (cut_now k past)
unfolding cut_now
cut-tells k past = tells-of k past (ended_now k past) (slot_number k past) refl refl (tells-quiet k past)
