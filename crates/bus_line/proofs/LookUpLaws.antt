-- What `Past` looks up is what a reader finds by tick numbers.
use Rattle.std.proofs.Common.{◌≡◌, ℕ, suc, ◌+◌, ◌-◌, ◌*◌, ◌/◌, ◌<◌, ◌≤◌, true, false, List, [], ◌∷◌, length, Some, None, Option, refl, sym, ◌∙◌, arith, inl, inr, IfSome, ◌==◌, ◌&&◌, ◌||◌, not, nat_lt}
use Rattle.std.proofs.lemmas.Bool.{cases_lt, cases_Bool, or_parts, not-false}
use Rattle.std.proofs.lemmas.Bool.Decides.{nat_tests}
use Rattle.bus_base.specs.Samples.{is_quiet}
use Rattle.bus_base.specs.declared.samples.Sample.{Sample}
use Rattle.bus_line.specs.Past.{Burst, quiet, stopped, runs, first_tick, burst_from, newest_burst, ended_now, slot_number, slot_between}
use Rattle.bus_line.specs.Bursts.{IsQuietAt, IsEndedNow, IsSlotNow, EndsAgree, SlotsAgree}
use Rattle.bus_line.proofs.PastLaws.{quiet-le, stopped-quiet, stopped-pulse, runs-parts, first_tick-lt, first_tick-runs, first_tick-begins}
use Rattle.bus_line.proofs.TickLaws.{at-now, at-more, quiet-since, heard-last, pulse-sample}
use Rattle.bus_line.proofs.BurstLaws.{newest-burst, newest-is, burst-stopped}
use Rattle.bus_line.proofs.SlotLaws.{burst-ticks, burst-first}

-- ---- ends

-- after k + 1 quiet ticks the newest burst has just ended
newest-ends : (k : ℕ) (past : List Sample) → quiet past ≡ suc k → 0 < stopped past → IsEndedNow k past (newest_burst k past).first (newest_burst k past).ticks
newest-ends k past q some =
    let below : quiet past ≤ length past = quiet-le past in
    let less : first_tick k past < stopped past = first_tick-lt k past some in
    let first : (newest_burst k past).first ≡ first_tick k past = burst-first past (first_tick k past) (stopped past - first_tick k past) in
    let ticks : (newest_burst k past).ticks ≡ stopped past - first_tick k past = burst-ticks past (first_tick k past) (stopped past - first_tick k past) in
    rw (first, ticks) record { burst = newest-burst k past some; now = omega (arith, q, less, below) }

-- a burst is the one that is cut out at its own ticks
cut-again : (past : List Sample) (p n : ℕ) → burst_from past p n ≡ burst_from past (burst_from past p n).first (burst_from past p n).ticks
unfolding burst_from
cut-again past p n = refl

-- a burst that is looked up has ended by tick numbers, and is cut out of the past
ended-found : (k : ℕ) (past : List Sample) →
    IfSome (ended_now k past) (λ burst. IsEndedNow k past burst.first burst.ticks × (burst ≡ burst_from past burst.first burst.ticks))
ended-found k past = elim (cases_Bool ((quiet past == suc k) && nat_lt 0 (stopped past))) [
  | inl holds ↦ rw holds (
    newest-ends k past (grind (arith, nat_tests, holds)) (grind (arith, nat_tests, holds)),
    cut-again past (first_tick k past) (stopped past - first_tick k past),
  )
  | inr fails ↦ rw fails tt
]

-- its end became known in the newest tick
pub ended-known : (k : ℕ) (past : List Sample) (burst : Burst) → ended_now k past ≡ Some burst → IsEndedNow k past burst.first burst.ticks
ended-known k past burst h = let found = ended-found k past in (rw h at found).0

-- it is cut out at its own ticks
pub ended-is : (k : ℕ) (past : List Sample) (burst : Burst) → ended_now k past ≡ Some burst → burst ≡ burst_from past burst.first burst.ticks
ended-is k past burst h = let found = ended-found k past in (rw h at found).1

-- a burst that ended by tick numbers is looked up
pub ended-all : (k : ℕ) (past : List Sample) (p n : ℕ) → IsEndedNow k past p n → ended_now k past ≡ Some (burst_from past p n)
ended-all k past p n e =
    let stop : stopped past ≡ p + n = burst-stopped k past p n e.burst (λ t a b. e.burst.after t a (omega (arith, e.now))) in
    let whole : stopped past + quiet past ≡ length past = stopped-quiet past in
    let q : quiet past ≡ suc k = omega (arith, e.now, stop, whole) in
    let some : 0 < stopped past = omega (arith, e.burst.stretch.some, stop) in
    let is = newest-is k past p n e.burst (sym stop) in
    let holds : ended_now k past ≡ Some (newest_burst k past) = grind (arith, nat_tests, q, some) in
    holds ∙ (rw (sym is.1, sym is.0) refl)

-- so both are the same
pub ends-agree : (k : ℕ) (past : List Sample) → EndsAgree k past
ends-agree k past = record { found = ended-found k past; all = λ p n inside e. ended-all k past p n e }

-- ---- slots

-- the number of a slot that became whole between so many ticks of a burst and so many
pub between-some : (before now i : ℕ) → slot_between before now ≡ Some i → (before < 40 * suc i) × (40 * suc i ≤ now)
between-some before now i h = elim (cases_lt (before / 40) (now / 40)) [
  | inl more ↦ (
      let holds : slot_between before now ≡ Some (now / 40 - 1) = grind (arith, nat_tests, more) in
      let same : now / 40 - 1 ≡ i = (let e : Some (now / 40 - 1) ≡ Some i = sym holds ∙ h in cc) in
      (omega (arith, more, same), omega (arith, more, same)))
  | inr less ↦ (
      let fails : slot_between before now ≡ None = grind (arith, nat_tests, less) in
      let e : None ≡ Some i = sym fails ∙ h in cc)
]

-- and the other way, where no two became whole
between-is : (before now i : ℕ) → before < 40 * suc i → 40 * suc i ≤ now → now < 40 * suc (suc i) → slot_between before now ≡ Some i
between-is before now i low whole high =
    let new : now / 40 ≡ suc i = omega (arith, whole, high) in
    let more : before / 40 < now / 40 = omega (arith, low, new) in
    let holds : slot_between before now ≡ Some (now / 40 - 1) = grind (arith, nat_tests, more) in
    let same : now / 40 - 1 ≡ i = omega (arith, new) in
    holds ∙ (rw same refl)

-- a slot that is looked up ended in the newest tick by tick numbers
pub slot-is-now : (k : ℕ) (x : Sample) (past : List Sample) (i : ℕ) → is_quiet x ≡ false → runs k past ≡ true →
    slot_between (stopped past - first_tick k past) (suc (length past) - first_tick k past) ≡ Some i →
    IsSlotNow k (x ∷ past) (first_tick k (x ∷ past)) i
slot-is-now k x past i pulse on found =
    let parts = between-some (stopped past - first_tick k past) (suc (length past) - first_tick k past) i found in
    let now : stopped (x ∷ past) ≡ suc (length past) = stopped-pulse x past pulse in
    let first : first_tick k (x ∷ past) ≡ first_tick k past = first_tick-runs k x past on in
    let less : first_tick k past < stopped past = first_tick-lt k past (runs-parts k past on).0 in
    let below : quiet past ≤ length past = quiet-le past in
    record {
      ticks = stopped (x ∷ past) - first_tick k (x ∷ past);
      burst = newest-burst k (x ∷ past) (omega (arith, now));
      whole = omega (arith, now, first, parts.1);
      now = omega (arith, now, first, less, below);
      since = λ t a b. at-more x past t (omega (arith, b)) ∙ quiet-since past t (omega (arith, a, first, parts.0));
    }

-- the same, by the number that is looked up
some-found : (k : ℕ) (x : Sample) (past : List Sample) (o : Option ℕ) → ((i : ℕ) → o ≡ Some i → IsSlotNow k (x ∷ past) (first_tick k (x ∷ past)) i) →
    IfSome o (λ i. IsSlotNow k (x ∷ past) (first_tick k (x ∷ past)) i)
some-found k x past None found = tt
some-found k x past (Some i) found = found i refl

-- a slot that is looked up is one by tick numbers
slot-found : (k : ℕ) (past : List Sample) → IfSome (slot_number k past) (λ i. IsSlotNow k past (first_tick k past) i)
slot-found k [] = tt
slot-found k (x ∷ past) = elim (cases_Bool (is_quiet x || not (runs k past))) [
  | inl fails ↦ rw fails tt
  | inr holds ↦ (let parts = or_parts (is_quiet x) (not (runs k past)) holds in
      rw holds (some-found k x past (slot_between (stopped past - first_tick k past) (suc (length past) - first_tick k past))
      (λ i e. slot-is-now k x past i parts.0 (not-false (runs k past) parts.1) e)))
]

-- where the ticks before the newest are quiet from e on, the stop before it is no later
pub stopped-before : (x : Sample) (past : List Sample) (e : ℕ) → e ≤ length past → ((t : ℕ) → e ≤ t → suc t < length (x ∷ past) → IsQuietAt (x ∷ past) t) → stopped past ≤ e
stopped-before x past e within after = elim (cases_lt e (stopped past)) [
  | inr low ↦ low
  | inl high ↦ absurd (
      let below : quiet past ≤ length past = quiet-le past in
      heard-last past (stopped past - 1) (omega (arith, high))
      (sym (at-more x past (stopped past - 1) (omega (arith, high, below))) ∙ after (stopped past - 1) (omega (arith, high)) (omega (arith, high, below))))
]

-- two slots don't become whole at once: so many quiet ticks stand in no burst
slot-last : (k : ℕ) (past : List Sample) (p i : ℕ) → k ≤ 39 → (s : IsSlotNow k past p i) → s.ticks < 40 * suc (suc i)
slot-last k past p i small s = elim (cases_lt s.ticks (40 * suc (suc i))) [
  | inl short ↦ short
  | inr long ↦ absurd (
      let w = s.burst.stretch.bridged (p + 40 * i + 39) (omega arith) (omega (arith, long, small)) in
      w.3 (s.since w.0 w.1 (omega (arith, w.2, s.now, long, small))))
]

-- a slot that ended by tick numbers is looked up
pub slot-all : (k : ℕ) (past : List Sample) (p i : ℕ) → k ≤ 39 → IsSlotNow k past p i → slot_number k past ≡ Some i
slot-all k [] p i small s = absurd (omega (arith, s.now, s.burst.stretch.some))
slot-all k (x ∷ past) p i small s =
    let last = s.burst.stretch.ends (length past) (omega (arith, s.now)) in
    let pulse : is_quiet x ≡ false = pulse-sample x (λ e. last (at-now x past ∙ e)) in
    let now : stopped (x ∷ past) ≡ suc (length past) = stopped-pulse x past pulse in
    let is = newest-is k (x ∷ past) p s.ticks s.burst (omega (arith, s.now, now)) in
    let below : quiet past ≤ length past = quiet-le past in
    elim (cases_Bool (runs k past)) [
      | inr off ↦ absurd (let first : first_tick k (x ∷ past) ≡ length past = first_tick-begins k x past off pulse in omega (arith, first, is.0, s.whole, s.now))
      | inl on ↦ (
          let first : first_tick k (x ∷ past) ≡ first_tick k past = first_tick-runs k x past on in
          let stop : stopped past ≤ p + 40 * i + 39 = stopped-before x past (p + 40 * i + 39) (omega (arith, s.whole, s.now)) s.since in
          let short : s.ticks < 40 * suc (suc i) = slot-last k (x ∷ past) p i small s in
          let number : slot_between (stopped past - first_tick k past) (suc (length past) - first_tick k past) ≡ Some i =
          between-is (stopped past - first_tick k past) (suc (length past) - first_tick k past) i
          (omega (arith, is.0, first, stop)) (omega (arith, is.0, first, s.whole, s.now)) (omega (arith, is.0, first, short, s.now)) in
          rw (pulse, on) number)
    ]

-- at every lag of less than a slot
pub slots-agree : (k : ℕ) (past : List Sample) → k ≤ 39 → SlotsAgree k past
slots-agree k past small = record { found = slot-found k past; all = λ p i inside s. slot-all k past p i small s }
