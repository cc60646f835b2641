-- The words of the slots of the burst that runs, with one tick more; what an end and a slot tell of them.
use Rattle.std.proofs.Common.{◌≡◌, ℕ, suc, ◌+◌, ◌-◌, ◌*◌, ◌/◌, ◌<◌, ◌≤◌, true, false, not, ◌==◌, ◌&&◌, ◌||◌, nat_lt, List, [], ◌∷◌, ◌++◌, length, Some, None, Option, refl, sym, ap, ◌∙◌, subst, arith, inl, inr}
use Rattle.std.proofs.lemmas.Bool.{cases_lt, cases_eq, cases_Bool, or_parts, not-false}
use Rattle.std.proofs.lemmas.Bool.Decides.{nat_tests}
use Rattle.bus_base.specs.Samples.{is_quiet}
use Rattle.bus_base.specs.declared.samples.Sample.{Sample}
use Rattle.bus_base.specs.declared.samples.Sample.TheVariants.{Plus, Minus, Quiet}
use Rattle.bus_line.specs.Past.{Burst, Slot, quiet, stopped, runs, first_tick, slot_word, newest_burst, burst_from, ended_now, slot_number, slot_between, slot_now, slot_of}
use Rattle.bus_line.specs.Bursts.{IsSlotNow}
use Rattle.bus_line.specs.Cutting.{cut_now, running_slots, Collects, Closes, Fills}
use Rattle.bus_line.proofs.PastLaws.{quiet-le, stopped-more, stopped-pulse, runs-parts, runs-from, rests-from, runs-pulse, rests-more, first_tick-runs, first_tick-begins, first_tick-lt}
use Rattle.bus_line.proofs.TickLaws.{quiet-sample}
use Rattle.bus_line.proofs.SlotLaws.{burst-first, burst-ticks, slots-count, slots-none, slots-same, slots-next, burst_from-more, word-before}
use Rattle.bus_line.proofs.CutNow.{now-idle, now-pending, now-ended, now-begins, now-pulse, ended-more, ended-none}
use Rattle.bus_line.proofs.LookUpLaws.{between-some, slot-is-now, stopped-before}

-- where no burst runs there are no words
pub running-off : (k : ℕ) (past : List Sample) → runs k past ≡ false → running_slots k past ≡ []
unfolding running_slots
running-off k past off = rw off refl

-- where one runs, those of the newest burst
pub running-on : (k : ℕ) (past : List Sample) → runs k past ≡ true → running_slots k past ≡ (newest_burst k past).slots
unfolding running_slots
running-on k past on = rw on refl

-- the words so far, in the past with a tick more
slots-before : (k : ℕ) (x : Sample) (past : List Sample) → runs k past ≡ true →
    running_slots k past ≡ (burst_from (x ∷ past) (first_tick k past) (stopped past - first_tick k past)).slots
slots-before k x past on =
    let below : quiet past ≤ length past = quiet-le past in
    let less : first_tick k past < stopped past = first_tick-lt k past (runs-parts k past on).0 in
    running-on k past on ∙ ap (λ (b : Burst). b.slots)
    (sym (burst_from-more x past (first_tick k past) (stopped past - first_tick k past) (omega (arith, less, below))))

-- the words with a tick that isn't quiet
slots-with : (k : ℕ) (x : Sample) (past : List Sample) → is_quiet x ≡ false → runs k past ≡ true →
    running_slots k (x ∷ past) ≡ (burst_from (x ∷ past) (first_tick k past) (suc (length past) - first_tick k past)).slots
slots-with k x past pulse on =
    let first : first_tick k (x ∷ past) ≡ first_tick k past = first_tick-runs k x past on in
    let now : stopped (x ∷ past) ≡ suc (length past) = stopped-pulse x past pulse in
    running-on k (x ∷ past) (runs-pulse k x past pulse) ∙ (rw (first, now) refl)

-- a quiet tick adds none
collects-quiet : (k : ℕ) (past : List Sample) → Collects (cut_now k (Quiet ∷ past)) (running_slots k past) (running_slots k (Quiet ∷ past))
collects-quiet k past = elim (cases_Bool (runs k past)) [
  | inr off ↦ rw (now-idle k past off) (running-off k (Quiet ∷ past) (rests-more k past off) ∙ sym (running-off k past off))
  | inl on ↦ elim (cases_eq (quiet past) k) [
    | inl all ↦ rw (now-ended k past on all) (
      sym (ap length (running-on k past on) ∙ slots-count past (first_tick k past) (stopped past - first_tick k past)),
      running-off k (Quiet ∷ past) (rests-from k (Quiet ∷ past) (inr (omega (arith, all)))),
    )
    | inr few ↦ (
        let less : quiet past < k = (let most = (runs-parts k past on).1 in omega (arith, few, most)) in
        let more : stopped (Quiet ∷ past) ≡ stopped past = stopped-more past in
        let still : runs k (Quiet ∷ past) ≡ true = runs-from k (Quiet ∷ past) (let some = (runs-parts k past on).0 in omega (arith, more, some)) (omega (arith, less)) in
        rw (now-pending k past less) (running-on k (Quiet ∷ past) still ∙ (rw more (sym (slots-before k Quiet past on)))))
  ]
]

-- so many ticks make no slot whole, or one
collects-pulse : (k : ℕ) (x : Sample) (past : List Sample) → k ≤ 39 → is_quiet x ≡ false → runs k past ≡ true →
    Collects (cut_now k (x ∷ past)) (running_slots k past) (running_slots k (x ∷ past))
collects-pulse k x past small pulse on =
    let below : quiet past ≤ length past = quiet-le past in
    let few : quiet past ≤ k = (runs-parts k past on).1 in
    let less : first_tick k past < stopped past = first_tick-lt k past (runs-parts k past on).0 in
    let before : ℕ = stopped past - first_tick k past in
    let now : ℕ = suc (length past) - first_tick k past in
    let old = slots-before k x past on in
    let new = slots-with k x past pulse on in
    elim (cases_eq ((suc (length past) - first_tick k past) / 40) ((stopped past - first_tick k past) / 40)) [
      | inl same ↦ (
          let number : slot_between (stopped past - first_tick k past) (suc (length past) - first_tick k past) ≡ None = grind (arith, nat_tests, same) in
          rw (now-pulse k x past None pulse on number)
          (new ∙ slots-same (x ∷ past) (first_tick k past) (stopped past - first_tick k past) (suc (length past) - first_tick k past) same ∙ sym old))
      | inr other ↦ (
          let next : (suc (length past) - first_tick k past) / 40 ≡ suc ((stopped past - first_tick k past) / 40) = omega (arith, other, small, few, less, below) in
          let last : (suc (length past) - first_tick k past) / 40 - 1 ≡ (stopped past - first_tick k past) / 40 = omega (arith, next) in
          let number : slot_between (stopped past - first_tick k past) (suc (length past) - first_tick k past) ≡ Some ((stopped past - first_tick k past) / 40) =
          grind (arith, nat_tests, next, last) in
          rw (now-pulse k x past (Some ((stopped past - first_tick k past) / 40)) pulse on number) (
            sym (ap length old ∙ slots-count (x ∷ past) (first_tick k past) (stopped past - first_tick k past)),
            new ∙ slots-next (x ∷ past) (first_tick k past) (stopped past - first_tick k past) (suc (length past) - first_tick k past) next
                ∙ ap (λ ws. ws ++ slot_word (x ∷ past) (first_tick k past) ((stopped past - first_tick k past) / 40) ∷ []) (sym old),
          ))
    ]

-- the first tick of a burst adds none
collects-begins : (k : ℕ) (x : Sample) (past : List Sample) → is_quiet x ≡ false → runs k past ≡ false →
    Collects (cut_now k (x ∷ past)) (running_slots k past) (running_slots k (x ∷ past))
collects-begins k x past pulse off =
    let first : first_tick k (x ∷ past) ≡ length past = first_tick-begins k x past off pulse in
    let now : stopped (x ∷ past) ≡ suc (length past) = stopped-pulse x past pulse in
    rw (now-begins k x past pulse off)
    (running-on k (x ∷ past) (runs-pulse k x past pulse)
    ∙ slots-none (x ∷ past) (first_tick k (x ∷ past)) (stopped (x ∷ past) - first_tick k (x ∷ past)) (omega (arith, first, now))
    ∙ sym (running-off k past off))

-- each sample's cut adds to the words collected, at every lag below a slot
pub cut-collects : (k : ℕ) (x : Sample) (past : List Sample) → k ≤ 39 → Collects (cut_now k (x ∷ past)) (running_slots k past) (running_slots k (x ∷ past))
cut-collects k x past small = elim (cases_Bool (is_quiet x)) [
  | inl q ↦ rw (quiet-sample x q) (collects-quiet k past)
  | inr pulse ↦ elim (cases_Bool (runs k past)) [
    | inl on ↦ collects-pulse k x past small pulse on
    | inr off ↦ collects-begins k x past pulse off
  ]
]

-- ---- an end

-- quiet tick k + 1 ends the burst that ran
closes-quiet : (k : ℕ) (past : List Sample) (burst : Burst) → quiet past ≡ k → 0 < stopped past → ended_now k (Quiet ∷ past) ≡ Some burst →
    Closes k Quiet past burst
closes-quiet k past burst all some h =
    let on : runs k past ≡ true = runs-from k past some (omega (arith, all)) in
    let below : quiet past ≤ length past = quiet-le past in
    let less : first_tick k past < stopped past = first_tick-lt k past some in
    let is : Some burst ≡ Some (newest_burst k past) = sym h ∙ ended-more k past on all in
    let same : burst ≡ newest_burst k past = cc in
    let ticks : (newest_burst k past).ticks ≡ stopped past - first_tick k past = burst-ticks past (first_tick k past) (stopped past - first_tick k past) in
    let first : (newest_burst k past).first ≡ first_tick k past = burst-first past (first_tick k past) (stopped past - first_tick k past) in
    let count : length (newest_burst k past).slots ≡ (stopped past - first_tick k past) / 40 =
    slots-count past (first_tick k past) (stopped past - first_tick k past) in
    rw same record {
      ran = on;
      first = first;
      slots = sym (running-on k past on);
      ended = rw (first, ticks, count) (omega (arith, all, less, below));
    }

-- an end tells of the burst that ran until then
pub end-closes : (k : ℕ) (x : Sample) (past : List Sample) (burst : Burst) → ended_now k (x ∷ past) ≡ Some burst → Closes k x past burst
end-closes k Plus past burst h = (let none : None ≡ Some burst = sym (ended-none k Plus past refl) ∙ h in cc)
end-closes k Minus past burst h = (let none : None ≡ Some burst = sym (ended-none k Minus past refl) ∙ h in cc)
end-closes k Quiet past burst h = elim (cases_Bool ((suc (quiet past) == suc k) && nat_lt 0 (stopped (Quiet ∷ past)))) [
  | inr fails ↦ (let bad : ended_now k (Quiet ∷ past) ≡ None = rw fails refl in let f : None ≡ Some burst = sym bad ∙ h in cc)
  | inl holds ↦ (
      let more : stopped (Quiet ∷ past) ≡ stopped past = stopped-more past in
      let both : (quiet past ≡ k) × (0 < stopped past) = (grind (arith, nat_tests, holds), grind (arith, nat_tests, holds, more)) in
      closes-quiet k past burst both.0 both.1 h)
]

-- ---- a slot

-- where a slot's last tick is before the newest it was quiet, and so the slot has no word
late-none : (k : ℕ) (x : Sample) (past : List Sample) (p i : ℕ) → IsSlotNow k (x ∷ past) p i → p + 40 * i + 40 ≤ length past → slot_word (x ∷ past) p i ≡ None
unfolding slot_word
late-none k x past p i s late =
    let stop : stopped past ≤ p + 40 * i + 39 = stopped-before x past (p + 40 * i + 39) (omega (arith, late)) s.since in
    let below : quiet past ≤ length past = quiet-le past in
    word-before (p + 40 * i) (length past - (p + 40 * i + 40)) x past (omega (arith, late)) (omega (arith, stop, below, late))

-- a slot that became whole is the next
fills-at : (k : ℕ) (x : Sample) (past : List Sample) (i : ℕ) → k ≤ 39 → is_quiet x ≡ false → runs k past ≡ true →
    slot_between (stopped past - first_tick k past) (suc (length past) - first_tick k past) ≡ Some i →
    Fills k x past record { first = first_tick k (x ∷ past) + 40 * i; word = slot_word (x ∷ past) (first_tick k (x ∷ past)) i }
fills-at k x past i small pulse on found =
    let s = slot-is-now k x past i pulse on found in
    let parts = between-some (stopped past - first_tick k past) (suc (length past) - first_tick k past) i found in
    let below : quiet past ≤ length past = quiet-le past in
    let few : quiet past ≤ k = (runs-parts k past on).1 in
    let less : first_tick k past < stopped past = first_tick-lt k past (runs-parts k past on).0 in
    let first : first_tick k (x ∷ past) ≡ first_tick k past = first_tick-runs k x past on in
    let count : length (running_slots k past) ≡ (stopped past - first_tick k past) / 40 =
    ap length (running-on k past on) ∙ slots-count past (first_tick k past) (stopped past - first_tick k past) in
    record {
      ran = on;
      first = omega (arith, first, count, parts.0, parts.1, few, small, less, below);
      whole = omega (arith, s.whole, s.now);
      late = omega (arith, first, parts.0, few, less, below);
      word = λ some. elim (cases_lt (length past) (first_tick k (x ∷ past) + 40 * i + 40)) [
        | inl now ↦ omega (arith, now, s.whole, s.now)
        | inr old ↦ absurd (let none : slot_word (x ∷ past) (first_tick k (x ∷ past)) i ≡ None = late-none k x past (first_tick k (x ∷ past)) i s old in let bad : false ≡ true = rw none at some in cc)
      ];
    }

-- the same, by the number that is looked up
fills-number : (k : ℕ) (x : Sample) (past : List Sample) (slot : Slot) (number : Option ℕ) → ((i : ℕ) → number ≡ Some i →
    Fills k x past record { first = first_tick k (x ∷ past) + 40 * i; word = slot_word (x ∷ past) (first_tick k (x ∷ past)) i }) →
    slot_of (x ∷ past) (first_tick k (x ∷ past)) number ≡ Some slot → Fills k x past slot
fills-number k x past slot None all h = cc
fills-number k x past slot (Some i) all h =
    let is : record { first = first_tick k (x ∷ past) + 40 * i; word = slot_word (x ∷ past) (first_tick k (x ∷ past)) i } ≡ slot = cc in
    subst (λ s. Fills k x past s) is (all i refl)

-- a slot that ended is the next of the burst that runs
pub slot-fills : (k : ℕ) (x : Sample) (past : List Sample) (slot : Slot) → k ≤ 39 → slot_now k (x ∷ past) ≡ Some slot → Fills k x past slot
slot-fills k x past slot small h = elim (cases_Bool (is_quiet x || not (runs k past))) [
  | inl fails ↦ (let none : slot_number k (x ∷ past) ≡ None = rw fails refl in
      let f : None ≡ Some slot = sym (ap (slot_of (x ∷ past) (first_tick k (x ∷ past))) none) ∙ h in cc)
  | inr holds ↦ (
      let parts = or_parts (is_quiet x) (not (runs k past)) holds in
      let number : slot_number k (x ∷ past) ≡ slot_between (stopped past - first_tick k past) (suc (length past) - first_tick k past) = rw holds refl in
      fills-number k x past slot (slot_between (stopped past - first_tick k past) (suc (length past) - first_tick k past))
      (λ i found. fills-at k x past i small parts.0 (not-false (runs k past) parts.1) found)
      (sym (ap (slot_of (x ∷ past) (first_tick k (x ∷ past))) number) ∙ h))
]
