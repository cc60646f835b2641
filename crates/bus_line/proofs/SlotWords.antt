-- A slot of one channel that a word is spelled by, by tick numbers and as it is looked up. For every lag below a slot.
use Rattle.std.proofs.Common.{◌≡◌, ℕ, suc, ◌+◌, ◌*◌, ◌≤◌, false, List, [], ◌∷◌, ◌++◌, length, Some, None, Option, refl, sym, ap, ◌∙◌, arith, inl, inr}
use Rattle.std.proofs.lemmas.Bool.{cases_Bool}
use Rattle.bus_base.specs.Samples.{is_quiet}
use Rattle.bus_base.specs.declared.samples.Sample.{Sample}
use Rattle.bus_base.specs.declared.samples.Sample.TheVariants.{Quiet}
use Rattle.bus_words.specs.declared.word.Word.{Word}
use Rattle.bus_line.specs.Spelling.{Spells, word_in}
use Rattle.bus_line.specs.Past.{Slot, first_tick, samples_from, slot_word, slot_number, slot_now, slot_of}
use Rattle.bus_line.specs.Bursts.{IsSlot, IsSlotNow}
use Rattle.bus_line.proofs.Guessed.{word_in-some, word_in-spells}
use Rattle.bus_line.proofs.TickLaws.{at-now, heard-sample, quiet-sample}
use Rattle.bus_line.proofs.BurstLaws.{burst-more, burst-cut, burst-stopped, newest-is}
use Rattle.bus_line.proofs.SlotLaws.{samples-later, newest-from, newest-quiet}
use Rattle.bus_line.proofs.CollectLaws.{slot-fills}
use Rattle.bus_line.proofs.LookUpLaws.{slots-agree, slot-all}

-- a slot is there with a tick more
pub slot-more : (k : ℕ) (x : Sample) (past : List Sample) (q : ℕ) → IsSlot k past q → IsSlot k (x ∷ past) q
slot-more k x past q s =
    let more = burst-more k x past s.first s.ticks s.burst in
    record { first = s.first; ticks = more.0; number = s.number; burst = more.2; place = s.place; whole = omega (arith, s.whole, more.1) }

-- a slot is within the past
pub slot-inside : (k : ℕ) (past : List Sample) (q : ℕ) → IsSlot k past q → q + 40 ≤ length past
slot-inside k past q s = omega (arith, s.place, s.whole, s.burst.stretch.inside)

-- a word that a slot spells which ended in the newest tick
pub record IsWordNow (k : ℕ) (past : List Sample) (q : ℕ) (word : Word) : Type 0 where
  pub slot : IsSlot k past q
  pub spelled : Spells word (samples_from past q 40)
  pub now : q + 40 ≡ length past

-- the parts of a slot that is looked up
some-slot : (past : List Sample) (p : ℕ) (number : Option ℕ) (slot : Slot) → slot_of past p number ≡ Some slot →
    (i : ℕ) × (number ≡ Some i) × (slot.first ≡ p + 40 * i) × (slot.word ≡ slot_word past p i)
some-slot past p None slot h = cc
some-slot past p (Some i) slot h =
    let is : record { first = p + 40 * i; word = slot_word past p i } ≡ slot = cc in
    (i, refl, ap (λ (s : Slot). s.first) (sym is), ap (λ (s : Slot). s.word) (sym is))

-- a slot that is looked up with a word spells it by tick numbers
pub now-word : (k : ℕ) (x : Sample) (past : List Sample) (slot : Slot) (word : Word) → k ≤ 39 → slot_now k (x ∷ past) ≡ Some slot → slot.word ≡ Some word →
    IsWordNow k (x ∷ past) slot.first word
unfolding slot_word
now-word k x past slot word small h has =
    let at = some-slot (x ∷ past) (first_tick k (x ∷ past)) (slot_number k (x ∷ past)) slot h in
    let s : IsSlotNow k (x ∷ past) (first_tick k (x ∷ past)) at.0 = (let found = (slots-agree k (x ∷ past) small).found in rw at.1 at found) in
    let fills = slot-fills k x past slot small h in
    let spelled : word_in (samples_from (x ∷ past) (first_tick k (x ∷ past) + 40 * at.0) 40) ≡ Some word = sym at.3 ∙ has in
    record {
      slot = record { first = first_tick k (x ∷ past); ticks = s.ticks; number = at.0; burst = s.burst; place = at.2; whole = s.whole };
      spelled = rw at.2 (word_in-some (samples_from (x ∷ past) (first_tick k (x ∷ past) + 40 * at.0) 40) word spelled);
      now = fills.word (rw has refl);
    }

-- and the other way
pub word-now : (k : ℕ) (past : List Sample) (q : ℕ) (word : Word) → k ≤ 39 → IsWordNow k past q word →
    slot_now k past ≡ Some record { first = q; word = Some word }
unfolding slot_word
word-now k past q word small w =
    let end : w.slot.first + w.slot.ticks ≡ length past = omega (arith, w.slot.place, w.slot.whole, w.slot.burst.stretch.inside, w.now) in
    let s : IsSlotNow k past w.slot.first w.slot.number = record {
      ticks = w.slot.ticks;
      burst = w.slot.burst;
      whole = w.slot.whole;
      now = end;
      since = λ t a b. absurd (omega (arith, a, b, w.slot.place, w.now));
    } in
    let number : slot_number k past ≡ Some w.slot.number = slot-all k past w.slot.first w.slot.number small s in
    let stop = burst-stopped k past w.slot.first w.slot.ticks w.slot.burst (λ t a b. absurd (omega (arith, a, b, end))) in
    let first : first_tick k past ≡ w.slot.first = sym (newest-is k past w.slot.first w.slot.ticks w.slot.burst (sym stop)).0 in
    let at : first_tick k past + 40 * w.slot.number ≡ q = omega (arith, first, w.slot.place) in
    ap (slot_of past (first_tick k past)) number ∙ (rw (at, word_in-spells (samples_from past q 40) word w.spelled) refl)

-- the last of the samples that spell a word isn't quiet
last-heard : (x : Sample) (past : List Sample) (q : ℕ) (word : Word) → q + 40 ≡ suc (length past) → Spells word (samples_from (x ∷ past) q 40) → is_quiet x ≡ false
last-heard x past q word here spelled = elim (cases_Bool (is_quiet x)) [
  | inr pulse ↦ pulse
  | inl q_x ↦ absurd (
      let at : x ≡ Quiet = quiet-sample x q_x in
      let some : word_in (samples_from (x ∷ past) q 40) ≡ Some word = word_in-spells (samples_from (x ∷ past) q 40) word spelled in
      let none : word_in (samples_from (x ∷ past) q 40) ≡ None = rw (newest-from (x ∷ past) q 40 here, at) (newest-quiet past) in
      let bad : None ≡ Some word = sym none ∙ some in cc)
]

-- in the past up to a slot's last tick it is the slot that ended in the newest
pub word-cut : (k : ℕ) (later past : List Sample) (q : ℕ) (word : Word) → IsSlot k (later ++ past) q → Spells word (samples_from (later ++ past) q 40) →
    q + 40 ≡ length past → IsWordNow k past q word
word-cut k later [] q word s spelled here = absurd (omega (arith, here))
word-cut k later (x ∷ past) q word s spelled here =
    let same : samples_from (later ++ (x ∷ past)) q 40 ≡ samples_from (x ∷ past) q 40 = samples-later later (x ∷ past) q 40 (omega (arith, here)) in
    let own : Spells word (samples_from (x ∷ past) q 40) = rw same at spelled in
    let pulse : is_quiet x ≡ false = last-heard x past q word here own in
    record {
      slot = record {
        first = s.first;
        ticks = 40 * s.number + 40;
        number = s.number;
        burst = burst-cut k later (x ∷ past) s.first s.ticks (40 * s.number + 40) s.burst (omega (arith, s.place, here)) (omega arith) s.whole
            (λ t e. let at : t ≡ length past = omega (arith, e, s.place, here) in rw at (λ h. heard-sample x pulse (sym (at-now x past) ∙ h)));
        place = s.place;
        whole = omega arith;
      };
      spelled = own;
      now = here;
    }
