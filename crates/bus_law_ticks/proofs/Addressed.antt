-- The mark of the last slot with a command for the terminal.
use Rattle.std.proofs.Common.{◌≡◌, ◌↔◌, ℕ, suc, ◌<◌, ◌≤◌, Bool, true, false, not, ◌&&◌, List, [], ◌∷◌, length, Option, Some, refl, sym, ap, ◌∙◌, subst, arith, inl, inr}
use Rattle.std.specs.Prelude.{is_some}
use Rattle.std.proofs.lemmas.Bool.{cases_Bool, cases_lt, and_parts, true≢false, not-true}
use Rattle.std.proofs.lemmas.Bool.Decides.{nat_tests}
use Rattle.bus_base.specs.declared.samples.Channel.{Channel}
use Rattle.bus_base.specs.declared.samples.Channel.TheVariants.{A, B}
use Rattle.bus_base.specs.declared.samples.Sample.{Sample}
use Rattle.bus_line.specs.Past.{first_tick, slot_word, slot_number, slot_now}
use Rattle.bus_line.specs.Bursts.{IsSlotNow}
use Rattle.bus_line.proofs.EndLaws.{cases-option}
use Rattle.bus_line.proofs.BurstLaws.{newest-is, burst-stopped}
use Rattle.bus_line.proofs.LookUpLaws.{slot-all, slots-agree}
use Rattle.bus_formats.specs.Plans.{TerminalData}
use Rattle.bus_model.specs.Memory.{Memory, TimedLoad}
use Rattle.bus_model.specs.Orders.{command_for}
use Rattle.bus_model.specs.Hearing.{Moment, heard_on, is_addressed}
use Rattle.bus_model.specs.Standing.{Standing, mark_on, ignored_from, is_from}
use Rattle.bus_model.specs.Terminal.{standing, after_tick, addressed_on}
use Rattle.bus_law_ticks.specs.Ticks.{before}
use Rattle.bus_law_ticks.specs.Heeding.{IsHeeded, IsAddressedAt}
use Rattle.bus_law_ticks.proofs.Before.{before-all, before-more}
use Rattle.bus_law_ticks.proofs.Marks.{stands, of, newest-before, heeded-is}

-- ---- a slot that ended in the newest tick

-- the slot with a command for the terminal
pub record HasCommand (k own : ℕ) (past : List Sample) : Type 0 where
  pub first : ℕ
  pub number : ℕ
  pub slot : IsSlotNow k past first number
  pub command : is_some (command_for own (slot_word past first number)) ≡ true

slot-first : (k : ℕ) (past : List Sample) (p i : ℕ) → IsSlotNow k past p i → p ≡ first_tick k past
slot-first k past p i s =
    let now = s.now in
    (newest-is k past p s.ticks s.burst (sym (burst-stopped k past p s.ticks s.burst (λ t late within. absurd (omega (arith, late, within, now)))))).0

command-found : (k own : ℕ) (past : List Sample) → k ≤ 39 → is_addressed own (slot_now k past) ≡ true → HasCommand k own past
command-found k own past small h = elim (cases-option (slot_number k past)) [
  | inl none ↦ absurd (true≢false (sym h ∙ (rw none refl)))
  | inr some ↦
      let agree = (slots-agree k past small).found in
      record {
        first = first_tick k past;
        number = some.0;
        slot = rw some.1 at agree;
        command = rw some.1 at h;
      }
]

command-all : (k own : ℕ) (past : List Sample) → k ≤ 39 → HasCommand k own past → is_addressed own (slot_now k past) ≡ true
command-all k own past small s =
    let number : slot_number k past ≡ Some s.number = slot-all k past s.first s.number small s.slot in
    let first : s.first ≡ first_tick k past = slot-first k past s.first s.number s.slot in
    rw number (subst (λ (p : ℕ). is_some (command_for own (slot_word past p s.number)) ≡ true) first s.command)

module _ (k : ℕ) (terminal : TerminalData) (loads : List TimedLoad) (memory : Memory) (c : Channel) (small : k ≤ 39) where
  -- what makes a tick one of an addressed slot, said of the ticks with it and before it
  abbrev pub Addresses : List Moment → List Moment → Type 0
  Addresses with_it earlier = HasCommand k terminal.address (heard_on c with_it) × IsHeeded k terminal loads (of k terminal loads memory earlier) c

  addressed-from : (ticks : List Moment) (t : ℕ) → t < length ticks → Addresses (before (suc t) ticks) (before t ticks) →
      IsAddressedAt k terminal loads (of k terminal loads memory ticks) c t
  addressed-from ticks t heard parts = record {
    heard = heard;
    first = parts.0.first;
    number = parts.0.number;
    slot = parts.0.slot;
    command = parts.0.command;
    heeded = parts.1;
  }

  addressed-parts : (ticks : List Moment) (t : ℕ) → IsAddressedAt k terminal loads (of k terminal loads memory ticks) c t →
      Addresses (before (suc t) ticks) (before t ticks)
  addressed-parts ticks t at = (record { first = at.first; number = at.number; slot = at.slot; command = at.command }, at.heeded)

  parts-same : (a b x y : List Moment) → a ≡ x → b ≡ y → Addresses a b → Addresses x y
  parts-same a b x y e f parts =
      subst (λ (xs : List Moment). Addresses x xs) f (subst (λ (xs : List Moment). Addresses xs b) e parts)

  addressed-more : (now : Moment) (past : List Moment) (t : ℕ) → IsAddressedAt k terminal loads (of k terminal loads memory past) c t →
      IsAddressedAt k terminal loads (of k terminal loads memory (now ∷ past)) c t
  addressed-more now past t at =
      let heard = at.heard in
      addressed-from (now ∷ past) t (omega (arith, heard))
      (parts-same _ _ _ _ (sym (before-more now past (suc t) (omega (arith, heard)))) (sym (before-more now past t (omega (arith, heard))))
      (addressed-parts past t at))

  addressed-less : (now : Moment) (past : List Moment) (t : ℕ) → t < length past → IsAddressedAt k terminal loads (of k terminal loads memory (now ∷ past)) c t →
      IsAddressedAt k terminal loads (of k terminal loads memory past) c t
  addressed-less now past t early at =
      addressed-from past t early
      (parts-same _ _ _ _ (before-more now past (suc t) (omega (arith, early))) (before-more now past t (omega (arith, early)))
      (addressed-parts (now ∷ past) t at))

  -- the newest tick
  newest-addressed : (now : Moment) (past : List Moment) (t : ℕ) → t ≡ length past → IsAddressedAt k terminal loads (of k terminal loads memory (now ∷ past)) c t →
      Addresses (now ∷ past) past
  newest-addressed now past t here at =
      parts-same _ _ _ _ (ap (λ (n : ℕ). before (suc n) (now ∷ past)) here ∙ before-all (now ∷ past))
      (ap (λ (n : ℕ). before n (now ∷ past)) here ∙ newest-before k terminal loads memory now past) (addressed-parts (now ∷ past) t at)

  addressed-newest : (now : Moment) (past : List Moment) → Addresses (now ∷ past) past →
      IsAddressedAt k terminal loads (of k terminal loads memory (now ∷ past)) c (length past)
  addressed-newest now past parts =
      addressed-from (now ∷ past) (length past) (omega arith)
      (parts-same _ _ _ _ (sym (before-all (now ∷ past))) (sym (newest-before k terminal loads memory now past)) parts)

  -- whether the newest tick is marked
  abbrev pub marks : Moment → List Moment → Bool
  marks now past =
      is_addressed terminal.address (slot_now k (heard_on c (now ∷ past)))
      && not (ignored_from k (heard_on c past) (mark_on (stands k terminal loads memory past).sent c))

  marks-parts : (now : Moment) (past : List Moment) → marks now past ≡ true → Addresses (now ∷ past) past
  marks-parts now past h =
      let both = and_parts (is_addressed terminal.address (slot_now k (heard_on c (now ∷ past)))) _ h in (
        command-found k terminal.address (heard_on c (now ∷ past)) small both.0,
        (heeded-is k terminal loads memory past c).0 (not-true _ both.1),
      )

  parts-marks : (now : Moment) (past : List Moment) → Addresses (now ∷ past) past → marks now past ≡ true
  parts-marks now past parts =
      rw (command-all k terminal.address (heard_on c (now ∷ past)) small parts.0, (heeded-is k terminal loads memory past c).1 parts.1) refl

  -- ---- the mark

  -- it is from a tick on exactly where there is an addressed slot in that tick or later
  abbrev pub IsFrom : List Moment → ℕ → Option ℕ → Type 0
  IsFrom ticks a mark =
      (is_from a mark ≡ true) ↔ ((t : ℕ) × (a ≤ t) × IsAddressedAt k terminal loads (of k terminal loads memory ticks) c t)

  from-new : (now : Moment) (past : List Moment) (a : ℕ) → marks now past ≡ true → IsFrom (now ∷ past) a (Some (length past))
  from-new now past a h = (
    λ from. (length past, grind (arith, nat_tests, from), addressed-newest now past (marks-parts now past h)),
    λ w. (let heard = w.2.heard in let low = w.1 in grind (arith, nat_tests, heard, low)),
  )

  from-stays : (now : Moment) (past : List Moment) (a : ℕ) (mark : Option ℕ) → marks now past ≡ false → IsFrom past a mark → IsFrom (now ∷ past) a mark
  from-stays now past a mark none is = (
    λ from. (let w = is.0 from in (w.0, w.1, addressed-more now past w.0 w.2)),
    λ w. elim (cases_lt w.0 (length past)) [
      | inl early ↦ is.1 (w.0, w.1, addressed-less now past w.0 early w.2)
      | inr newest ↦ absurd (
          let heard = w.2.heard in
          true≢false (sym (parts-marks now past (newest-addressed now past w.0 (omega (arith, newest, heard)) w.2)) ∙ none))
    ],
  )

  addressed-after : (on : Channel) (now : Moment) (past : List Moment) (s : Standing) →
      mark_on (after_tick k terminal loads now past s).addressed on ≡ addressed_on k terminal (now ∷ past) s on
  addressed-after A now past s = refl
  addressed-after B now past s = refl

  none-first : (on : Channel) (a : ℕ) → is_from a (mark_on (stands k terminal loads memory []).addressed on) ≡ false
  unfolding standing
  none-first A a = refl
  none-first B a = refl

  pub marked-from : (ticks : List Moment) (a : ℕ) → IsFrom ticks a (mark_on (stands k terminal loads memory ticks).addressed c)
  unfolding standing
  marked-from [] a = (
    λ from. absurd (true≢false (sym from ∙ none-first c a)),
    λ w. absurd (let heard = w.2.heard in omega (arith, heard)),
  )
  marked-from (now ∷ past) a =
      rw (addressed-after c now past (stands k terminal loads memory past))
      (elim (cases_Bool (marks now past)) [
        | inl h ↦ rw h (from-new now past a h)
        | inr none ↦ rw none (from-stays now past a (mark_on (stands k terminal loads memory past).addressed c) none (marked-from past a))
      ])
