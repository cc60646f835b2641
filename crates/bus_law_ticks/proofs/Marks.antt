-- The mark of a terminal's own transmission on a channel, and when the channel is heeded.
use Rattle.std.proofs.Common.{◌≡◌, ◌↔◌, ℕ, ◌<◌, ◌≤◌, true, false, ◌&&◌, List, [], ◌∷◌, length, Option, Some, None, is_none, refl, sym, ap, ◌∙◌, subst, arith, inl, inr}
use Rattle.std.proofs.lemmas.Bool.{cases_Bool, cases_lt, and_parts, true≢false}
use Rattle.bus_base.specs.Samples.{same_channel}
use Rattle.bus_base.specs.declared.samples.Channel.{Channel}
use Rattle.bus_base.specs.declared.samples.Channel.TheVariants.{A, B}
use Rattle.bus_base.specs.declared.samples.Sample.{Sample}
use Rattle.bus_line.specs.Past.{end_since}
use Rattle.bus_line.specs.Bursts.{IsEndSince}
use Rattle.bus_line.proofs.EndLaws.{cases-option, end_since-none, end_since-is, end_since-found}
use Rattle.bus_formats.specs.Plans.{TerminalData}
use Rattle.bus_model.specs.Memory.{Memory, TimedLoad}
use Rattle.bus_model.specs.Hearing.{Moment, Hearing, heard_on}
use Rattle.bus_model.specs.Standing.{Standing, mark_on, ignored_from}
use Rattle.bus_model.specs.Terminal.{standing, after_tick, begins, sent_on}
use Rattle.bus_law_ticks.specs.Ticks.{before}
use Rattle.bus_law_ticks.specs.Heeding.{BeginsAt, IsHeeded}
use Rattle.bus_law_ticks.proofs.Before.{before-all, before-more}

pub same-own : (c : Channel) → same_channel c c ≡ true
same-own A = refl
same-own B = refl

pub same-true : (a b : Channel) → same_channel a b ≡ true → a ≡ b
same-true A A h = refl
same-true B B h = refl
same-true A B h = cc
same-true B A h = cc

module _ (k : ℕ) (terminal : TerminalData) (loads : List TimedLoad) (memory : Memory) where
  -- what stands after some ticks, and the hearing itself
  abbrev pub stands : List Moment → Standing
  stands ticks = standing k terminal loads memory ticks

  abbrev pub of : List Moment → Hearing
  of ticks = record { memory = memory; ticks = ticks }

  -- ---- the tick in which an answer begins

  begins-same : (c : Channel) (ticks other : List Moment) → other ≡ ticks → begins k terminal ticks (stands ticks) ≡ true → (stands ticks).channel ≡ c →
      (begins k terminal other (stands other) ≡ true) × ((stands other).channel ≡ c)
  begins-same c ticks other same begun on =
      subst (λ (xs : List Moment). (begins k terminal xs (stands xs) ≡ true) × ((stands xs).channel ≡ c)) (sym same) (begun, on)

  begins-more : (now : Moment) (past : List Moment) (c : Channel) (t : ℕ) → BeginsAt k terminal loads (of past) c t →
      BeginsAt k terminal loads (of (now ∷ past)) c t
  begins-more now past c t at =
      let heard = at.heard in
      let both = begins-same c (before t past) (before t (now ∷ past)) (before-more now past t (omega (arith, heard))) at.begins_in at.channel in
      record { heard = omega (arith, heard); begins_in = both.0; channel = both.1 }

  begins-less : (now : Moment) (past : List Moment) (c : Channel) (t : ℕ) → t < length past → BeginsAt k terminal loads (of (now ∷ past)) c t →
      BeginsAt k terminal loads (of past) c t
  begins-less now past c t early at =
      let both = begins-same c (before t (now ∷ past)) (before t past) (sym (before-more now past t (omega (arith, early)))) at.begins_in at.channel in
      record { heard = early; begins_in = both.0; channel = both.1 }

  -- before the newest tick
  pub newest-before : (now : Moment) (past : List Moment) → before (length past) (now ∷ past) ≡ past
  newest-before now past = before-more now past (length past) (omega arith) ∙ before-all past

  begins-newest : (now : Moment) (past : List Moment) (c : Channel) → begins k terminal past (stands past) ≡ true → (stands past).channel ≡ c →
      BeginsAt k terminal loads (of (now ∷ past)) c (length past)
  begins-newest now past c begun on =
      let both = begins-same c past (before (length past) (now ∷ past)) (newest-before now past) begun on in
      record { heard = omega arith; begins_in = both.0; channel = both.1 }

  newest-begins : (now : Moment) (past : List Moment) (c : Channel) (t : ℕ) → t ≡ length past → BeginsAt k terminal loads (of (now ∷ past)) c t →
      (begins k terminal past (stands past) ≡ true) × ((stands past).channel ≡ c)
  newest-begins now past c t here at =
      begins-same c (before t (now ∷ past)) past (sym (ap (λ (n : ℕ). before n (now ∷ past)) here ∙ newest-before now past)) at.begins_in at.channel

  -- ---- the mark

  -- a mark is the last tick in which an answer began on the channel, and there is none where none began
  abbrev pub IsMark : List Moment → Channel → Option ℕ → Type 0
  IsMark ticks c None = (t : ℕ) → BeginsAt k terminal loads (of ticks) c t → ⊥
  IsMark ticks c (Some u) = BeginsAt k terminal loads (of ticks) c u × ((t : ℕ) → BeginsAt k terminal loads (of ticks) c t → t ≤ u)

  -- a tick in which no answer begins there
  mark-stays : (now : Moment) (past : List Moment) (c : Channel) (mark : Option ℕ) →
      (begins k terminal past (stands past) && same_channel (stands past).channel c) ≡ false → IsMark past c mark → IsMark (now ∷ past) c mark
  mark-stays now past c mark none is = by mark is where
    earlier : (t : ℕ) → BeginsAt k terminal loads (of (now ∷ past)) c t → BeginsAt k terminal loads (of past) c t
    earlier t at = elim (cases_lt t (length past)) [
      | inl early ↦ begins-less now past c t early at
      | inr newest ↦ absurd (
          let heard = at.heard in
          let both = newest-begins now past c t (omega (arith, newest, heard)) at in
          true≢false (sym (rw (both.0, both.1) (same-own c)) ∙ none))
    ]

    by : (o : Option ℕ) → IsMark past c o → IsMark (now ∷ past) c o
    by None bare = λ t at. bare t (earlier t at)
    by (Some u) marked = (begins-more now past c u marked.0, λ t at. marked.1 t (earlier t at))

  mark-new : (now : Moment) (past : List Moment) (c : Channel) →
      (begins k terminal past (stands past) && same_channel (stands past).channel c) ≡ true → IsMark (now ∷ past) c (Some (length past))
  mark-new now past c both =
      let parts = and_parts (begins k terminal past (stands past)) (same_channel (stands past).channel c) both in
      (begins-newest now past c parts.0 (same-true (stands past).channel c parts.1), λ t at. (let heard = at.heard in omega (arith, heard)))

  sent-after : (now : Moment) (past : List Moment) (c : Channel) (s : Standing) →
      mark_on (after_tick k terminal loads now past s).sent c ≡ sent_on k terminal past s c
  sent-after now past A s = refl
  sent-after now past B s = refl

  pub sent-mark : (ticks : List Moment) (c : Channel) → IsMark ticks c (mark_on (stands ticks).sent c)
  unfolding standing
  sent-mark [] A = λ t at. (let heard = at.heard in absurd (omega (arith, heard)))
  sent-mark [] B = λ t at. (let heard = at.heard in absurd (omega (arith, heard)))
  sent-mark (now ∷ past) c =
      rw (sent-after now past c (stands past))
      (elim (cases_Bool (begins k terminal past (stands past) && same_channel (stands past).channel c)) [
        | inl both ↦ rw both (mark-new now past c both)
        | inr none ↦ rw none (mark-stays now past c (mark_on (stands past).sent c) none (sent-mark past c))
      ])

-- ---- heeding

-- what began earlier has its end where what began later has
earlier-end : (k : ℕ) (past : List Sample) (t u e : ℕ) → t ≤ u → IsEndSince k past u e → (d : ℕ) × IsEndSince k past t d
earlier-end k past t u e low is = elim (cases-option (end_since k past t)) [
  | inr found ↦ (found.0, end_since-is k past t found.0 found.1)
  | inl none ↦ absurd (
      let from = is.from in let known = is.known in
      let w = end_since-none k past t e none (omega (arith, low, from)) (omega (arith, known)) in
      w.3 (is.quiet w.0 w.1 (omega (arith, w.2))))
]

none-false : (o : Option ℕ) → is_none o ≡ false → (e : ℕ) × (o ≡ Some e)
none-false None h = absurd (true≢false h)
none-false (Some e) h = (e, refl)

module _ (k : ℕ) (terminal : TerminalData) (loads : List TimedLoad) (memory : Memory) (ticks : List Moment) (c : Channel) where
  heeded-by : (mark : Option ℕ) → IsMark k terminal loads memory ticks c mark → ignored_from k (heard_on c ticks) mark ≡ false →
      IsHeeded k terminal loads (of k terminal loads memory ticks) c
  heeded-by None bare off = λ t at. absurd (bare t at)
  heeded-by (Some u) marked off = λ t at.
      let end = none-false (end_since k (heard_on c ticks) u) off in
      earlier-end k (heard_on c ticks) t u end.0 (marked.1 t at) (end_since-is k (heard_on c ticks) u end.0 end.1)

  ignored-by : (mark : Option ℕ) → IsMark k terminal loads memory ticks c mark → IsHeeded k terminal loads (of k terminal loads memory ticks) c →
      ignored_from k (heard_on c ticks) mark ≡ false
  ignored-by None bare heeded = refl
  ignored-by (Some u) marked heeded =
      let end = heeded u marked.0 in
      ap is_none (end_since-found k (heard_on c ticks) u end.0 end.1)

  -- a channel isn't ignored exactly where it is heeded
  pub heeded-is : (ignored_from k (heard_on c ticks) (mark_on (standing k terminal loads memory ticks).sent c) ≡ false)
      ↔ IsHeeded k terminal loads (of k terminal loads memory ticks) c
  heeded-is =
      let is = sent-mark k terminal loads memory ticks c in
      (heeded-by (mark_on (standing k terminal loads memory ticks).sent c) is, ignored-by (mark_on (standing k terminal loads memory ticks).sent c) is)
