-- What stands is what the last order left, the marks aside.
use Rattle.std.proofs.Common.{◌≡◌, ℕ, suc, ◌<◌, List, [], ◌∷◌, length, Option, Some, None, refl, sym, ap, ◌∙◌, subst, arith, inl, inr}
use Rattle.std.proofs.lemmas.Bool.{cases_lt}
use Rattle.bus_formats.specs.Plans.{TerminalData}
use Rattle.bus_model.specs.Memory.{Memory, TimedLoad}
use Rattle.bus_model.specs.Hearing.{Moment}
use Rattle.bus_model.specs.Standing.{Standing, Handled, at_rest}
use Rattle.bus_model.specs.Terminal.{standing, after_order, done_in, ordered, order_now, marked_by}
use Rattle.bus_law_ticks.specs.Ticks.{before, stood}
use Rattle.bus_law_ticks.specs.LastOrders.{HandledAt, HandledLastAt, SameButMarks}
use Rattle.bus_law_ticks.proofs.Before.{before-all, before-more}
use Rattle.bus_law_ticks.proofs.Marks.{of, stands, newest-before}

same-own : (s : Standing) → SameButMarks s s
same-own s = record { memory = refl; channel = refl; end = refl; duty = refl; part = refl }

same-then : (s t u : Standing) → SameButMarks s t → SameButMarks t u → SameButMarks s u
same-then s t u a b = record {
  memory = a.memory ∙ b.memory;
  channel = a.channel ∙ b.channel;
  end = a.end ∙ b.end;
  duty = a.duty ∙ b.duty;
  part = a.part ∙ b.part;
}

head-is : (a b : Moment) (xs ys : List Moment) → a ∷ xs ≡ b ∷ ys → a ≡ b
head-is a b xs ys e = cc

module _ (k : ℕ) (terminal : TerminalData) (loads : List TimedLoad) (memory : Memory) where
  -- what an order in a tick leaves, where these ticks came before it
  abbrev pub left : List Moment → Moment → Handled → Standing
  left past now order =
      after_order (stands k terminal loads memory past) order
      (done_in k terminal loads (length past) now.has_items (stands k terminal loads memory past) order)

  -- a tick with an order, and one without
  with-order : (now : Moment) (past : List Moment) (order : Handled) → order_now k terminal (now ∷ past) (stands k terminal loads memory past) ≡ Some order →
      SameButMarks (stands k terminal loads memory (now ∷ past)) (left past now order)
  unfolding standing
  with-order now past order is =
      let s : Standing = stands k terminal loads memory past in
      subst (λ (o : Option Handled). SameButMarks (marked_by k terminal now past s (ordered k terminal loads (length past) now.has_items s o)) (left past now order))
      (sym is) record { memory = refl; channel = refl; end = refl; duty = refl; part = refl }

  no-order : (now : Moment) (past : List Moment) → order_now k terminal (now ∷ past) (stands k terminal loads memory past) ≡ None →
      SameButMarks (stands k terminal loads memory (now ∷ past)) (stands k terminal loads memory past)
  unfolding standing
  no-order now past is =
      let s : Standing = stands k terminal loads memory past in
      subst (λ (o : Option Handled). SameButMarks (marked_by k terminal now past s (ordered k terminal loads (length past) now.has_items s o)) s)
      (sym is) record { memory = refl; channel = refl; end = refl; duty = refl; part = refl }

  -- ---- the tick of an order

  abbrev pub Handles : List Moment → List Moment → Moment → Handled → Type 0
  Handles with_it earlier now order =
      (with_it ≡ now ∷ earlier) × (order_now k terminal (now ∷ earlier) (stands k terminal loads memory earlier) ≡ Some order)

  handles-same : (a b x y : List Moment) (now : Moment) (order : Handled) → a ≡ x → b ≡ y → Handles a b now order → Handles x y now order
  handles-same a b x y now order e f h =
      subst (λ (xs : List Moment). Handles x xs now order) f (subst (λ (xs : List Moment). Handles xs b now order) e h)

  handled-from : (ticks : List Moment) (t : ℕ) (now : Moment) (order : Handled) → t < length ticks → Handles (before (suc t) ticks) (before t ticks) now order →
      HandledAt k terminal loads (of k terminal loads memory ticks) t now order
  handled-from ticks t now order heard h = record { heard = heard; ticks_are = h.0; handled = h.1 }

  handled-more : (moment : Moment) (past : List Moment) (t : ℕ) (now : Moment) (order : Handled) →
      HandledAt k terminal loads (of k terminal loads memory past) t now order →
      HandledAt k terminal loads (of k terminal loads memory (moment ∷ past)) t now order
  handled-more moment past t now order at =
      let heard = at.heard in
      handled-from (moment ∷ past) t now order (omega (arith, heard))
      (handles-same _ _ _ _ now order (sym (before-more moment past (suc t) (omega (arith, heard)))) (sym (before-more moment past t (omega (arith, heard))))
      (at.ticks_are, at.handled))

  handled-less : (moment : Moment) (past : List Moment) (t : ℕ) (now : Moment) (order : Handled) → t < length past →
      HandledAt k terminal loads (of k terminal loads memory (moment ∷ past)) t now order →
      HandledAt k terminal loads (of k terminal loads memory past) t now order
  handled-less moment past t now order early at =
      handled-from past t now order early
      (handles-same _ _ _ _ now order (before-more moment past (suc t) (omega (arith, early))) (before-more moment past t (omega (arith, early)))
      (at.ticks_are, at.handled))

  handled-newest : (now : Moment) (past : List Moment) (order : Handled) → order_now k terminal (now ∷ past) (stands k terminal loads memory past) ≡ Some order →
      HandledAt k terminal loads (of k terminal loads memory (now ∷ past)) (length past) now order
  handled-newest now past order is =
      handled-from (now ∷ past) (length past) now order (omega arith)
      (handles-same _ _ _ _ now order (sym (before-all (now ∷ past))) (sym (newest-before k terminal loads memory now past)) (refl, is))

  newest-handled : (moment : Moment) (past : List Moment) (t : ℕ) (now : Moment) (order : Handled) → t ≡ length past →
      HandledAt k terminal loads (of k terminal loads memory (moment ∷ past)) t now order → Handles (moment ∷ past) past now order
  newest-handled moment past t now order here at =
      handles-same _ _ _ _ now order (ap (λ (n : ℕ). before (suc n) (moment ∷ past)) here ∙ before-all (moment ∷ past))
      (ap (λ (n : ℕ). before n (moment ∷ past)) here ∙ newest-before k terminal loads memory moment past) (at.ticks_are, at.handled)

  -- an order in the newest tick, or none
  by-newest : {X : Type 0} (now : Moment) (past : List Moment) →
      ((order : Handled) → order_now k terminal (now ∷ past) (stands k terminal loads memory past) ≡ Some order → X) →
      (order_now k terminal (now ∷ past) (stands k terminal loads memory past) ≡ None → X) → X
  by-newest {X} now past some none = by (order_now k terminal (now ∷ past) (stands k terminal loads memory past)) refl where
    by : (o : Option Handled) → order_now k terminal (now ∷ past) (stands k terminal loads memory past) ≡ o → X
    by None is = none is
    by (Some order) is = some order is

  -- ---- after any ticks

  pub none-left : (ticks : List Moment) →
      ((t : ℕ) (now : Moment) (order : Handled) → HandledAt k terminal loads (of k terminal loads memory ticks) t now order → ⊥) →
      SameButMarks (stands k terminal loads memory ticks) (at_rest memory)
  unfolding standing
  none-left [] none = same-own (at_rest memory)
  none-left (now ∷ past) none =
      by-newest now past (λ order is. absurd (none (length past) now order (handled-newest now past order is)))
      (λ is. same-then _ _ _ (no-order now past is) (none-left past (λ t moment order at. none t moment order (handled-more now past t moment order at))))

  pub last-left : (ticks : List Moment) (t : ℕ) (now : Moment) (order : Handled) →
      HandledLastAt k terminal loads (of k terminal loads memory ticks) t now order →
      let s : Standing = stood k terminal loads (of k terminal loads memory ticks) t in
      SameButMarks (stands k terminal loads memory ticks) (after_order s order (done_in k terminal loads t now.has_items s order))
  last-left [] t now order at = absurd (let heard = at.at.heard in omega (arith, heard))
  last-left (moment ∷ past) t now order at = elim (cases_lt t (length past)) [
    | inr newest ↦
        let heard = at.at.heard in
        let here : t ≡ length past = omega (arith, newest, heard) in
        let handles = newest-handled moment past t now order here at.at in
        let same : now ≡ moment = sym (head-is moment now past past handles.0) in
        let earlier : before t (moment ∷ past) ≡ past =
        ap (λ (n : ℕ). before n (moment ∷ past)) here ∙ newest-before k terminal loads memory moment past in
        let is = subst (λ (m : Moment). order_now k terminal (m ∷ past) (stands k terminal loads memory past) ≡ Some order) same handles.1 in
        let there = subst (λ (m : Moment). SameButMarks (stands k terminal loads memory (moment ∷ past)) (left past m order)) (sym same)
        (with-order moment past order is) in
        subst (λ (xs : List Moment). SameButMarks (stands k terminal loads memory (moment ∷ past)) (after_order (stands k terminal loads memory xs) order
        (done_in k terminal loads t now.has_items (stands k terminal loads memory xs) order))) (sym earlier)
        (subst (λ (n : ℕ). SameButMarks (stands k terminal loads memory (moment ∷ past)) (after_order (stands k terminal loads memory past) order
        (done_in k terminal loads n now.has_items (stands k terminal loads memory past) order))) (sym here) there)
    | inl early ↦
        by-newest moment past
        (λ other is. absurd (at.last (length past) moment other early (handled-newest moment past other is)))
        (λ none. same-then _ _ _ (no-order moment past none)
        (subst (λ (xs : List Moment). SameButMarks (stands k terminal loads memory past) (after_order (stands k terminal loads memory xs) order
        (done_in k terminal loads t now.has_items (stands k terminal loads memory xs) order))) (sym (before-more moment past t (omega (arith, early))))
        (last-left past t now order record {
          at = handled-less moment past t now order early at.at;
          last = λ u m other after there. at.last u m other after (handled-more moment past u m other there);
        })))
  ]
