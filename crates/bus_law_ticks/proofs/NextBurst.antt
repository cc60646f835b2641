-- The whole answer is the next burst.
use Rattle.std.proofs.Common.{◌≡◌, ◌↔◌, inl, inr, ℕ, suc, ◌+◌, ◌-◌, ◌<◌, ◌≤◌, List, length, refl, sym, ap, ◌∙◌, subst, arith}
use Rattle.std.proofs.lemmas.Bool.{cases_lt}
use Rattle.bus_base.specs.declared.samples.Sample.{Sample}
use Rattle.bus_line.specs.Bursts.{IsHeardAt, IsBurst, IsFirstHeard, IsEndSince}
use Rattle.bus_line.specs.Past.{Burst, burst_from}
use Rattle.bus_line.proofs.HeardLaws.{first_heard-found}
use Rattle.bus_line.proofs.EndLaws.{end_since-burst}
use Rattle.bus_model.specs.Controller.{reply, whole}
use Rattle.bus_law_ticks.specs.Replies.{IsNextBurst}
use Rattle.bus_law_ticks.proofs.Counting.{Known, known, some-whole}

module _ (k : ℕ) (past : List Sample) (p n : ℕ) (b : IsBurst k past p n) (ended : p + n + suc k ≤ length past) where
  -- the next burst begins after the ticks that end this one
  begins-late : (a : ℕ) → IsFirstHeard past (p + n) a → p + n + suc k ≤ a
  begins-late a is = elim (cases_lt a (p + n + suc k)) [
    | inr late ↦ late
    | inl early ↦ absurd (is.heard (b.after a is.from early))
  ]

  -- what began with the first tick heard and has its end is a burst
  last-heard : (a x t : ℕ) → IsEndSince k past a x → suc t ≡ x → a < x → IsHeardAt past t
  last-heard a x t is at some =
      let w = is.first t (omega (arith, at, some)) (omega (arith, at)) in
      elim (cases_lt w.0 x) [
        | inl early ↦ subst (λ (u : ℕ). IsHeardAt past u) (let low = w.1 in omega (arith, low, early, at)) w.3
        | inr late ↦ absurd (w.3 (is.quiet w.0 late (let high = w.2 in omega (arith, high, at))))
      ]

  ends-later : (a x : ℕ) → IsFirstHeard past (p + n) a → IsEndSince k past a x → a < x
  ends-later a x first is = elim (cases_lt a x) [
    | inl some ↦ some
    | inr none ↦ absurd (first.heard (is.quiet a none (let from = is.from in omega (arith, from))))
  ]

  burst-of : (a x : ℕ) → IsFirstHeard past (p + n) a → IsEndSince k past a x → IsBurst k past a (x - a)
  burst-of a x first is =
      let some : a < x = ends-later a x first is in
      let late : p + n + suc k ≤ a = begins-late a first in
      let whole_known = is.known in
      let end : a + (x - a) ≡ x = omega (arith, some) in
      record {
        stretch = record {
          some = omega (arith, some);
          inside = omega (arith, end, whole_known);
          begins = first.heard;
          ends = λ t at. last-heard a x t is (at ∙ end) some;
          bridged = λ t low high. is.first t low (omega (arith, high, end));
        };
        before = λ t low near. first.before t (omega (arith, near, late)) low;
        after = λ t low high. is.quiet t (omega (arith, low, end)) (omega (arith, high, end));
      }

  next-of : (a x : ℕ) → IsFirstHeard past (p + n) a → IsEndSince k past a x → IsNextBurst k past (p + n) (burst_from past a (x - a))
  unfolding burst_from
  next-of a x first is =
      let some : a < x = ends-later a x first is in
      let known_so = is.known in
      record {
        from = first.from;
        before = first.before;
        is = burst-of a x first is;
        known = omega (arith, some, known_so);
        slots = refl;
      }

  first-of : (a m : ℕ) → (burst_from past a m).first ≡ a
  unfolding burst_from
  first-of a m = refl

  whole-next : (answer : Burst) → Known k past (p + n) (whole answer) → IsNextBurst k past (p + n) answer × (answer.first ≤ p + n + 24)
  whole-next answer w =
      subst (λ (o : Burst). IsNextBurst k past (p + n) o × (o.first ≤ p + n + 24)) (sym w.5)
      (next-of w.0 w.1 w.2 w.4, (let early = w.3 in let same = first-of w.0 (w.1 - w.0) in omega (arith, early, same)))

  next-whole : (answer : Burst) → IsNextBurst k past (p + n) answer → answer.first ≤ p + n + 24 → reply k past (p + n) ≡ whole answer
  next-whole answer next early =
      let first : IsFirstHeard past (p + n) answer.first = record { from = next.from; heard = next.is.stretch.begins; before = next.before } in
      let ticks : answer.first + answer.ticks - answer.first ≡ answer.ticks = omega arith in
      some-whole k past (p + n) answer.first (answer.first + answer.ticks) early (first_heard-found past (p + n) answer.first first)
      (end_since-burst k past answer.first answer.ticks next.is next.known)
      ∙ ap (λ (m : ℕ). whole (burst_from past answer.first m)) ticks ∙ ap whole (sym next.slots)

  pub next-is : (answer : Burst) → (reply k past (p + n) ≡ whole answer) ↔ (IsNextBurst k past (p + n) answer × (answer.first ≤ p + n + 24))
  next-is answer = (λ is. whole-next answer (subst (Known k past (p + n)) is (known k past (p + n))), λ w. next-whole answer w.0 w.1)
