-- When a promise runs out, and what that leaves.
use Rattle.std.proofs.Common.{◌≡◌, ◌↔◌, inl, inr, ℕ, suc, ◌+◌, ◌<◌, ◌≤◌, Bool, true, false, not, ◌&&◌, ◌==◌, List, ◌∷◌, length, Option, Some, None, refl, sym, ap, ◌∙◌, subst, arith, if◌then◌else◌}
use Rattle.std.specs.Option.{option_or}
use Rattle.std.proofs.lemmas.Bool.{and_parts, true≢false}
use Rattle.std.proofs.lemmas.Bool.Decides.{nat_tests}
use Rattle.std.proofs.lemmas.Option.{none-some, same_Some}
use Rattle.bus_base.specs.Samples.{other_of, same_channel}
use Rattle.bus_base.specs.declared.samples.Channel.{Channel}
use Rattle.bus_base.specs.declared.samples.Channel.TheVariants.{A, B}
use Rattle.bus_base.specs.declared.samples.Sample.{Sample}
use Rattle.bus_line.specs.Bursts.{IsQuietAt, IsHeardAt}
use Rattle.bus_line.specs.Past.{Burst, ended_now, end_of, rest_of, heard_within}
use Rattle.bus_line.proofs.TickLaws.{cases-heard}
use Rattle.bus_line.proofs.HeardLaws.{heard_within-is, heard_within-from}
use Rattle.bus_formats.specs.Plans.{TerminalData}
use Rattle.bus_formats.specs.Times.{relay_wait}
use Rattle.bus_model.specs.Memory.{Memory, TimedLoad}
use Rattle.bus_model.specs.Orders.{Order, free, last_order}
use Rattle.bus_model.specs.Hearing.{Moment, heard_on}
use Rattle.bus_model.specs.Standing.{Standing, Handled, settles, runs_out, superseded, is_promise, promised_on, ignored_from, mark_on, outrun}
use Rattle.bus_model.specs.Terminal.{standing, order_by, order_of, order_on, running_out, order_now, took_now, ordered, taken_by, marked_by}
use Rattle.bus_law_ticks.specs.Heeding.{IsAddressedAt}
use Rattle.bus_law_ticks.proofs.Choices.{by-test}
use Rattle.bus_law_ticks.proofs.Marks.{of, same-own}
use Rattle.bus_law_ticks.proofs.GivenUp.{superseded-is}

-- ---- no channel brings that

abbrev pub IsOrder : Handled → Type 0
IsOrder runs_out = ⊥
IsOrder _ = Unit {0}

abbrev pub OrderIf : Option Handled → Type 0
OrderIf None = Unit {0}
OrderIf (Some order) = IsOrder order

on-order : (k : ℕ) (terminal : TerminalData) (now : Moment) (past : List Moment) (s : Standing) (c : Channel) → OrderIf (order_on k terminal (now ∷ past) s c)
on-order k terminal now past s c = by-test OrderIf (ignored_from k (heard_on c past) (mark_on s.sent c)) None _ (λ _. tt)
    (λ _. of-burst (ended_now k (heard_on c (now ∷ past)))) where
      by-last : (burst : Burst) (last : Option Order) → OrderIf (order_by k terminal s c burst last)
      by-last burst (Some last) = by-test OrderIf (outrun s c) None _ (λ _. tt) (λ _. tt)
      by-last burst None = by-test OrderIf _ (Some (settles (end_of burst) burst.slots (rest_of burst))) None (λ _. tt) (λ _. tt)

      of-burst : (o : Option Burst) → OrderIf (order_of k terminal s c o)
      of-burst None = tt
      of-burst (Some burst) = by-last burst (last_order terminal.address burst.slots)

-- so where a promise runs out it is found by that alone
out-found : (o p : Option Handled) → OrderIf o → option_or o p ≡ Some runs_out → p ≡ Some runs_out
out-found None p h is = is
out-found (Some order) p h is = absurd (subst IsOrder (same_Some _ _ is) h)

-- ---- the conditions, by ticks

-- a test that finds nothing heard
pub none-heard : (b : Bool) → not b ≡ true → b ≡ false
none-heard true h = cc
none-heard false h = refl

pub not-heard : (b : Bool) → (b ≡ true → ⊥) → not b ≡ true
not-heard true h = absurd (h refl)
not-heard false h = refl

-- a tick in which nothing was heard is quiet
pub quiet-unless : (past : List Sample) (t : ℕ) → (IsHeardAt past t → ⊥) → IsQuietAt past t
quiet-unless past t h = elim (cases-heard past t) [
  | inl still ↦ still
  | inr heard ↦ absurd (h heard)
]

some-test : (b : Bool) → (if b then Some runs_out else None) ≡ Some runs_out → b ≡ true
some-test true h = refl
some-test false h = absurd (none-some runs_out h)

module _ (k : ℕ) (terminal : TerminalData) (loads : List TimedLoad) (memory : Memory) (now : Moment) (past : List Moment) where
  abbrev pub before_it : Standing
  before_it = standing k terminal loads memory past

  -- the conditions of a promise that runs out
  abbrev pub Out : Type 0
  Out =
      (is_promise before_it.duty ≡ true)
      × ((t : ℕ) → before_it.end + k ≤ t → IsAddressedAt k terminal loads (of k terminal loads memory past) (other_of before_it.channel) t → ⊥)
      × (length past ≡ before_it.end + 30)
      × ((t : ℕ) → before_it.end ≤ t → t ≤ before_it.end + 30 → IsQuietAt (heard_on before_it.channel (now ∷ past)) t)

  abbrev pub test : Bool
  test =
      promised_on k before_it before_it.channel && (length (now ∷ past) == suc (before_it.end + relay_wait))
      && not (heard_within (heard_on before_it.channel (now ∷ past)) before_it.end (length (now ∷ past)))

  quiet-at : (t : ℕ) → before_it.end ≤ t → t < length (now ∷ past) →
      heard_within (heard_on before_it.channel (now ∷ past)) before_it.end (length (now ∷ past)) ≡ false → IsQuietAt (heard_on before_it.channel (now ∷ past)) t
  quiet-at t low high silent = quiet-unless (heard_on before_it.channel (now ∷ past)) t
      (λ heard. true≢false (sym (heard_within-from (heard_on before_it.channel (now ∷ past)) before_it.end (length (now ∷ past)) t low high heard) ∙ silent))

  test-out : k ≤ 39 → test ≡ true → Out
  test-out small h =
      let outer = and_parts (promised_on k before_it before_it.channel && (length (now ∷ past) == suc (before_it.end + relay_wait))) _ h in
      let inner = and_parts (promised_on k before_it before_it.channel) _ outer.0 in
      let promise = and_parts (is_promise before_it.duty && same_channel before_it.channel before_it.channel) (not (superseded k before_it)) inner.0 in
      let here : length past ≡ before_it.end + 30 = (let at = inner.1 in grind (arith, nat_tests, at)) in
      let fresh : superseded k before_it ≡ false = none-heard _ promise.1 in
      let silent = none-heard _ outer.1 in (
        (and_parts (is_promise before_it.duty) _ promise.0).0,
        λ t low at. true≢false (sym ((superseded-is k terminal loads memory past small).1 (t, low, at)) ∙ fresh),
        here,
        λ t low high. quiet-at t low (omega (arith, high, here)) silent,
      )

  out-test : k ≤ 39 → Out → test ≡ true
  out-test small out =
      let promise = out.0 in
      let here = out.2 in
      let fresh : not (superseded k before_it) ≡ true = not-heard _ (λ taken. (let w = (superseded-is k terminal loads memory past small).0 taken in out.1 w.0 w.1 w.2)) in
      let at : (length (now ∷ past) == suc (before_it.end + relay_wait)) ≡ true = grind (arith, nat_tests, here) in
      let silent : not (heard_within (heard_on before_it.channel (now ∷ past)) before_it.end (length (now ∷ past))) ≡ true =
      not-heard _ (λ heard. (
      let w = heard_within-is (heard_on before_it.channel (now ∷ past)) before_it.end (length (now ∷ past)) heard in
      w.3 (out.3 w.0 w.1 (let high = w.2 in omega (arith, high, here))))) in
      rw (promise, same-own before_it.channel, fresh, at, silent) refl

  -- it runs out exactly so; where it does, neither channel brings an order
  pub out-is : k < 30 →
      ((h : Handled) → running_out k terminal (now ∷ past) before_it ≡ Some h →
      (order_on k terminal (now ∷ past) before_it A ≡ None) × (order_on k terminal (now ∷ past) before_it B ≡ None)) →
      (order_now k terminal (now ∷ past) before_it ≡ Some runs_out) ↔ Out
  out-is small alone = (
    λ is. test-out (omega (arith, small))
        (some-test test (out-found _ _ (on-order k terminal now past before_it B) (out-found _ _ (on-order k terminal now past before_it A) is))),
    λ out.
        let runs : running_out k terminal (now ∷ past) before_it ≡ Some runs_out = rw (out-test (omega (arith, small)) out) refl in
        let none = alone runs_out runs in
        rw (none.0, none.1) runs,
  )

  -- what it leaves
  pub out-leaves : order_now k terminal (now ∷ past) before_it ≡ Some runs_out →
      let s : Standing = standing k terminal loads memory (now ∷ past) in
      (s.duty ≡ free) × (s.memory.registers.message_error ≡ true) × (took_now k terminal loads record { memory = memory; ticks = now ∷ past } ≡ None)
  unfolding standing
  out-leaves is = (
    ap (λ (o : Option Handled). (marked_by k terminal now past before_it (ordered k terminal loads (length past) now.has_items before_it o)).duty) is,
    ap (λ (o : Option Handled). (marked_by k terminal now past before_it (ordered k terminal loads (length past) now.has_items before_it o)).memory.registers.message_error) is,
    ap (λ (o : Option Handled). taken_by k terminal loads (length past) now.has_items before_it o) is,
  )
