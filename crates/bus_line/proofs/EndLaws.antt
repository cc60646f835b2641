-- Where what began at a tick has its end, and what was heard between two ticks, by tick numbers. For every lag.
use Rattle.std.proofs.Common.{◌≡◌, ℕ, suc, min, ◌+◌, ◌-◌, ◌<◌, ◌≤◌, true, false, nat_lt, nat_le, List, [], ◌∷◌, ◌++◌, length, Some, None, Option, refl, sym, ap, ◌∙◌, arith, inl, inr, ◌⊎◌}
use Rattle.std.proofs.lemmas.Bool.{cases_lt, cases_order, lt-ltb, le-ltb}
use Rattle.std.proofs.lemmas.Bool.Decides.{nat_tests}
use Rattle.bus_base.specs.declared.samples.Sample.{Sample}
use Rattle.bus_line.specs.Past.{Burst, quiet, stopped, runs, first_tick, ended_now, end_of, end_since, end_or_now}
use Rattle.bus_line.specs.Bursts.{IsHeardAt, IsBurst, IsEndedNow, IsEndSince}
use Rattle.bus_line.proofs.PastLaws.{quiet-le, runs-parts, first_tick-lt}
use Rattle.bus_line.proofs.TickLaws.{at-more, quiet-since, heard-last}
use Rattle.bus_line.proofs.BurstLaws.{newest-burst}
use Rattle.bus_line.proofs.LookUpLaws.{ended-known}

-- ---- one tick more

-- what begins later has no end yet
pub end_since-early : (k : ℕ) (past : List Sample) (a : ℕ) → length past ≤ a → end_since k past a ≡ None
unfolding end_since
end_since-early k [] a h = refl
end_since-early k (x ∷ past) a h = let early : nat_lt (length past) a ≡ true = lt-ltb (length past) a (omega (arith, h)) in rw early refl

-- the end with a tick more
pub end_since-now : (k : ℕ) (x : Sample) (past : List Sample) (a : ℕ) → a ≤ length past →
    end_since k (x ∷ past) a ≡ end_or_now k (min (quiet (x ∷ past)) (suc (length past) - a)) (length past) (end_since k past a)
unfolding end_since
end_since-now k x past a h = let late : nat_lt (length past) a ≡ false = le-ltb (length past) a h in rw late refl

-- a number was found, or none
pub cases-option : (o : Option ℕ) → (o ≡ None) ⊎ ((e : ℕ) × (o ≡ Some e))
cases-option None = inl refl
cases-option (Some e) = inr (e, refl)

-- what was found is from the tick on
pub end_since-late : (k : ℕ) (past : List Sample) (a e : ℕ) → end_since k past a ≡ Some e → a < length past
end_since-late k past a e h = elim (cases_lt a (length past)) [
  | inl late ↦ late
  | inr early ↦ (let none : None ≡ Some e = sym (end_since-early k past a early) ∙ h in cc)
]

-- and stays found
pub end_since-stays : (k : ℕ) (x : Sample) (past : List Sample) (a e : ℕ) → end_since k past a ≡ Some e → end_since k (x ∷ past) a ≡ Some e
end_since-stays k x past a e h =
    let late : a < length past = end_since-late k past a e h in
    end_since-now k x past a (omega arith) ∙ (rw h refl)

-- with any number of ticks more
pub end_since-later : (k : ℕ) (later past : List Sample) (a e : ℕ) → end_since k past a ≡ Some e → end_since k (later ++ past) a ≡ Some e
end_since-later k [] past a e h = h
end_since-later k (x ∷ later) past a e h = end_since-stays k x (later ++ past) a e (end_since-later k later past a e h)

-- ---- by tick numbers

-- so many ticks up to now from a on were quiet, or one of the newest k + 1 was not
counted : (k : ℕ) (past : List Sample) (u : ℕ) → quiet past ≤ k → u + suc k ≡ length past → (t : ℕ) × (u ≤ t) × (t ≤ u + k) × IsHeardAt past t
counted k past u few here =
    let below : quiet past ≤ length past = quiet-le past in
    (stopped past - 1, omega (arith, few, here), omega (arith, few, here), heard-last past (stopped past - 1) (omega (arith, few, here)))

-- where no end is found, none was before, and too few quiet ticks came
none-now : (k : ℕ) (x : Sample) (past : List Sample) (a : ℕ) → a ≤ length past → end_since k (x ∷ past) a ≡ None →
    (end_since k past a ≡ None) × (min (quiet (x ∷ past)) (suc (length past) - a) ≤ k)
none-now k x past a late h = elim (cases-option (end_since k past a)) [
  | inr found ↦ (let some : None ≡ Some found.0 = sym h ∙ end_since-stays k x past a found.0 found.1 in cc)
  | inl none ↦ (
    none,
    elim (cases_lt k (min (quiet (x ∷ past)) (suc (length past) - a))) [
      | inr few ↦ few
      | inl many ↦ (
          let holds : nat_le (suc k) (min (quiet (x ∷ past)) (suc (length past) - a)) ≡ true = grind (arith, nat_tests, many) in
          let some : None ≡ Some (length past - k) = sym h ∙ end_since-now k x past a late ∙ (rw (none, holds) refl) in
          cc)
    ],
  )
]

-- where no end was found, no k + 1 ticks in a row from a on were quiet
pub end_since-none : (k : ℕ) (past : List Sample) (a u : ℕ) → end_since k past a ≡ None → a ≤ u → u + k < length past →
    (t : ℕ) × (u ≤ t) × (t ≤ u + k) × IsHeardAt past t
end_since-none k [] a u h low high = absurd (omega (arith, high))
end_since-none k (x ∷ past) a u h low high =
    let parts = none-now k x past a (omega (arith, low, high)) h in
    elim (cases_lt (u + k) (length past)) [
      | inl old ↦ (let w = end_since-none k past a u parts.0 low old in (w.0, w.1, w.2, λ e. w.3 (sym (at-more x past w.0 (omega (arith, w.2, old))) ∙ e)))
      | inr new ↦ counted k (x ∷ past) u (omega (arith, parts.1, low, high, new)) (omega (arith, high, new))
    ]

-- an end by tick numbers stays one with a tick more
is-end-stays : (k : ℕ) (x : Sample) (past : List Sample) (a e : ℕ) → IsEndSince k past a e → IsEndSince k (x ∷ past) a e
is-end-stays k x past a e is = record {
  from = is.from;
  known = omega (arith, is.known);
  quiet = λ t p q. at-more x past t (omega (arith, q, is.known)) ∙ is.quiet t p q;
  first = λ u p q. let w = is.first u p q in (w.0, w.1, w.2, λ h. w.3 (sym (at-more x past w.0 (omega (arith, w.2, q, is.known))) ∙ h));
}

-- k + 1 quiet ticks in a row make it known
is-end-now : (k : ℕ) (x : Sample) (past : List Sample) (a : ℕ) → a ≤ length past → end_since k past a ≡ None →
    k < min (quiet (x ∷ past)) (suc (length past) - a) → IsEndSince k (x ∷ past) a (length past - k)
is-end-now k x past a late none many = record {
  from = omega (arith, many);
  known = omega (arith, many);
  quiet = λ t p q. quiet-since (x ∷ past) t (omega (arith, many, p));
  first = λ u p q. let w = end_since-none k past a u none p (omega (arith, q)) in
      (w.0, w.1, w.2, λ h. w.3 (sym (at-more x past w.0 (omega (arith, w.2, q))) ∙ h));
}

-- what is found is the end by tick numbers
pub end_since-is : (k : ℕ) (past : List Sample) (a e : ℕ) → end_since k past a ≡ Some e → IsEndSince k past a e
end_since-is k [] a e h = (let none : None ≡ Some e = sym (end_since-early k [] a (omega arith)) ∙ h in cc)
end_since-is k (x ∷ past) a e h =
    let late : a < suc (length past) = end_since-late k (x ∷ past) a e h in
    let now = end_since-now k x past a (omega (arith, late)) in
    elim (cases-option (end_since k past a)) [
      | inr found ↦ (
          let same : Some found.0 ≡ Some e = sym (end_since-stays k x past a found.0 found.1) ∙ h in
          let at : found.0 ≡ e = cc in
          is-end-stays k x past a e (end_since-is k past a e (found.1 ∙ same)))
      | inl none ↦ elim (cases_lt k (min (quiet (x ∷ past)) (suc (length past) - a))) [
        | inl many ↦ (
            let holds : nat_le (suc k) (min (quiet (x ∷ past)) (suc (length past) - a)) ≡ true = grind (arith, nat_tests, many) in
            let same : Some (length past - k) ≡ Some e = sym (now ∙ (rw (none, holds) refl)) ∙ h in
            let at : length past - k ≡ e = cc in
            rw (sym at) (is-end-now k x past a (omega (arith, late)) none many))
        | inr few ↦ (
            let fails : nat_le (suc k) (min (quiet (x ∷ past)) (suc (length past) - a)) ≡ false = grind (arith, nat_tests, few) in
            let bad : None ≡ Some e = sym (now ∙ (rw (none, fails) refl)) ∙ h in
            cc)
      ]
    ]

-- there is one end
pub one-end : (k : ℕ) (past : List Sample) (a d e : ℕ) → IsEndSince k past a d → IsEndSince k past a e → d ≡ e
one-end k past a d e x y = elim (cases_order d e) [
  | inl same ↦ same
  | inr apart ↦ elim apart [
    | inl less ↦ absurd (let w = y.first d x.from less in w.3 (x.quiet w.0 w.1 (omega (arith, w.2))))
    | inr more ↦ absurd (let w = x.first e y.from more in w.3 (y.quiet w.0 w.1 (omega (arith, w.2))))
  ]
]

-- and it is found
pub end_since-found : (k : ℕ) (past : List Sample) (a e : ℕ) → IsEndSince k past a e → end_since k past a ≡ Some e
end_since-found k past a e is = elim (cases-option (end_since k past a)) [
  | inl none ↦ absurd (let w = end_since-none k past a e none is.from (omega (arith, is.known)) in w.3 (is.quiet w.0 w.1 (omega (arith, w.2))))
  | inr found ↦ found.1 ∙ ap Some (one-end k past a found.0 e (end_since-is k past a found.0 found.1) is)
]

-- ---- of a burst

-- in any k + 1 ticks from one of a burst's ticks on, one isn't quiet
burst-heard : (k : ℕ) (past : List Sample) (p n u : ℕ) → IsBurst k past p n → p ≤ u → u < p + n → (t : ℕ) × (u ≤ t) × (t ≤ u + k) × IsHeardAt past t
burst-heard k past p n u b low high = elim (cases_lt (u + k) (p + n)) [
  | inl inner ↦ b.stretch.bridged u low inner
  | inr edge ↦ (p + n - 1, omega (arith, high), omega (arith, edge), b.stretch.ends (p + n - 1) (omega (arith, high)))
]

-- what began with a burst has its end with the burst's, once that is known
pub end_since-burst : (k : ℕ) (past : List Sample) (p n : ℕ) → IsBurst k past p n → p + n + suc k ≤ length past → end_since k past p ≡ Some (p + n)
end_since-burst k past p n b known = end_since-found k past p (p + n) record {
  from = omega arith;
  known = omega (arith, known);
  quiet = λ t q r. b.after t q (omega (arith, r));
  first = λ u q r. burst-heard k past p n u b q r;
}

-- in the tick in which the burst's end becomes known
pub end_since-ended : (k : ℕ) (past : List Sample) (burst : Burst) → ended_now k past ≡ Some burst → end_since k past burst.first ≡ Some (end_of burst)
end_since-ended k past burst h =
    let is : IsEndedNow k past burst.first burst.ticks = ended-known k past burst h in
    end_since-burst k past burst.first burst.ticks is.burst (omega (arith, is.now))

-- while a burst runs, what began with it has no end
pub end_since-runs : (k : ℕ) (past : List Sample) → runs k past ≡ true → end_since k past (first_tick k past) ≡ None
end_since-runs k past on = elim (cases-option (end_since k past (first_tick k past))) [
  | inl none ↦ none
  | inr found ↦ absurd (
      let is = end_since-is k past (first_tick k past) found.0 found.1 in
      let below : quiet past ≤ length past = quiet-le past in
      let parts = runs-parts k past on in
      let less : first_tick k past < stopped past = first_tick-lt k past parts.0 in
      let inside : found.0 < first_tick k past + (stopped past - first_tick k past) = omega (arith, is.known, parts.1, below, less) in
      let w = burst-heard k past (first_tick k past) (stopped past - first_tick k past) found.0 (newest-burst k past parts.0) is.from inside in
      w.3 (is.quiet w.0 w.1 (omega (arith, w.2))))
]
