-- Bursts by tick numbers: of one past, and of a past with one tick more. For every lag.
use Rattle.std.proofs.Common.{◌≡◌, ◌≢◌, ℕ, suc, ◌+◌, ◌-◌, ◌<◌, ◌≤◌, true, false, List, [], ◌∷◌, ◌++◌, length, refl, sym, ◌∙◌, arith, inl, inr}
use Rattle.std.proofs.lemmas.Bool.{cases_lt, cases_order, cases_Bool}
use Rattle.bus_base.specs.Samples.{is_quiet}
use Rattle.bus_base.specs.declared.samples.Sample.{Sample}
use Rattle.bus_base.specs.declared.samples.Sample.TheVariants.{Plus, Minus, Quiet}
use Rattle.bus_line.specs.Past.{quiet, stopped, runs, first_tick}
use Rattle.bus_line.specs.Bursts.{IsQuietAt, IsHeardAt, IsBurst}
use Rattle.bus_line.proofs.PastLaws.{quiet-le, runs-from, stopped-more, stopped-pulse, runs-parts, rests-parts, first_tick-runs, first_tick-begins, first_tick-lt}
use Rattle.bus_line.proofs.TickLaws.{at-past, at-now, at-more, at-later, at-quiet, heard-sample, quiet-sample, quiet-since, stopped-is}

-- ---- bursts of one past

-- no other burst begins earlier and reaches a burst's first tick
pub not-earlier : (k : ℕ) (past : List Sample) (p n q m : ℕ) → IsBurst k past p n → IsBurst k past q m → q < p → p < q + m → ⊥
not-earlier k past p n q m b a early reach = elim (cases_lt (q + k) p) [
  | inl far ↦ (
      let w = a.stretch.bridged (p - suc k) (omega arith) (omega arith) in
      w.3 (b.before w.0 (omega arith) (omega arith)))
  | inr near ↦ a.stretch.begins (b.before q early (omega arith))
]

-- two bursts with one end have one beginning
pub one-burst : (k : ℕ) (past : List Sample) (p n q m : ℕ) → IsBurst k past p n → IsBurst k past q m → p + n ≡ q + m → (p ≡ q) × (n ≡ m)
one-burst k past p n q m b a e = elim (cases_order p q) [
  | inl same ↦ (same, omega arith)
  | inr apart ↦ elim apart [
    | inl less ↦ absurd (not-earlier k past q m p n a b less (omega (arith, a.stretch.some)))
    | inr more ↦ absurd (not-earlier k past p n q m b a more (omega (arith, b.stretch.some)))
  ]
]

-- ---- a tick more

-- a quiet tick more changes no burst
pub burst-quiet : (k : ℕ) (past : List Sample) (p n : ℕ) → IsBurst k past p n → IsBurst k (Quiet ∷ past) p n
burst-quiet k past p n b = record {
  stretch = record {
    some = b.stretch.some;
    inside = omega (arith, b.stretch.inside);
    begins = λ e. b.stretch.begins (sym (at-quiet past p) ∙ e);
    ends = λ t q e. b.stretch.ends t q (sym (at-quiet past t) ∙ e);
    bridged = λ t q r. let w = b.stretch.bridged t q r in (w.0, w.1, w.2, λ e. w.3 (sym (at-quiet past w.0) ∙ e));
  };
  before = λ t q r. at-quiet past t ∙ b.before t q r;
  after = λ t q r. at-quiet past t ∙ b.after t q r;
}

-- a tick that isn't quiet, after k + 1 quiet ticks, begins a burst
pub burst-begins : (k : ℕ) (x : Sample) (past : List Sample) → x ≢ Quiet →
    ((t : ℕ) → t < length past → length past ≤ t + suc k → IsQuietAt past t) → IsBurst k (x ∷ past) (length past) 1
burst-begins k x past pulse before = record {
  stretch = record {
    some = omega arith;
    inside = omega arith;
    begins = λ e. pulse (sym (at-now x past) ∙ e);
    ends = λ t q e. let at : t ≡ length past = omega arith in pulse (sym (at-now x past) ∙ (rw at at e));
    bridged = λ t q r. (length past, omega arith, omega arith, λ e. pulse (sym (at-now x past) ∙ e));
  };
  before = λ t q r. at-more x past t q ∙ before t q r;
  after = λ t q r. at-past (x ∷ past) t (omega arith);
}

-- a tick that isn't quiet, after q quiet ticks and at most k, goes on with the burst
pub burst-grows : (k : ℕ) (x : Sample) (past : List Sample) (p n q : ℕ) → x ≢ Quiet → IsBurst k past p n → p + n + q ≡ length past → q ≤ k →
    IsBurst k (x ∷ past) p (n + suc q)
burst-grows k x past p n q pulse b here few = record {
  stretch = record {
    some = omega arith;
    inside = omega arith;
    begins = λ e. b.stretch.begins (sym (at-more x past p (omega (arith, b.stretch.some))) ∙ e);
    ends = λ t r e. let at : t ≡ length past = omega arith in pulse (sym (at-now x past) ∙ (rw at at e));
    bridged = λ t r s. elim (cases_lt (t + k) (length past)) [
      | inr last ↦ (length past, omega arith, omega arith, λ e. pulse (sym (at-now x past) ∙ e))
      | inl old ↦ elim (cases_lt (t + k) (p + n)) [
        | inl inner ↦ (let w = b.stretch.bridged t r inner in
            (w.0, w.1, w.2, λ e. w.3 (sym (at-more x past w.0 (omega arith)) ∙ e)))
        | inr edge ↦ (
          p + n - 1,
          omega (arith, b.stretch.some),
          omega (arith, b.stretch.some),
          λ e. b.stretch.ends (p + n - 1) (omega (arith, b.stretch.some)) (sym (at-more x past (p + n - 1) (omega (arith, b.stretch.some))) ∙ e),
        )
      ]
    ];
  };
  before = λ t r s. at-more x past t (omega arith) ∙ b.before t r s;
  after = λ t r s. at-past (x ∷ past) t (omega arith);
}

-- a burst that has ended k + 1 ticks ago stays as it is
pub burst-stays : (k : ℕ) (x : Sample) (past : List Sample) (p n : ℕ) → IsBurst k past p n → p + n + suc k ≤ length past → IsBurst k (x ∷ past) p n
burst-stays k x past p n b known = record {
  stretch = record {
    some = b.stretch.some;
    inside = omega (arith, b.stretch.inside);
    begins = λ e. b.stretch.begins (sym (at-more x past p (omega (arith, b.stretch.some))) ∙ e);
    ends = λ t q e. b.stretch.ends t q (sym (at-more x past t (omega arith)) ∙ e);
    bridged = λ t q r. let w = b.stretch.bridged t q r in (w.0, w.1, w.2, λ e. w.3 (sym (at-more x past w.0 (omega (arith, w.2))) ∙ e));
  };
  before = λ t q r. at-more x past t (omega (arith, b.stretch.inside)) ∙ b.before t q r;
  after = λ t q r. at-more x past t (omega arith) ∙ b.after t q r;
}

-- every burst is there with a tick more, with more ticks if it goes on
pub burst-more : (k : ℕ) (x : Sample) (past : List Sample) (p n : ℕ) → IsBurst k past p n → (m : ℕ) × (n ≤ m) × IsBurst k (x ∷ past) p m
burst-more k x past p n b = elim (cases_Bool (is_quiet x)) [
  | inl q ↦ (n, omega arith, rw (quiet-sample x q) (burst-quiet k past p n b))
  | inr pulse ↦ elim (cases_lt (length past) (p + n + suc k)) [
    | inl on ↦ (
      n + suc (length past - (p + n)),
      omega arith,
      burst-grows k x past p n (length past - (p + n)) (heard-sample x pulse) b (omega (arith, b.stretch.inside)) (omega (arith, b.stretch.inside, on)),
    )
    | inr over ↦ (n, omega arith, burst-stays k x past p n b over)
  ]
]

-- and with any number of ticks more
pub burst-later : (k : ℕ) (later past : List Sample) (p n : ℕ) → IsBurst k past p n → (m : ℕ) × (n ≤ m) × IsBurst k (later ++ past) p m
burst-later k [] past p n b = (n, omega arith, b)
burst-later k (x ∷ later) past p n b =
    let old = burst-later k later past p n b in
    let new = burst-more k x (later ++ past) p old.0 old.2 in
    (new.0, omega (arith, old.1, new.1), new.2)

-- a burst is there in an earlier past up to any of its ticks that isn't quiet
pub burst-cut : (k : ℕ) (later past : List Sample) (p n m : ℕ) → IsBurst k (later ++ past) p n → p + m ≡ length past → 0 < m → m ≤ n →
    ((t : ℕ) → suc t ≡ p + m → IsHeardAt past t) → IsBurst k past p m
burst-cut k later past p n m b here some within ends = record {
  stretch = record {
    some = some;
    inside = omega (arith, here);
    begins = λ e. b.stretch.begins (at-later later past p (omega arith) ∙ e);
    ends = ends;
    bridged = λ t q r. let w = b.stretch.bridged t q (omega arith) in (w.0, w.1, w.2, λ e. w.3 (at-later later past w.0 (omega (arith, w.2)) ∙ e));
  };
  before = λ t q r. sym (at-later later past t (omega arith)) ∙ b.before t q r;
  after = λ t q r. at-past past t (omega arith);
}

-- and whole once its end was known
pub burst-known : (k : ℕ) (later past : List Sample) (p n : ℕ) → IsBurst k (later ++ past) p n → p + n + suc k ≤ length past → IsBurst k past p n
burst-known k later past p n b known = record {
  stretch = record {
    some = b.stretch.some;
    inside = omega (arith, known);
    begins = λ e. b.stretch.begins (at-later later past p (omega (arith, known)) ∙ e);
    ends = λ t q e. b.stretch.ends t q (at-later later past t (omega (arith, known, q)) ∙ e);
    bridged = λ t q r. let w = b.stretch.bridged t q r in (w.0, w.1, w.2, λ e. w.3 (at-later later past w.0 (omega (arith, w.2, r, known)) ∙ e));
  };
  before = λ t q r. sym (at-later later past t (omega (arith, q, known))) ∙ b.before t q r;
  after = λ t q r. sym (at-later later past t (omega (arith, r, known))) ∙ b.after t q r;
}

-- ---- the newest burst

-- ticks before that were quiet, where none runs
pub rests-quiet : (k : ℕ) (past : List Sample) → runs k past ≡ false → (t : ℕ) → length past ≤ t + suc k → IsQuietAt past t
rests-quiet k past off t near =
    let below : quiet past ≤ length past = quiet-le past in
    elim (rests-parts k past off) [
      | inl none ↦ quiet-since past t (omega (arith, none))
      | inr many ↦ quiet-since past t (omega (arith, many, below))
    ]

-- the newest burst with a tick that isn't quiet: the one that ran, grown, or a new one
newest-pulse : (k : ℕ) (x : Sample) (past : List Sample) → is_quiet x ≡ false →
    (runs k past ≡ true → IsBurst k past (first_tick k past) (stopped past - first_tick k past)) →
    IsBurst k (x ∷ past) (first_tick k (x ∷ past)) (stopped (x ∷ past) - first_tick k (x ∷ past))
newest-pulse k x past pulse old = elim (cases_Bool (runs k past)) [
  | inl on ↦ (
      let below : quiet past ≤ length past = quiet-le past in
      let some : first_tick k past < stopped past = first_tick-lt k past (runs-parts k past on).0 in
      let now : stopped (x ∷ past) ≡ suc (length past) = stopped-pulse x past pulse in
      let first : first_tick k (x ∷ past) ≡ first_tick k past = first_tick-runs k x past on in
      let long : suc (length past) - first_tick k past ≡ (stopped past - first_tick k past) + suc (quiet past) = omega (arith, below, some) in
      rw (now, first, long) (burst-grows k x past (first_tick k past) (stopped past - first_tick k past) (quiet past) (heard-sample x pulse)
      (old on) (omega (arith, below, some)) (runs-parts k past on).1))
  | inr off ↦ (
      let now : stopped (x ∷ past) ≡ suc (length past) = stopped-pulse x past pulse in
      let first : first_tick k (x ∷ past) ≡ length past = first_tick-begins k x past off pulse in
      let one : suc (length past) - length past ≡ 1 = omega arith in
      rw (now, first, one) (burst-begins k x past (heard-sample x pulse) (λ t a b. rests-quiet k past off t b)))
]

-- what is looked up is a burst
pub newest-burst : (k : ℕ) (past : List Sample) → 0 < stopped past → IsBurst k past (first_tick k past) (stopped past - first_tick k past)
newest-burst k [] some = absurd (omega (arith, some))
newest-burst k (Quiet ∷ past) some =
    let same : stopped (Quiet ∷ past) ≡ stopped past = stopped-more past in
    rw same (burst-quiet k past (first_tick k past) (stopped past - first_tick k past) (newest-burst k past (omega (arith, some, same))))
newest-burst k (Plus ∷ past) some = newest-pulse k Plus past refl (λ on. newest-burst k past (runs-parts k past on).0)
newest-burst k (Minus ∷ past) some = newest-pulse k Minus past refl (λ on. newest-burst k past (runs-parts k past on).0)

-- and the burst that ends at the stop is no other
pub newest-is : (k : ℕ) (past : List Sample) (p n : ℕ) → IsBurst k past p n → p + n ≡ stopped past → (p ≡ first_tick k past) × (n ≡ stopped past - first_tick k past)
newest-is k past p n b end =
    let some : 0 < stopped past = omega (arith, end, b.stretch.some) in
    let some_ticks : first_tick k past < stopped past = first_tick-lt k past some in
    one-burst k past p n (first_tick k past) (stopped past - first_tick k past) b (newest-burst k past some) (omega (arith, end, some_ticks))

-- the stop is the end of a burst that no tick but quiet ones follow
pub burst-stopped : (k : ℕ) (past : List Sample) (p n : ℕ) → IsBurst k past p n → ((t : ℕ) → p + n ≤ t → t < length past → IsQuietAt past t) → stopped past ≡ p + n
burst-stopped k past p n b after =
    stopped-is past (p + n) (p + n - 1) (omega (arith, b.stretch.some)) (b.stretch.ends (p + n - 1) (omega (arith, b.stretch.some))) after

-- a burst runs where the newest one's end isn't known
pub runs-burst : (k : ℕ) (past : List Sample) → runs k past ≡ true → (p n : ℕ) × IsBurst k past p n × (length past ≤ p + n + k)
runs-burst k past on =
    let parts = runs-parts k past on in
    let below : quiet past ≤ length past = quiet-le past in
    let less : first_tick k past < stopped past = first_tick-lt k past parts.0 in
    (first_tick k past, stopped past - first_tick k past, newest-burst k past parts.0, omega (arith, parts.1, below, less))

-- and the other way
pub burst-runs : (k : ℕ) (past : List Sample) (p n : ℕ) → IsBurst k past p n → length past ≤ p + n + k → runs k past ≡ true
burst-runs k past p n b near =
    let stop : stopped past ≡ p + n = burst-stopped k past p n b (λ t late within. b.after t late (omega (arith, within, near))) in
    let below : quiet past ≤ length past = quiet-le past in
    runs-from k past (omega (arith, stop, b.stretch.some)) (omega (arith, stop, near, below))
