-- A burst is a longest stretch, and no tick is in two. For every lag.
use Rattle.std.proofs.Common.{◌≡◌, ℕ, suc, ◌+◌, ◌-◌, ◌<◌, ◌≤◌, List, length, arith, inl, inr}
use Rattle.std.proofs.lemmas.Bool.{cases_lt, cases_eq, cases_order}
use Rattle.bus_base.specs.declared.samples.Sample.{Sample}
use Rattle.bus_line.specs.Bursts.{IsHeardAt, IsBurst, IsStretch, IsLongest}
use Rattle.bus_line.proofs.TickLaws.{at-past, cases-heard}
use Rattle.bus_line.proofs.BurstLaws.{not-earlier}

-- a stretch that holds a burst begins where it does
same-begin : (k : ℕ) (past : List Sample) (p n q m : ℕ) → IsBurst k past p n → IsStretch k past q m → q ≤ p → p + n ≤ q + m → q ≡ p
same-begin k past p n q m b s low high = elim (cases_eq q p) [
  | inl same ↦ same
  | inr other ↦ absurd (elim (cases_lt (q + k) p) [
    | inl far ↦ (let w = s.bridged (p - suc k) (omega arith) (omega (arith, b.stretch.some)) in w.3 (b.before w.0 (omega arith) (omega arith)))
    | inr near ↦ s.begins (b.before q (omega arith) (omega arith))
  ])
]

-- and ends where it does
same-end : (k : ℕ) (past : List Sample) (p n q m : ℕ) → IsBurst k past p n → IsStretch k past q m → q ≤ p → p + n ≤ q + m → p + n ≡ q + m
same-end k past p n q m b s low high = elim (cases_eq (p + n) (q + m)) [
  | inl same ↦ same
  | inr other ↦ absurd (elim (cases_lt (p + n + k) (q + m)) [
    | inl far ↦ (let w = s.bridged (p + n) (omega arith) (omega arith) in w.3 (b.after w.0 (omega arith) (omega (arith, w.2))))
    | inr near ↦ s.ends (q + m - 1) (omega (arith, s.some)) (b.after (q + m - 1) (omega arith) (omega (arith, near, other, high)))
  ])
]

-- so a burst is a longest stretch
pub burst-longest : (k : ℕ) (past : List Sample) (p n : ℕ) → IsBurst k past p n → IsLongest k past p n
burst-longest k past p n b = record {
  stretch = b.stretch;
  alone = λ q m s low high.
      let begin : q ≡ p = same-begin k past p n q m b s low high in
      let end : p + n ≡ q + m = same-end k past p n q m b s low high in
      (begin, omega (arith, begin, end));
}

-- a tick before that isn't quiet, with at most k quiet ones between, would make the stretch longer
longer-before : (k : ℕ) (past : List Sample) (p n t : ℕ) → IsStretch k past p n → t < p → p ≤ t + suc k → IsHeardAt past t → IsStretch k past t (n + (p - t))
longer-before k past p n t s early near heard = record {
  some = omega (arith, s.some);
  inside = omega (arith, s.inside);
  begins = heard;
  ends = λ u e. s.ends u (omega (arith, e));
  bridged = λ u a b. elim (cases_lt u p) [
    | inr inner ↦ s.bridged u inner (omega (arith, b))
    | inl outer ↦ elim (cases_lt (u + k) p) [
      | inl first ↦ (t, omega arith, omega arith, heard)
      | inr reach ↦ (p, omega arith, reach, s.begins)
    ]
  ];
}

-- a tick after that isn't quiet likewise
longer-after : (k : ℕ) (past : List Sample) (p n t : ℕ) → IsStretch k past p n → p + n ≤ t → t < p + n + suc k → t < length past → IsHeardAt past t →
    IsStretch k past p (suc t - p)
longer-after k past p n t s late near within heard = record {
  some = omega (arith, s.some);
  inside = omega (arith, late);
  begins = s.begins;
  ends = λ u e. let at : u ≡ t = omega (arith, e, late) in rw at heard;
  bridged = λ u a b. elim (cases_lt (u + k) (p + n)) [
    | inl inner ↦ s.bridged u a inner
    | inr outer ↦ elim (cases_lt u (p + n)) [
      | inl reach ↦ (p + n - 1, omega (arith, reach), omega (arith, outer), s.ends (p + n - 1) (omega (arith, s.some)))
      | inr last ↦ (t, omega (arith, b), omega (arith, last, near), heard)
    ]
  ];
}

-- so a longest stretch is a burst
pub longest-burst : (k : ℕ) (past : List Sample) (p n : ℕ) → IsLongest k past p n → IsBurst k past p n
longest-burst k past p n l = record {
  stretch = l.stretch;
  before = λ t early near. elim (cases-heard past t) [
    | inl quiet ↦ quiet
    | inr heard ↦ absurd (
        let same = l.alone t (n + (p - t)) (longer-before k past p n t l.stretch early near heard) (omega arith) (omega arith) in
        omega (arith, same.0, early))
  ];
  after = λ t late near. elim (cases_lt t (length past)) [
    | inr out ↦ at-past past t out
    | inl within ↦ elim (cases-heard past t) [
      | inl quiet ↦ quiet
      | inr heard ↦ absurd (
          let same = l.alone p (suc t - p) (longer-after k past p n t l.stretch late near within heard) (omega arith) (omega (arith, late)) in
          omega (arith, same.1, late))
    ]
  ];
}

-- bursts that have a tick in common are one
pub burst-alone : (k : ℕ) (past : List Sample) (p n q m t : ℕ) → IsBurst k past p n → IsBurst k past q m →
    p ≤ t → t < p + n → q ≤ t → t < q + m → (p ≡ q) × (n ≡ m)
burst-alone k past p n q m t b a low high low' high' =
    let begin : p ≡ q = elim (cases_order p q) [
      | inl same ↦ same
      | inr apart ↦ elim apart [
        | inl less ↦ absurd (not-earlier k past q m p n a b less (omega arith))
        | inr more ↦ absurd (not-earlier k past p n q m b a more (omega arith))
      ]
    ] in
    elim (cases_lt (p + n) (q + m)) [
      | inl less ↦ (let end : p + n ≡ q + m = same-end k past p n q m b a.stretch (omega (arith, begin)) (omega arith) in (begin, omega (arith, begin, end)))
      | inr more ↦ (let end : q + m ≡ p + n = same-end k past q m p n a b.stretch (omega (arith, begin)) more in (begin, omega (arith, begin, end)))
    ]
