-- What was heard between two ticks, and from a tick on, by tick numbers.
use Rattle.std.proofs.Common.{◌≡◌, ℕ, ◌<◌, ◌≤◌, true, false, not, ◌&&◌, ◌||◌, nat_lt, List, [], ◌∷◌, length, Some, None, refl, sym, ap, ◌∙◌, arith, inl, inr, ◌⊎◌}
use Rattle.std.proofs.lemmas.Bool.{cases_lt, cases_order, cases_Bool, and_parts, and_from, or_cases, or_left, or_right, not-true, not_from_false, false≢true, lt-ltb, le-ltb, ltb-true}
use Rattle.bus_base.specs.Samples.{is_quiet}
use Rattle.bus_base.specs.declared.samples.Sample.{Sample}
use Rattle.bus_line.specs.Past.{heard_within, first_heard, heard_or_now}
use Rattle.bus_line.specs.Bursts.{IsQuietAt, IsHeardAt, IsFirstHeard}
use Rattle.bus_line.proofs.EndLaws.{cases-option}
use Rattle.bus_line.proofs.TickLaws.{at-past, at-now, at-more, heard-sample, pulse-sample, quiet-sample}

-- what was heard is in the past
pub heard-inside : (past : List Sample) (t : ℕ) → IsHeardAt past t → t < length past
heard-inside past t heard = elim (cases_lt t (length past)) [
  | inl within ↦ within
  | inr out ↦ absurd (heard (at-past past t out))
]

-- and stays heard with a tick more
heard-more : (x : Sample) (past : List Sample) (t : ℕ) → IsHeardAt past t → IsHeardAt (x ∷ past) t
heard-more x past t heard = λ e. heard (sym (at-more x past t (heard-inside past t heard)) ∙ e)

-- the newest tick is heard where it isn't quiet
heard-now : (x : Sample) (past : List Sample) → is_quiet x ≡ false → IsHeardAt (x ∷ past) (length past)
heard-now x past pulse = λ e. heard-sample x pulse (sym (at-now x past) ∙ e)

-- ---- between two ticks

-- one tick more, from the first on
within-now : (x : Sample) (past : List Sample) (a b : ℕ) → a ≤ length past →
    heard_within (x ∷ past) a b ≡ ((not (is_quiet x) && nat_lt (length past) b) || heard_within past a b)
unfolding heard_within
within-now x past a b late = let holds : nat_lt (length past) a ≡ false = le-ltb (length past) a late in rw holds refl

-- and before it
within-early : (x : Sample) (past : List Sample) (a b : ℕ) → length past < a → heard_within (x ∷ past) a b ≡ false
unfolding heard_within
within-early x past a b early = let holds : nat_lt (length past) a ≡ true = lt-ltb (length past) a early in rw holds refl

-- nothing is heard in no ticks
within-none : (a b : ℕ) → heard_within [] a b ≡ false
unfolding heard_within
within-none a b = refl

-- where the test says so, some tick was heard
pub heard_within-is : (past : List Sample) (a b : ℕ) → heard_within past a b ≡ true → (t : ℕ) × (a ≤ t) × (t < b) × IsHeardAt past t
heard_within-is [] a b h = absurd (false≢true (sym (within-none a b) ∙ h))
heard_within-is (x ∷ past) a b h = elim (cases_lt (length past) a) [
  | inl early ↦ absurd (false≢true (sym (within-early x past a b early) ∙ h))
  | inr late ↦ elim (or_cases (not (is_quiet x) && nat_lt (length past) b) (heard_within past a b) (sym (within-now x past a b late) ∙ h)) [
    | inl now ↦ (
        let parts = and_parts (not (is_quiet x)) (nat_lt (length past) b) now in
        (length past, late, ltb-true (length past) b parts.1, heard-now x past (not-true (is_quiet x) parts.0)))
    | inr old ↦ (let w = heard_within-is past a b old in (w.0, w.1, w.2, heard-more x past w.0 w.3))
  ]
]

-- and the other way
pub heard_within-from : (past : List Sample) (a b t : ℕ) → a ≤ t → t < b → IsHeardAt past t → heard_within past a b ≡ true
heard_within-from [] a b t low high heard = absurd (let within = heard-inside [] t heard in omega (arith, within))
heard_within-from (x ∷ past) a b t low high heard =
    let inside = heard-inside (x ∷ past) t heard in
    within-now x past a b (omega (arith, inside, low)) ∙ elim (cases_lt t (length past)) [
      | inl old ↦ or_right (not (is_quiet x) && nat_lt (length past) b) (heard_within past a b)
          (heard_within-from past a b t low high (λ e. heard (at-more x past t old ∙ e)))
      | inr now ↦ (
          let at : t ≡ length past = omega (arith, inside, now) in
          let here : IsHeardAt (x ∷ past) (length past) = rw at at heard in
          or_left (not (is_quiet x) && nat_lt (length past) b) (heard_within past a b)
          (and_from (not (is_quiet x)) (nat_lt (length past) b) (not_from_false (is_quiet x) (pulse-sample x (λ e. here (at-now x past ∙ e))))
          (lt-ltb (length past) b (omega (arith, at, high)))))
    ]

-- ---- from a tick on

-- one tick more, from the first on
first-now : (x : Sample) (past : List Sample) (a : ℕ) → a ≤ length past → first_heard (x ∷ past) a ≡ heard_or_now x (length past) (first_heard past a)
unfolding first_heard
first-now x past a late = let holds : nat_lt (length past) a ≡ false = le-ltb (length past) a late in rw holds refl

-- nothing is found later than the newest tick
pub first_heard-early : (past : List Sample) (a : ℕ) → length past ≤ a → first_heard past a ≡ None
unfolding first_heard
first_heard-early [] a early = refl
first_heard-early (x ∷ past) a early = let holds : nat_lt (length past) a ≡ true = lt-ltb (length past) a (omega (arith, early)) in rw holds refl

-- what was found stays found
pub first_heard-stays : (x : Sample) (past : List Sample) (a t : ℕ) → first_heard past a ≡ Some t → first_heard (x ∷ past) a ≡ Some t
first_heard-stays x past a t h = elim (cases_lt a (length past)) [
  | inl late ↦ first-now x past a (omega arith) ∙ (rw h refl)
  | inr early ↦ (let none : None ≡ Some t = sym (first_heard-early past a early) ∙ h in cc)
]

-- the first tick by numbers stays the first
is-first-stays : (x : Sample) (past : List Sample) (a t : ℕ) → IsFirstHeard past a t → IsFirstHeard (x ∷ past) a t
is-first-stays x past a t is =
    let inside = heard-inside past t is.heard in
    record { from = is.from; heard = heard-more x past t is.heard; before = λ u p q. at-more x past u (omega (arith, q, inside)) ∙ is.before u p q }

-- where nothing was found, the newest tick is found or quiet
cases-first : (x : Sample) (past : List Sample) (a : ℕ) → a ≤ length past → first_heard past a ≡ None →
    ((is_quiet x ≡ true) × (first_heard (x ∷ past) a ≡ None)) ⊎ ((is_quiet x ≡ false) × (first_heard (x ∷ past) a ≡ Some (length past)))
cases-first x past a late none = elim (cases_Bool (is_quiet x)) [
  | inl q ↦ inl (q, first-now x past a late ∙ (rw (none, q) refl))
  | inr pulse ↦ inr (pulse, first-now x past a late ∙ (rw (none, pulse) refl))
]

-- where nothing is found, nothing was before
none-before : (x : Sample) (past : List Sample) (a : ℕ) → first_heard (x ∷ past) a ≡ None → first_heard past a ≡ None
none-before x past a h = elim (cases-option (first_heard past a)) [
  | inl none ↦ none
  | inr found ↦ (let bad : None ≡ Some found.0 = sym h ∙ first_heard-stays x past a found.0 found.1 in cc)
]

-- where nothing was found, all was quiet
pub first_heard-none : (past : List Sample) (a u : ℕ) → first_heard past a ≡ None → a ≤ u → IsQuietAt past u
first_heard-none [] a u h low = at-past [] u (omega arith)
first_heard-none (x ∷ past) a u h low = elim (cases_lt (length past) u) [
  | inl out ↦ at-past (x ∷ past) u (omega (arith, out))
  | inr within ↦ (
      let none : first_heard past a ≡ None = none-before x past a h in
      elim (cases-first x past a (omega (arith, low, within)) none) [
        | inr found ↦ (let bad : None ≡ Some (length past) = sym h ∙ found.1 in cc)
        | inl still ↦ elim (cases_lt u (length past)) [
          | inl old ↦ at-more x past u old ∙ first_heard-none past a u none low
          | inr now ↦ (let at : u ≡ length past = omega (arith, within, now) in rw at (at-now x past ∙ quiet-sample x still.0))
        ]
      ])
]

-- what is found is the first tick from a on that wasn't quiet
pub first_heard-is : (past : List Sample) (a t : ℕ) → first_heard past a ≡ Some t → IsFirstHeard past a t
first_heard-is [] a t h = (let none : None ≡ Some t = sym (first_heard-early [] a (omega arith)) ∙ h in cc)
first_heard-is (x ∷ past) a t h = elim (cases_lt (length past) a) [
  | inl early ↦ (let none : None ≡ Some t = sym (first_heard-early (x ∷ past) a (omega (arith, early))) ∙ h in cc)
  | inr late ↦ elim (cases-option (first_heard past a)) [
    | inr found ↦ (
        let same : Some found.0 ≡ Some t = sym (first_heard-stays x past a found.0 found.1) ∙ h in
        is-first-stays x past a t (first_heard-is past a t (found.1 ∙ same)))
    | inl none ↦ elim (cases-first x past a late none) [
      | inl still ↦ (let bad : None ≡ Some t = sym still.1 ∙ h in cc)
      | inr found ↦ (
          let same : Some (length past) ≡ Some t = sym found.1 ∙ h in
          let at : length past ≡ t = cc in
          rw (sym at) record {
            from = late;
            heard = heard-now x past found.0;
            before = λ u p q. at-more x past u q ∙ first_heard-none past a u none p;
          })
    ]
  ]
]

-- and it is found
pub first_heard-found : (past : List Sample) (a t : ℕ) → IsFirstHeard past a t → first_heard past a ≡ Some t
first_heard-found past a t is = elim (cases-option (first_heard past a)) [
  | inl none ↦ absurd (is.heard (first_heard-none past a t none is.from))
  | inr found ↦ (let other = first_heard-is past a found.0 found.1 in elim (cases_order found.0 t) [
    | inl same ↦ found.1 ∙ ap Some same
    | inr apart ↦ elim apart [
      | inl less ↦ absurd (other.heard (is.before found.0 other.from less))
      | inr more ↦ absurd (is.heard (other.before t is.from more))
    ]
  ])
]

-- and the other way
pub first_heard-quiet : (past : List Sample) (a : ℕ) → ((t : ℕ) → a ≤ t → IsQuietAt past t) → first_heard past a ≡ None
first_heard-quiet past a quiet = elim (cases-option (first_heard past a)) [
  | inl none ↦ none
  | inr found ↦ absurd (let is = first_heard-is past a found.0 found.1 in is.heard (quiet found.0 is.from))
]
