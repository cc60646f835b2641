-- What the channel showed in a tick, by its number.
use Rattle.std.proofs.Common.{◌≡◌, ◌≢◌, ℕ, suc, ◌+◌, ◌-◌, ◌<◌, ◌≤◌, true, false, List, [], ◌∷◌, ◌++◌, length, nat_lt, refl, sym, ◌∙◌, arith, inl, inr, ◌⊎◌, length-append}
use Rattle.std.proofs.lemmas.Bool.{cases_lt, cases_eq, cases_order, cases_Bool, lt-ltb, le-ltb}
use Rattle.bus_base.specs.Samples.{is_quiet}
use Rattle.bus_base.specs.declared.samples.Sample.{Sample}
use Rattle.bus_base.specs.declared.samples.Sample.TheVariants.{Plus, Minus, Quiet}
use Rattle.bus_line.specs.Past.{quiet, stopped}
use Rattle.bus_line.specs.Bursts.{sample_at, IsQuietAt, IsHeardAt}
use Rattle.bus_line.proofs.PastLaws.{quiet-le, stopped-more}

-- after the newest tick there is nothing
pub at-past : (past : List Sample) (t : ℕ) → length past ≤ t → IsQuietAt past t
at-past past t h = let no : nat_lt t (length past) ≡ false = le-ltb t (length past) h in rw no refl

-- the newest tick shows the newest sample
pub at-now : (x : Sample) (past : List Sample) → sample_at (x ∷ past) (length past) ≡ x
at-now x past =
    let yes : nat_lt (length past) (suc (length past)) ≡ true = lt-ltb (length past) (suc (length past)) (omega arith) in
    let place : suc (length past) - suc (length past) ≡ 0 = omega arith in
    rw (yes, place) refl

-- a tick more changes none before it
pub at-more : (x : Sample) (past : List Sample) (t : ℕ) → t < length past → sample_at (x ∷ past) t ≡ sample_at past t
at-more x past t h =
    let new : nat_lt t (suc (length past)) ≡ true = lt-ltb t (suc (length past)) (omega (arith, h)) in
    let old : nat_lt t (length past) ≡ true = lt-ltb t (length past) h in
    let place : suc (length past) - suc t ≡ suc (length past - suc t) = omega (arith, h) in
    rw (new, old, place) refl

-- nor do any number of ticks more
pub at-later : (later past : List Sample) (t : ℕ) → t < length past → sample_at (later ++ past) t ≡ sample_at past t
at-later [] past t h = refl
at-later (x ∷ later) past t h =
    let long : length (later ++ past) ≡ length later + length past = length-append later past in
    at-more x (later ++ past) t (omega (arith, h, long)) ∙ at-later later past t h

-- a quiet tick more changes nothing, wherever one looks
pub at-quiet : (past : List Sample) (t : ℕ) → sample_at (Quiet ∷ past) t ≡ sample_at past t
at-quiet past t = elim (cases_lt t (length past)) [
  | inl old ↦ at-more Quiet past t old
  | inr new ↦ elim (cases_eq t (length past)) [
    | inl here ↦ rw here (at-now Quiet past ∙ sym (at-past past (length past) (omega arith)))
    | inr later ↦ at-past (Quiet ∷ past) t (omega (arith, new, later)) ∙ sym (at-past past t new)
  ]
]

-- the test for quiet says what it means
pub heard-sample : (x : Sample) → is_quiet x ≡ false → x ≢ Quiet
heard-sample Plus pulse e = cc
heard-sample Minus pulse e = cc
heard-sample Quiet pulse e = cc

-- and the other way
pub pulse-sample : (x : Sample) → x ≢ Quiet → is_quiet x ≡ false
pulse-sample Plus heard = refl
pulse-sample Minus heard = refl
pulse-sample Quiet heard = absurd (heard refl)

-- a sample that passes the test is quiet
pub quiet-sample : (x : Sample) → is_quiet x ≡ true → x ≡ Quiet
quiet-sample Plus q = cc
quiet-sample Minus q = cc
quiet-sample Quiet q = refl

-- a tick was quiet, or it was not
pub cases-heard : (past : List Sample) (t : ℕ) → IsQuietAt past t ⊎ IsHeardAt past t
cases-heard past t = elim (cases_Bool (is_quiet (sample_at past t))) [
  | inl q ↦ inl (quiet-sample (sample_at past t) q)
  | inr h ↦ inr (heard-sample (sample_at past t) h)
]

-- the newest ticks from the stop on were quiet
pub quiet-since : (past : List Sample) (t : ℕ) → stopped past ≤ t → IsQuietAt past t
quiet-since [] t h = at-past [] t (omega arith)
quiet-since (Plus ∷ past) t h = at-past (Plus ∷ past) t (omega (arith, h))
quiet-since (Minus ∷ past) t h = at-past (Minus ∷ past) t (omega (arith, h))
quiet-since (Quiet ∷ past) t h =
    let same : stopped (Quiet ∷ past) ≡ stopped past = stopped-more past in
    at-quiet past t ∙ quiet-since past t (omega (arith, h, same))

-- and the one before was not
pub heard-last : (past : List Sample) (t : ℕ) → suc t ≡ stopped past → IsHeardAt past t
heard-last [] t h e = absurd (omega (arith, h))
heard-last (Plus ∷ past) t h e = let at : t ≡ length past = omega (arith, h) in heard-sample Plus refl (sym (at-now Plus past) ∙ (rw at at e))
heard-last (Minus ∷ past) t h e = let at : t ≡ length past = omega (arith, h) in heard-sample Minus refl (sym (at-now Minus past) ∙ (rw at at e))
heard-last (Quiet ∷ past) t h e =
    let same : stopped (Quiet ∷ past) ≡ stopped past = stopped-more past in
    heard-last past t (omega (arith, h, same)) (sym (at-quiet past t) ∙ e)

-- the stop is the tick after the last one that wasn't quiet
pub stopped-is : (past : List Sample) (e t : ℕ) → suc t ≡ e → IsHeardAt past t → ((u : ℕ) → e ≤ u → u < length past → IsQuietAt past u) → stopped past ≡ e
stopped-is past e t at heard after = elim (cases_order (stopped past) e) [
  | inl same ↦ same
  | inr apart ↦ elim apart [
    | inl less ↦ absurd (heard (quiet-since past t (omega (arith, at, less))))
    | inr more ↦ absurd (heard-last past (stopped past - 1) (omega (arith, more))
        (after (stopped past - 1) (omega (arith, more)) (let below : quiet past ≤ length past = quiet-le past in omega (arith, more))))
  ]
]
