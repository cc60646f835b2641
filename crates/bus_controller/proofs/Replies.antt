-- What is heard of an answer on one channel, at every lag.
use Rattle.std.proofs.Common.{◌≡◌, ℕ, suc, ◌+◌, ◌-◌, ◌<◌, ◌≤◌, true, false, nat_lt, List, [], ◌∷◌, length, Option, Some, None, refl, sym, ap, ◌∙◌, arith, inl, inr, ◌⊎◌}
use Rattle.std.proofs.lemmas.Bool.{cases_lt, cases_Bool, lt-ltb, le-ltb}
use Rattle.bus_base.specs.Samples.{is_quiet}
use Rattle.bus_base.specs.declared.samples.Sample.{Sample}
use Rattle.bus_base.specs.declared.samples.Sample.TheVariants.{Plus, Minus, Quiet}
use Rattle.bus_line.specs.Past.{first_heard, end_since, heard_or_now, Burst, burst_from, quiet}
use Rattle.bus_line.proofs.EndLaws.{end_since-stays, end_since-is}
use Rattle.bus_line.proofs.SlotLaws.{burst_from-more}
use Rattle.bus_formats.specs.Times.{no_response}
use Rattle.bus_model.specs.Controller.{silence, awaited, running, whole, reply}

pub cases-option : (o : Option ℕ) → (o ≡ None) ⊎ ((e : ℕ) × (o ≡ Some e))
cases-option None = inl refl
cases-option (Some e) = inr (e, refl)

-- ---- the first tick that isn't quiet, one tick later

pub first-now : (x : Sample) (past : List Sample) (a : ℕ) → a ≤ length past → first_heard (x ∷ past) a ≡ heard_or_now x (length past) (first_heard past a)
unfolding first_heard
first-now x past a h = let late : nat_lt (length past) a ≡ false = le-ltb (length past) a h in rw late refl

first-early : (past : List Sample) (a : ℕ) → length past ≤ a → first_heard past a ≡ None
unfolding first_heard
first-early [] a h = refl
first-early (x ∷ past) a h = let early : nat_lt (length past) a ≡ true = lt-ltb (length past) a (omega (arith, h)) in rw early refl

-- a tick that was found is within the past
pub first-within : (past : List Sample) (a t : ℕ) → first_heard past a ≡ Some t → (a ≤ t) × (t < length past)
unfolding first_heard
first-within [] a t h = cc
first-within (x ∷ past) a t h = elim (cases_lt (length past) a) [
  | inl early ↦ (let none : None ≡ Some t = sym (first-early (x ∷ past) a (omega (arith, early))) ∙ h in cc)
  | inr late ↦ elim (cases-option (first_heard past a)) [
    | inr found ↦ (
        let same : Some found.0 ≡ Some t = sym (first-now x past a late ∙ (rw found.1 refl)) ∙ h in
        let at : found.0 ≡ t = cc in
        let rest = first-within past a found.0 found.1 in
        (omega (arith, at, rest.0), omega (arith, at, rest.1)))
    | inl none ↦ elim (cases_Bool (is_quiet x)) [
      | inl q ↦ (let bad : None ≡ Some t = sym (first-now x past a late ∙ (rw (none, q) refl)) ∙ h in cc)
      | inr p ↦ (
          let same : Some (length past) ≡ Some t = sym (first-now x past a late ∙ (rw (none, p) refl)) ∙ h in
          let at : length past ≡ t = cc in
          (omega (arith, at, late), omega (arith, at)))
    ]
  ]
]

pub first-stays : (x : Sample) (past : List Sample) (a t : ℕ) → first_heard past a ≡ Some t → first_heard (x ∷ past) a ≡ Some t
first-stays x past a t h = let is = first-within past a t h in first-now x past a (omega (arith, is.0, is.1)) ∙ (rw h refl)

pub first-quiet : (past : List Sample) (a : ℕ) → a ≤ length past → first_heard past a ≡ None → first_heard (Quiet ∷ past) a ≡ None
first-quiet past a h none = first-now Quiet past a h ∙ (rw none refl)

pub first-begins : (x : Sample) (past : List Sample) (a : ℕ) → a ≤ length past → first_heard past a ≡ None → is_quiet x ≡ false → first_heard (x ∷ past) a ≡ Some (length past)
first-begins x past a h none pulse = first-now x past a h ∙ (rw (none, pulse) refl)

-- where all ticks from a on were quiet, none is found
pub first-none : (past : List Sample) (a : ℕ) → length past ≤ a + quiet past → first_heard past a ≡ None
first-none [] a h = first-early [] a (omega arith)
first-none (Plus ∷ past) a h = first-early (Plus ∷ past) a (omega (arith, h))
first-none (Minus ∷ past) a h = first-early (Minus ∷ past) a (omega (arith, h))
first-none (Quiet ∷ past) a h = elim (cases_lt (length past) a) [
  | inl early ↦ first-early (Quiet ∷ past) a (omega (arith, early))
  | inr late ↦ first-quiet past a late (first-none past a (omega (arith, h)))
]

-- ---- what is heard of an answer

module _ (k : ℕ) (past : List Sample) (e : ℕ) where
  pub reply-awaited : first_heard past e ≡ None → length past ≤ e + no_response → reply k past e ≡ awaited
  reply-awaited none soon = let few : nat_lt (e + no_response) (length past) ≡ false = le-ltb (e + no_response) (length past) soon in rw (none, few) refl

  pub reply-silence : first_heard past e ≡ None → e + no_response < length past → reply k past e ≡ silence
  reply-silence none late = let many : nat_lt (e + no_response) (length past) ≡ true = lt-ltb (e + no_response) (length past) late in rw (none, many) refl

  pub reply-running : (a : ℕ) → first_heard past e ≡ Some a → a ≤ e + no_response → end_since k past a ≡ None → reply k past e ≡ running
  reply-running a heard soon going = let few : nat_lt (e + no_response) a ≡ false = le-ltb (e + no_response) a soon in rw (heard, few, going) refl

  pub reply-whole : (a x : ℕ) → first_heard past e ≡ Some a → a ≤ e + no_response → end_since k past a ≡ Some x → reply k past e ≡ whole (burst_from past a (x - a))
  reply-whole a x heard soon ended = let few : nat_lt (e + no_response) a ≡ false = le-ltb (e + no_response) a soon in rw (heard, few, ended) refl

-- a whole answer has a first tick and an end
pub record IsWhole (k : ℕ) (past : List Sample) (e : ℕ) (burst : Burst) : Type 0 where
  pub first : ℕ
  pub end : ℕ
  pub heard : first_heard past e ≡ Some first
  pub soon : first ≤ e + no_response
  pub ended : end_since k past first ≡ Some end
  pub is : burst ≡ burst_from past first (end - first)

pub whole-parts : (k : ℕ) (past : List Sample) (e : ℕ) (burst : Burst) → reply k past e ≡ whole burst → IsWhole k past e burst
whole-parts k past e burst h = elim (cases-option (first_heard past e)) [
  | inl none ↦ elim (cases_lt (e + no_response) (length past)) [
    | inl late ↦ (let bad : silence ≡ whole burst = sym (reply-silence k past e none late) ∙ h in cc)
    | inr soon ↦ (let bad : awaited ≡ whole burst = sym (reply-awaited k past e none soon) ∙ h in cc)
  ]
  | inr found ↦ elim (cases_lt (e + no_response) found.0) [
    | inl late ↦ (
        let many : nat_lt (e + no_response) found.0 ≡ true = lt-ltb (e + no_response) found.0 late in
        let is : reply k past e ≡ silence = rw (found.1, many) refl in
        let bad : silence ≡ whole burst = sym is ∙ h in cc)
    | inr soon ↦ elim (cases-option (end_since k past found.0)) [
      | inl going ↦ (let bad : running ≡ whole burst = sym (reply-running k past e found.0 found.1 soon going) ∙ h in cc)
      | inr ended ↦ (
          let same : whole (burst_from past found.0 (ended.0 - found.0)) ≡ whole burst = sym (reply-whole k past e found.0 ended.0 found.1 soon ended.1) ∙ h in
          record { first = found.0; end = ended.0; heard = found.1; soon = soon; ended = ended.1; is = (cc) })
    ]
  ]
]

-- a whole answer stays as it is
pub reply-stays : (k : ℕ) (x : Sample) (past : List Sample) (e : ℕ) (burst : Burst) → reply k past e ≡ whole burst → reply k (x ∷ past) e ≡ whole burst
reply-stays k x past e burst h =
    let w = whole-parts k past e burst h in
    let is = end_since-is k past w.first w.end w.ended in
    let known : w.end + suc k ≤ length past = is.known in
    let from : w.first ≤ w.end = is.from in
    let same : burst_from (x ∷ past) w.first (w.end - w.first) ≡ burst_from past w.first (w.end - w.first) = burst_from-more x past w.first (w.end - w.first) (omega (arith, known, from)) in
    reply-whole k (x ∷ past) e w.first w.end (first-stays x past e w.first w.heard) w.soon (end_since-stays k x past w.first w.end w.ended)
    ∙ ap whole (same ∙ sym w.is)
