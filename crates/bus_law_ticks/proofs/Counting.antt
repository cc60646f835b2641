-- Which answer counts, by the tick in which it begins.
use Rattle.std.proofs.Common.{◌≡◌, ◌↔◌, inl, inr, ℕ, suc, ◌+◌, ◌-◌, ◌<◌, ◌≤◌, true, false, nat_lt, List, length, Some, None, refl, sym, ◌∙◌, subst, arith}
use Rattle.std.proofs.lemmas.Bool.{cases_lt, lt-ltb, le-ltb}
use Rattle.std.proofs.lemmas.Option.{none-some, same_Some}
use Rattle.bus_base.specs.declared.samples.Sample.{Sample}
use Rattle.bus_line.specs.Bursts.{IsFirstHeard, IsEndSince}
use Rattle.bus_line.specs.Past.{first_heard, end_since, burst_from}
use Rattle.bus_line.proofs.HeardLaws.{heard-inside, first_heard-is, first_heard-found, first_heard-none}
use Rattle.bus_line.proofs.EndLaws.{cases-option, end_since-is, end_since-found}
use Rattle.bus_model.specs.Controller.{Reply, silence, awaited, running, whole, reply}
use Rattle.bus_law_ticks.specs.Replies.{counts, AreQuiet}

module _ (k : ℕ) (past : List Sample) (e : ℕ) where
  -- ---- what was heard first

  -- nothing was heard
  none-late : e + 24 < length past → first_heard past e ≡ None → reply k past e ≡ silence
  none-late late none = let test : nat_lt (e + 24) (length past) ≡ true = lt-ltb (e + 24) (length past) late in rw (none, test) refl

  none-early : length past ≤ e + 24 → first_heard past e ≡ None → reply k past e ≡ awaited
  none-early early none = let test : nat_lt (e + 24) (length past) ≡ false = le-ltb (e + 24) (length past) early in rw (none, test) refl

  -- something was
  some-late : (a : ℕ) → e + 24 < a → first_heard past e ≡ Some a → reply k past e ≡ silence
  some-late a late some = let test : nat_lt (e + 24) a ≡ true = lt-ltb (e + 24) a late in rw (some, test) refl

  some-running : (a : ℕ) → a ≤ e + 24 → first_heard past e ≡ Some a → end_since k past a ≡ None → reply k past e ≡ running
  some-running a early some none = let test : nat_lt (e + 24) a ≡ false = le-ltb (e + 24) a early in rw (some, test, none) refl

  pub some-whole : (a x : ℕ) → a ≤ e + 24 → first_heard past e ≡ Some a → end_since k past a ≡ Some x → reply k past e ≡ whole (burst_from past a (x - a))
  some-whole a x early some ended = let test : nat_lt (e + 24) a ≡ false = le-ltb (e + 24) a early in rw (some, test, ended) refl

  -- ---- the four answers

  -- what is known where there is none, where one is awaited, where one runs, and where it is whole
  abbrev pub Known : Reply → Type 0
  Known silence = (e + 24 < length past) × AreQuiet past e (suc (e + 24))
  Known awaited = (length past ≤ e + 24) × AreQuiet past e (length past)
  Known running = (first : ℕ) × IsFirstHeard past e first × (first ≤ e + 24) × ((end : ℕ) → IsEndSince k past first end → ⊥)
  Known (whole burst) =
      (first end : ℕ) × IsFirstHeard past e first × (first ≤ e + 24) × IsEndSince k past first end × (burst ≡ burst_from past first (end - first))

  pub known : Known (reply k past e)
  known = elim (cases-option (first_heard past e)) [
    | inl none ↦ elim (cases_lt (e + 24) (length past)) [
      | inl late ↦ subst Known (sym (none-late late none)) (late, λ t low high. first_heard-none past e t none low)
      | inr early ↦ subst Known (sym (none-early early none)) (early, λ t low high. first_heard-none past e t none low)
    ]
    | inr some ↦ (
        let first = first_heard-is past e some.0 some.1 in
        elim (cases_lt (e + 24) some.0) [
          | inl late ↦ subst Known (sym (some-late some.0 late some.1)) (
            let within = heard-inside past some.0 first.heard in omega (arith, late, within),
            λ t low high. first.before t low (omega (arith, high, late)),
          )
          | inr early ↦ elim (cases-option (end_since k past some.0)) [
            | inl none ↦ subst Known (sym (some-running some.0 early some.1 none))
                (some.0, first, early, λ end is. none-some end (sym none ∙ end_since-found k past some.0 end is))
            | inr ended ↦ subst Known (sym (some-whole some.0 ended.0 early some.1 ended.1))
                (some.0, ended.0, first, early, end_since-is k past some.0 ended.0 ended.1, refl)
          ]
        ])
  ]

  -- an answer that begins in time isn't in quiet ticks
  heard-quiet : {X : Type 0} (a b : ℕ) → IsFirstHeard past e a → a < b → AreQuiet past e b → X
  heard-quiet a b is low quiet = absurd (is.heard (quiet a is.from low))

  -- ---- both ways

  counts-known : (r : Reply) → Known r → counts r ≡ true → (first : ℕ) × IsFirstHeard past e first × (first ≤ e + 24)
  counts-known silence known h = cc
  counts-known awaited known h = cc
  counts-known running known h = (known.0, known.1, known.2)
  counts-known (whole burst) known h = (known.0, known.2, known.3)

  known-counts : (r : Reply) → Known r → (first : ℕ) → IsFirstHeard past e first → first ≤ e + 24 → counts r ≡ true
  known-counts silence known first is early = heard-quiet first (suc (e + 24)) is (omega (arith, early)) known.1
  known-counts awaited known first is early = heard-quiet first (length past) is (heard-inside past first is.heard) known.1
  known-counts running known first is early = refl
  known-counts (whole burst) known first is early = refl

  silence-known : (r : Reply) → Known r → e + 24 < length past → AreQuiet past e (suc (e + 24)) → r ≡ silence
  silence-known silence known late quiet = refl
  silence-known awaited known late quiet = absurd (let early = known.0 in omega (arith, late, early))
  silence-known running known late quiet = heard-quiet known.0 (suc (e + 24)) known.1 (let early = known.2 in omega (arith, early)) quiet
  silence-known (whole burst) known late quiet = heard-quiet known.0 (suc (e + 24)) known.2 (let early = known.3 in omega (arith, early)) quiet

  awaited-known : (r : Reply) → Known r → length past ≤ e + 24 → AreQuiet past e (length past) → r ≡ awaited
  awaited-known silence known early quiet = absurd (let late = known.0 in omega (arith, late, early))
  awaited-known awaited known early quiet = refl
  awaited-known running known early quiet = heard-quiet known.0 (length past) known.1 (let is = known.1 in heard-inside past known.0 is.heard) quiet
  awaited-known (whole burst) known early quiet = heard-quiet known.0 (length past) known.2 (let is = known.2 in heard-inside past known.0 is.heard) quiet

  -- the first tick is one
  one-first : (a b : ℕ) → IsFirstHeard past e a → IsFirstHeard past e b → a ≡ b
  one-first a b first other = same_Some a b (sym (first_heard-found past e a first) ∙ first_heard-found past e b other)

  running-known : (r : Reply) → Known r → (first : ℕ) → IsFirstHeard past e first → first ≤ e + 24 → ((end : ℕ) → IsEndSince k past first end → ⊥) → r ≡ running
  running-known silence known first is early going = heard-quiet first (suc (e + 24)) is (omega (arith, early)) known.1
  running-known awaited known first is early going = heard-quiet first (length past) is (heard-inside past first is.heard) known.1
  running-known running known first is early going = refl
  running-known (whole burst) known first is early going =
      absurd (going known.1 (subst (λ (a : ℕ). IsEndSince k past a known.1) (one-first known.0 first known.2 is) known.4))

  pub counts-is : (counts (reply k past e) ≡ true) ↔ ((first : ℕ) × IsFirstHeard past e first × (first ≤ e + 24))
  counts-is = (counts-known (reply k past e) known, λ w. known-counts (reply k past e) known w.0 w.1 w.2)

  pub silence-is : (reply k past e ≡ silence) ↔ ((e + 24 < length past) × AreQuiet past e (suc (e + 24)))
  silence-is = (λ is. subst Known is known, λ w. silence-known (reply k past e) known w.0 w.1)

  pub awaited-is : (reply k past e ≡ awaited) ↔ ((length past ≤ e + 24) × AreQuiet past e (length past))
  awaited-is = (λ is. subst Known is known, λ w. awaited-known (reply k past e) known w.0 w.1)

  pub running-is : (reply k past e ≡ running)
      ↔ ((first : ℕ) × IsFirstHeard past e first × (first ≤ e + 24) × ((end : ℕ) → IsEndSince k past first end → ⊥))
  running-is = (λ is. subst Known is known, λ w. running-known (reply k past e) known w.0 w.1 w.2 w.3)
