-- After each tick exactly one of four cases holds of who controls the bus, takes control and doubts.
use Rattle.std.proofs.Common.{◌≡◌, inl, inr, ℕ, zero, suc, Bool, true, false, List, [], ◌∷◌, Option, Some, None, refl, sym, ap, ◌∙◌, subst}
use Rattle.std.proofs.lemmas.Bool.{cases_eq, cases_Bool, true≢false}
use Rattle.std.proofs.lemmas.Option.{none-some, same_Some}
use Rattle.std.specs.Prelude.{if◌then◌else◌, slice_get, is_some, IsSome, length}
use Rattle.std.specs.List.{AllByRecursion as Each}
use Rattle.bus_base.specs.declared.samples.Pair.{Pair}
use Rattle.bus_formats.specs.Plans.{StationData, PlanData}
use Rattle.bus_model.specs.Control.{taking_from, so_far, course_after, holds_control, doubts_by}
use Rattle.bus_model.specs.Course.{course}
use Rattle.bus_model.specs.Starts.{starts}
use Rattle.bus_model.specs.World.{ticks_on}
use Rattle.bus_law_control.proofs.Holding.{serves-without}
use Rattle.bus_law_phases.specs.Passages.{HoldsAlone, HoldsInDoubt, InOneHand}
use Rattle.bus_law_phases.specs.Scenarios.{Scenario, IsPresentAt, shown_at}
use Rattle.bus_law_run.specs.WorldIsRun.{plan_scenario}
use Rattle.bus_law_run.proofs.PlainCourses.{plain-keeps, plain-doubts}
use Rattle.bus_law_told.specs.Plain.{IsPlainStation, IsPlain}
use Rattle.bus_law_whole.specs.Hands.{Hand, Controls, Takes, TakesBesideDoubt, Doubts, taken_by, is_in_doubt, HandIs, IsOneHand, HoldsAt}

module _ (w : Scenario) (past : List Pair) where
  abbrev has : StationData → Bool
  has station = holds_control w.lag station (starts w.plan station) w.loads w.outside past

  -- who doubts holds control
  doubting-holds : (station : StationData) → is_in_doubt w past station ≡ true → has station ≡ true
  doubting-holds station in-doubt = elim (cases_Bool (has station)) [
    | inl holds ↦ holds
    | inr off ↦
        let none = (serves-without w.lag station (starts w.plan station) (so_far w.lag station (starts w.plan station) w.loads w.outside past).takes past off).idle in
        absurd (true≢false (sym in-doubt ∙ ap (doubts_by w.lag station (starts w.plan station) w.loads w.outside past) none))
  ]

  -- so does who takes it
  some-taking : (holds : Bool) (other : Option ℕ) → IsSome (if holds then other else None) → holds ≡ true
  some-taking true other some = refl
  some-taking false other some = (let no : false ≡ true = some in cc)

  taking-holds : (station : StationData) → IsSome (taken_by w past station) → has station ≡ true
  taking-holds station some =
      some-taking (has station) (taking_from (length past) (course_after w.lag station (starts w.plan station) w.loads w.outside past).opening) some

  -- who holds control is the one who holds it alone
  at-place : (alone : HoldsAlone w past) (place : ℕ) (station : StationData) → IsPresentAt w place station → has station ≡ true → alone.place ≡ place
  at-place alone place station at holds = elim (cases_eq alone.place place) [
    | inl same ↦ same
    | inr away ↦ absurd (true≢false (sym holds ∙ alone.others place station at (λ e. away (sym e))))
  ]

  same-holder : (one other : HoldsAlone w past) → one.holder ≡ other.holder
  same-holder one other =
      let same : one.place ≡ other.place = at-place one other.place other.holder other.at other.holds in
      same_Some one.holder other.holder (sym one.at.there ∙ ap (slice_get w.plan.stations) same ∙ other.at.there)

  -- so no other one doubts beside one that takes it
  not-both : HoldsAlone w past → HoldsInDoubt w past → ⊥
  not-both alone two =
      let offerer : alone.place ≡ two.place = at-place alone two.place two.offerer two.at (doubting-holds two.offerer two.doubts) in
      let taker : alone.place ≡ two.taker_place = at-place alone two.taker_place two.taker two.taker_at (taking-holds two.taker two.takes) in
      two.apart (sym taker ∙ offerer)

  -- ---- the four cases exclude each other

  abbrev none-taking : HoldsAlone w past → HoldsAlone w past → Type 0
  none-taking one other = taken_by w past one.holder ≡ taken_by w past other.holder

  some-none : (o p : Option ℕ) → o ≡ p → o ≡ None → IsSome p → ⊥
  some-none o p same none some = (let no : false ≡ true = ap is_some (sym none ∙ same) ∙ some in cc)

  taken-same : (one other : HoldsAlone w past) → taken_by w past one.holder ≡ taken_by w past other.holder
  taken-same one other = ap (taken_by w past) (same-holder one other)

  doubt-same : (one other : HoldsAlone w past) → is_in_doubt w past one.holder ≡ is_in_doubt w past other.holder
  doubt-same one other = ap (is_in_doubt w past) (same-holder one other)

  exclude : (one other : Hand) → HandIs w past one → HandIs w past other → other ≡ one
  exclude Controls Controls a b = refl
  exclude Takes Takes a b = refl
  exclude TakesBesideDoubt TakesBesideDoubt a b = refl
  exclude Doubts Doubts a b = refl
  exclude Controls Takes a b = absurd (some-none _ _ (taken-same a.0 b.0) a.1 b.1)
  exclude Takes Controls a b = absurd (some-none _ _ (taken-same b.0 a.0) b.1 a.1)
  exclude Doubts Takes a b = absurd (some-none _ _ (taken-same a.0 b.0) a.1 b.1)
  exclude Takes Doubts a b = absurd (some-none _ _ (taken-same b.0 a.0) b.1 a.1)
  exclude Controls Doubts a b = absurd (true≢false (sym b.2 ∙ doubt-same b.0 a.0 ∙ a.2))
  exclude Doubts Controls a b = absurd (true≢false (sym a.2 ∙ doubt-same a.0 b.0 ∙ b.2))
  exclude Controls TakesBesideDoubt a b = absurd (not-both a.0 b)
  exclude Takes TakesBesideDoubt a b = absurd (not-both a.0 b)
  exclude Doubts TakesBesideDoubt a b = absurd (not-both a.0 b)
  exclude TakesBesideDoubt Controls a b = absurd (not-both b.0 a)
  exclude TakesBesideDoubt Takes a b = absurd (not-both b.0 a)
  exclude TakesBesideDoubt Doubts a b = absurd (not-both b.0 a)

  only-one : (hand : Hand) → HandIs w past hand → IsOneHand w past
  only-one hand is = record { hand = hand; is = is; only = λ other so. exclude hand other is so }

  by-alone : (alone : HoldsAlone w past) (taken : Option ℕ) (in-doubt : Bool) → taken_by w past alone.holder ≡ taken →
      is_in_doubt w past alone.holder ≡ in-doubt → IsOneHand w past
  by-alone alone (Some first) in-doubt takes doubts-so = only-one Takes (alone, ap is_some takes)
  by-alone alone None true takes doubts-so = only-one Doubts (alone, takes, doubts-so)
  by-alone alone None false takes doubts-so = only-one Controls (alone, takes, doubts-so)

  -- control that is in one hand is so in one way
  one-way : InOneHand w past → IsOneHand w past
  one-way (inl alone) = by-alone alone (taken_by w past alone.holder) (is_in_doubt w past alone.holder) refl refl
  one-way (inr two) = only-one TakesBesideDoubt two

pub one-hand : (plan : PlanData) {past : List Pair} → InOneHand (plan_scenario plan) past → IsOneHand (plan_scenario plan) past
one-hand plan {past = past} hands = one-way (plan_scenario plan) past hands

-- ---- where no message offers control

each-at : {X : Type 0} (P : X → Type 0) (xs : List X) (i : ℕ) (x : X) → Each P xs → slice_get xs i ≡ Some x → P x
each-at P [] i x all there = absurd (none-some x there)
each-at P (y ∷ ys) zero x all there = subst P (same_Some y x there) all.0
each-at P (y ∷ ys) (suc i) x all there = each-at P ys i x all.1 there

module _ (plan : PlanData) (plain : IsPlain plan) (place : ℕ) (holder : StationData) (at : slice_get plan.stations place ≡ Some holder)
    (first : starts plan holder ≡ true) where
  abbrev w : Scenario
  w = plan_scenario plan

  holds-first : has w [] holder ≡ true
  unfolding so_far course
  holds-first = first

  holds-always : (t : ℕ) → has w (shown_at w t) holder ≡ true
  unfolding ticks_on
  holds-always zero = holds-first
  holds-always (suc t) =
      plain-keeps w.lag holder (starts plan holder) (each-at IsPlainStation plan.stations place holder plain at) w.loads w.outside _ (shown_at w t) (holds-always t)

  pub kept-hand : (t : ℕ) → InOneHand w (shown_at w (suc t)) → HoldsAt w (shown_at w (suc t)) place holder
  kept-hand t (inl alone) = record {
    holds = holds-always (suc t);
    others = λ other station here apart.
        let same = at-place w (shown_at w (suc t)) alone place holder record { there = at; present = refl } (holds-always (suc t)) in
        alone.others other station here (λ e. apart (e ∙ same));
  }
  kept-hand t (inr two) =
      absurd (true≢false (sym two.doubts
      ∙ plain-doubts w.lag two.offerer (starts plan two.offerer) (each-at IsPlainStation plan.stations two.place two.offerer plain two.at.there) w.loads w.outside
      (shown_at w (suc t))))
