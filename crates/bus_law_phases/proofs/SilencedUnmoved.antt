-- A moment between two messages is one in which nobody owes anything.
use Rattle.std.proofs.Common.{◌≡◌, ◌≢◌, ◌⊎◌, inl, inr, ℕ, true, false, not, List, [], ◌∷◌, length, map, refl, sym, ap, ◌∙◌}
use Rattle.std.proofs.lemmas.Bool.{cases_eq}
use Rattle.std.proofs.lemmas.List.Elements.{All-nil, All-cons}
use Rattle.std.proofs.lemmas.Option.{same_Some}
use Rattle.std.specs.List.{All, AllPairs}
use Rattle.std.specs.Prelude.{Some, slice_get}
use Rattle.bus_base.specs.declared.samples.Channel.{Channel}
use Rattle.bus_base.specs.declared.samples.Pair.{Pair}
use Rattle.bus_base.specs.declared.samples.Part.{Part}
use Rattle.bus_formats.specs.Plans.{StationData}
use Rattle.bus_model.specs.Message.{Present, After, unmoved}
use Rattle.bus_model.specs.Standing.{is_owed}
use Rattle.bus_model.specs.Starts.{starts}
use Rattle.bus_model.specs.World.{Trace}
use Rattle.bus_model.specs.WorldLog.{present_stations}
use Rattle.bus_law_messages.specs.Settled.{IsServing}
use Rattle.bus_law_table.specs.Stations.{loaded_at}
use Rattle.bus_law_table.proofs.Pairing.{Each, beside}
use Rattle.bus_law_phases.specs.Pairing.{Beside}
use Rattle.bus_law_phases.specs.Scenarios.{Scenario, course_of, present_of, IsPresentAt}
use Rattle.bus_law_phases.specs.Moments.{IsAfter, Underway}
use Rattle.bus_law_phases.specs.Rests.{Rested}
use Rattle.bus_law_phases.proofs.Resting.{each-present}

beside-unmoved : (R : StationData → After → Type 0) (xs : List StationData) (ys : List Present) → Beside (λ x y. R x (unmoved y)) xs ys →
    Beside R xs (map unmoved ys)
beside-unmoved R [] [] pairs = tt
beside-unmoved R [] (y ∷ ys) pairs = absurd pairs
beside-unmoved R (x ∷ xs) [] pairs = absurd pairs
beside-unmoved R (x ∷ xs) (y ∷ ys) pairs = (pairs.0, beside-unmoved R xs ys pairs.1)

all-unmoved : (P : After → Type 0) (ys : List Present) → Each (λ y. P (unmoved y)) ys → All P (map unmoved ys)
all-unmoved P [] each = All-nil P
all-unmoved P (y ∷ ys) each = All-cons P (unmoved y) (map unmoved ys) each.0 (all-unmoved P ys each.1)

each-any : {X : Type 0} (P : X → Type 0) (xs : List X) → ((x : X) → P x) → Each P xs
each-any P [] make = tt
each-any P (x ∷ xs) make = (make x, each-any P xs make)

-- where none of the later ones does, at most one does
pub pairs-none : (afters : List After) → All (λ after. is_owed after.duty ≡ false) afters →
    AllPairs (λ a b. is_owed a.duty ≡ true → is_owed b.duty ≡ false) afters
pairs-none afters none i j d before within owed = none j d within

module _ (w : Scenario) (now : Trace) (place : ℕ) (holder : StationData) (stations : List Present) (moment : Rested w now place holder stations)
    (c : Channel) (e : ℕ) (part : Part) where
  abbrev past : List Pair
  past = now.shown

  abbrev IsEither : StationData → Type 0
  IsEither station = (station ≡ holder)
      ⊎ ((other : ℕ) × (other ≢ place) × IsPresentAt w other station × IsServing w.lag station (starts w.plan station) w.loads w.outside past)

  either-is : (other : ℕ) (station : StationData) → IsPresentAt w other station → IsEither station
  either-is other station at = elim (cases_eq other place) [
    | inl same ↦ (let here : slice_get w.plan.stations place ≡ Some station = ap (slice_get w.plan.stations) (sym same) ∙ at.there in
        inl (same_Some station holder (sym here ∙ moment.at.there)))
    | inr apart ↦ inr (other, apart, at, moment.others other station at apart)
  ]

  unmoved-is : (station : StationData) (y : Present) → IsEither station → present_of w station past ≡ loaded_at w.loads (length past) y →
      IsAfter w past place holder c e part station (unmoved y)
  unmoved-is station y either same = elim either [
    | inl own ↦ inl (
      own,
      record {
        plan = sym (ap (λ (p : Present). p.plan) same);
        memory = ap (λ (p : Present). p.memory) same;
        serves = sym (ap (λ (p : Present). p.serves) same) ∙ ap (λ st. not (course_of w st past).holds) own ∙ ap not moment.holds;
        duty = refl;
      },
    )
    | inr other ↦ inr (other.0, other.1, other.2, record { is = same; duty = other.3 })
  ]

  pub rested-underway : Underway w now place holder c e part (map unmoved stations)
  rested-underway = record {
    rests = moment.rests;
    fresh = moment.fresh;
    spent = moment.spent;
    at = moment.at;
    holds = moment.holds;
    serves = λ other station at apart. (moment.others other station at apart).serves;
    stations = beside-unmoved (IsAfter w past place holder c e part) (present_stations w.lag w.plan w.loads w.outside w.absent) stations
        (beside IsEither (λ station y. IsAfter w past place holder c e part station (unmoved y)) (λ station. present_of w station past)
        (loaded_at w.loads (length past)) (present_stations w.lag w.plan w.loads w.outside w.absent) stations
        (each-present w past IsEither either-is) moment.are unmoved-is);
    one = pairs-none (map unmoved stations)
        (all-unmoved (λ after. is_owed after.duty ≡ false) stations (each-any (λ y. is_owed (unmoved y).duty ≡ false) stations (λ y. refl)));
  }
