-- The stations of the message table beside those of the world, in a moment in which one doubts whether its offer of control was accepted.
use Rattle.std.proofs.Common.{◌≡◌, ◌≢◌, ℕ, Bool, true, false, List, [], ◌∷◌, length, map, refl, sym, ap, ◌∙◌}
use Rattle.std.proofs.lemmas.Bool.{eq-eqb, ne_eqb}
use Rattle.std.proofs.lemmas.List.Elements.{All-nil, All-cons}
use Rattle.std.specs.List.{All}
use Rattle.std.specs.Prelude.{◌==◌, if◌then◌else◌}
use Rattle.bus_base.specs.declared.samples.Pair.{Pair}
use Rattle.bus_formats.specs.Accepted.{IsAccepted}
use Rattle.bus_formats.specs.Plans.{StationData}
use Rattle.bus_model.specs.Attempts.{Begun}
use Rattle.bus_model.specs.Message.{Present, After, unmoved}
use Rattle.bus_model.specs.World.{Trace}
use Rattle.bus_model.specs.WorldLog.{present_stations}
use Rattle.bus_law_moments.specs.Doubts.{yielded_station, present_in_doubt, RestedInDoubt}
use Rattle.bus_law_phases.specs.Closings.{HasItemsOf}
use Rattle.bus_law_phases.specs.Scenarios.{Scenario, course_of, present_of, IsPresentAt}
use Rattle.bus_law_phases.proofs.AnswerBegun.{addresses-apart}
use Rattle.bus_law_phases.proofs.Resting.{each-present}
use Rattle.bus_law_table.specs.Stations.{loaded_at}
use Rattle.bus_law_table.proofs.Pairing.{Each, Beside, beside, each-other}

-- the one that doubts is had as one that yielded
pub seen-own : (w : Scenario) (past : List Pair) (begun : Begun) (station : StationData) →
    present_in_doubt w past station.terminal.address begun station ≡ yielded_station begun (present_of w station past)
seen-own w past begun station =
    let test : (station.terminal.address == station.terminal.address) ≡ true = eq-eqb station.terminal.address station.terminal.address refl in rw test refl

-- another one as it is
pub seen-other : (w : Scenario) (past : List Pair) (begun : Begun) (address : ℕ) (station : StationData) → station.terminal.address ≢ address →
    present_in_doubt w past address begun station ≡ present_of w station past
seen-other w past begun address station other =
    let test : (station.terminal.address == address) ≡ false = ne_eqb station.terminal.address address other in rw test refl

-- either way it is its entry of the plan
seen-plan : (w : Scenario) (past : List Pair) (begun : Begun) (address : ℕ) (station : StationData) →
    (present_in_doubt w past address begun station).plan ≡ station
seen-plan w past begun address station = by-test (station.terminal.address == address) where
  by-test : (b : Bool) → (if b then yielded_station begun (present_of w station past) else present_of w station past).plan ≡ station
  by-test true = refl
  by-test false = refl

unmoved-all : (P : After → Type 0) (ys : List Present) → Each (λ y. P (unmoved y)) ys → All P (map unmoved ys)
unmoved-all P [] each = All-nil P
unmoved-all P (y ∷ ys) each = All-cons P (unmoved y) (map unmoved ys) each.0 (unmoved-all P ys each.1)

module _ (w : Scenario) (now : Trace) (place : ℕ) (holder : StationData) (stations : List Present) (offer : Begun) (x : ℕ) (accepted : IsAccepted w.plan)
    (moment : RestedInDoubt w now place holder stations offer x) where
  abbrev past : List Pair
  past = now.shown

  abbrev seen : StationData → Present
  seen station = present_in_doubt w past moment.offerer.terminal.address offer station

  pub other-seen : (other : ℕ) (station : StationData) → IsPresentAt w other station → other ≢ moment.before → seen station ≡ present_of w station past
  other-seen other station at aside =
      seen-other w past offer moment.offerer.terminal.address station
      (addresses-apart w.plan other moment.before station moment.offerer accepted at.there moment.offerer_at.there aside)

  -- each station that is present, with its place, beside its entry of the table
  pub seen-beside : (R : StationData → Present → Type 0) →
      ((other : ℕ) (station : StationData) (p : Present) → IsPresentAt w other station →
      present_in_doubt w now.shown moment.offerer.terminal.address offer station ≡ loaded_at w.loads (length now.shown) p → R station p) →
      Beside R (present_stations w.lag w.plan w.loads w.outside w.absent) stations
  seen-beside R make =
      beside (λ station. (other : ℕ) × IsPresentAt w other station) R seen (loaded_at w.loads (length past))
      (present_stations w.lag w.plan w.loads w.outside w.absent) stations
      (each-present w past (λ station. (other : ℕ) × IsPresentAt w other station) (λ other station at. (other, at))) moment.are
      (λ station p there same. make there.0 station p there.1 same)

  -- the items left and the live channel of the one that starts are those of its course
  pub doubt-items : All (HasItemsOf holder (course_of w holder now.shown)) (map unmoved stations)
  doubt-items =
      let R : StationData → Present → Type 0 = λ station y. seen station ≡ loaded_at w.loads (length past) y in
      unmoved-all (HasItemsOf holder (course_of w holder past)) stations
      (each-other R (λ y. HasItemsOf holder (course_of w holder past) (unmoved y)) (present_stations w.lag w.plan w.loads w.outside w.absent) stations
      (seen-beside R (λ other station y at same. same))
      (λ station y same own.
      let st : station ≡ holder = sym (seen-plan w past offer moment.offerer.terminal.address station) ∙ ap (λ (p : Present). p.plan) same ∙ own in
      let is : present_of w holder past ≡ loaded_at w.loads (length past) y =
      sym (other-seen place holder moment.at (λ same. moment.apart (sym same))) ∙ ap seen (sym st) ∙ same in (
        sym (ap (λ (p : Present). p.left) is),
        sym (ap (λ (p : Present). p.live) is),
      )))
