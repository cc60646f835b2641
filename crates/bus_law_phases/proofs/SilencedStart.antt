-- The world of an accepted plan begins with a moment between two messages.
use Rattle.std.proofs.Common.{◌≡◌, ◌≢◌, ℕ, zero, suc, true, List, [], ◌∷◌, map, Some, refl, sym, ap, ◌∙◌, subst, arith}
use Rattle.std.proofs.lemmas.Bool.{ne_eqb}
use Rattle.std.proofs.lemmas.Bool.Decides.{nat_tests}
use Rattle.std.proofs.lemmas.Option.{none-some, same_Some}
use Rattle.std.specs.Prelude.{slice_get}
use Rattle.bus_formats.specs.Accepted.{IsAccepted, addresses}
use Rattle.bus_formats.specs.Plans.{StationData, PlanData}
use Rattle.bus_model.specs.Run.{first_present}
use Rattle.bus_model.specs.Starts.{starts}
use Rattle.bus_model.specs.World.{ticks_on}
use Rattle.bus_model.specs.WorldLog.{present_stations}
use Rattle.bus_law_messages.specs.Settled.{Settled}
use Rattle.bus_law_messages.proofs.Beginning.{begins-settled}
use Rattle.bus_law_plans.proofs.Stations.{Apart, apart-from}
use Rattle.bus_law_table.specs.Stations.{IsNamedApart}
use Rattle.bus_law_table.proofs.Pairing.{Each}
use Rattle.bus_law_table.proofs.Paused.{first-present}
use Rattle.bus_law_phases.specs.Scenarios.{Scenario, no_ticks, trace_at, IsPresentAt}
use Rattle.bus_law_phases.specs.Rests.{Rested}

-- ---- no two stations of an accepted plan have one address

each-place : (P : ℕ → Type 0) (stations : List StationData) (i : ℕ) (x : StationData) → Each P (map (λ s. s.terminal.address) stations) →
    slice_get stations i ≡ Some x → P x.terminal.address
each-place P [] i x each there = absurd (none-some x there)
each-place P (y ∷ ys) zero x each there = subst (λ (s : StationData). P s.terminal.address) (same_Some y x there) each.0
each-place P (y ∷ ys) (suc i) x each there = each-place P ys i x each.1 there

apart-places : (stations : List StationData) → Apart (map (λ s. s.terminal.address) stations) → (i j : ℕ) (x y : StationData) →
    slice_get stations i ≡ Some x → slice_get stations j ≡ Some y → i ≢ j → x.terminal.address ≢ y.terminal.address
apart-places [] apart i j x y here there other = absurd (none-some x here)
apart-places (s ∷ ss) apart zero zero x y here there other = absurd (other refl)
apart-places (s ∷ ss) apart zero (suc j) x y here there other =
    let first : s ≡ x = same_Some s x here in
    λ same. each-place (λ a. s.terminal.address ≢ a) ss j y apart.0 there (ap (λ (u : StationData). u.terminal.address) first ∙ same)
apart-places (s ∷ ss) apart (suc i) zero x y here there other =
    let first : s ≡ y = same_Some s y there in
    λ same. each-place (λ a. s.terminal.address ≢ a) ss i x apart.0 here (ap (λ (u : StationData). u.terminal.address) first ∙ sym same)
apart-places (s ∷ ss) apart (suc i) (suc j) x y here there other = apart-places ss apart.1 i j x y here there (λ e. other (ap suc e))

-- no other station has the address of the one at a place
pub named-apart : (plan : PlanData) → IsAccepted plan → (place : ℕ) (station : StationData) → slice_get plan.stations place ≡ Some station →
    IsNamedApart plan place station
named-apart plan accepted place station there other at here apart =
    apart-places plan.stations (apart-from (addresses plan) accepted.apart) other place at station here there apart

-- ---- the world before the first tick

pub begins-rested : (w : Scenario) (place : ℕ) (holder : StationData) → IsAccepted w.plan → IsPresentAt w place holder → starts w.plan holder ≡ true →
    trace_at w 0 ≡ no_ticks → Rested w (trace_at w 0) place holder (map (first_present w.plan) (present_stations w.lag w.plan w.loads w.outside w.absent))
unfolding ticks_on
begins-rested w place holder accepted at on none =
    let first : holder.terminal.address ≡ w.plan.start = grind (arith, nat_tests, on) in
    let settled : Settled w.lag w.plan w.loads w.outside w.absent no_ticks place holder =
    begins-settled w.lag w.plan w.loads w.outside w.absent place holder at.there at.present on
    (λ other station there apart.
    ne_eqb station.terminal.address w.plan.start (λ e. named-apart w.plan accepted place holder at.there other station there apart (e ∙ sym first))) in
    subst (λ tr. Rested w tr place holder (map (first_present w.plan) (present_stations w.lag w.plan w.loads w.outside w.absent))) (sym none) record {
      rests = settled.rests;
      fresh = λ d station. rw (settled.undriven d station) refl;
      spent = settled.spent;
      at = at;
      holds = settled.controls.holds;
      idle = settled.controls.idle;
      others = λ other station here apart. settled.others other station here.there apart here.present;
      are = first-present w.lag w.plan w.loads w.outside w.absent;
    }
