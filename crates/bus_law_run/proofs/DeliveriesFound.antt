-- What one terminal took is what is found of it among the blocks that all took.
use Rattle.std.proofs.Common.{◌≡◌, ◌≢◌, ℕ, zero, suc, ◌<◌, ◌≤◌, Bool, true, false, List, [], ◌∷◌, ◌++◌, length, map, Option, Some, None, refl, sym, ap, ◌∙◌, subst, arith}
use Rattle.std.proofs.lemmas.Bool.{eq-eqb, ne_eqb}
use Rattle.std.proofs.lemmas.List.{append-nil}
use Rattle.std.proofs.lemmas.List.Elements.{filter_map-append}
use Rattle.std.proofs.lemmas.Option.{none-some, same_Some}
use Rattle.std.specs.Prelude.{◌==◌, if◌then◌else◌, filter_map, filter, slice_get, option_map, option_to_list}
use Rattle.std.specs.List.{AllByRecursion as Each, cons_option}
use Rattle.bus_base.specs.declared.samples.Channel.{Channel}
use Rattle.bus_base.specs.declared.samples.Pair.{Pair}
use Rattle.bus_formats.specs.Accepted.{addresses}
use Rattle.bus_formats.specs.Plans.{StationData}
use Rattle.bus_formats.specs.declared.log.Delivery.{Delivery}
use Rattle.bus_model.specs.Message.{Delivered}
use Rattle.bus_model.specs.Orders.{Taken}
use Rattle.bus_model.specs.Starts.{starts}
use Rattle.bus_model.specs.World.{Trace, is_present}
use Rattle.bus_model.specs.WorldLog.{present_stations}
use Rattle.bus_law_plans.proofs.Stations.{Apart, apart-from}
use Rattle.bus_law_table.specs.Happened.{block_at, took_in, blocks_in as blocks_now, blocks_found}
use Rattle.bus_law_phases.specs.Scenarios.{Scenario, IsPresentAt, shown_at, blocks_in}
use Rattle.bus_law_run.specs.Blocks.{deliveries_of, IsHeard}
use Rattle.bus_law_run.specs.WholeRun.{IsAcceptedScenario}
use Rattle.bus_law_run.proofs.FirstRests.{all-present}
use Rattle.bus_law_run.proofs.TickTaken.{took-delivery}
use Rattle.bus_law_phases.proofs.Staying.{newest, shown-next, stays-later}

-- ---- one of many

-- the deliveries to an address
abbrev at_address : ℕ → Delivered → Option Delivery
at_address address d = if d.address == address then Some d.delivery else None

abbrev found_at : ℕ → List Delivered → List Delivery
found_at address ds = filter_map (at_address address) ds

module _ (f : StationData → Option Delivered) (named : (s : StationData) (d : Delivered) → f s ≡ Some d → d.address ≡ s.terminal.address) where
  own-one : (address : ℕ) (s : StationData) (o : Option Delivered) (ds : List Delivered) → f s ≡ o → s.terminal.address ≡ address →
      found_at address (cons_option o ds) ≡ option_to_list (option_map (λ (d : Delivered). d.delivery) o) ++ found_at address ds
  own-one address s None ds is same = refl
  own-one address s (Some d) ds is same =
      let here : (d.address == address) ≡ true = eq-eqb d.address address (named s d is ∙ same) in
      ap (λ (b : Bool). cons_option (if b then Some d.delivery else None) (found_at address ds)) here

  other-one : (address : ℕ) (s : StationData) (o : Option Delivered) (ds : List Delivered) → f s ≡ o → s.terminal.address ≢ address →
      found_at address (cons_option o ds) ≡ found_at address ds
  other-one address s None ds is other = refl
  other-one address s (Some d) ds is other =
      let away : (d.address == address) ≡ false = ne_eqb d.address address (λ e. other (sym (named s d is) ∙ e)) in
      ap (λ (b : Bool). cons_option (if b then Some d.delivery else None) (found_at address ds)) away

  none-else : (address : ℕ) (stations : List StationData) → Each (λ a. address ≢ a) (map (λ (s : StationData). s.terminal.address) stations) →
      found_at address (filter_map f stations) ≡ []
  none-else address [] others = refl
  none-else address (s ∷ stations) others =
      other-one address s (f s) (filter_map f stations) refl (λ e. others.0 (sym e)) ∙ none-else address stations others.1

  found-own : (stations : List StationData) (i : ℕ) (s : StationData) → Apart (map (λ (s : StationData). s.terminal.address) stations) →
      slice_get stations i ≡ Some s →
      found_at s.terminal.address (filter_map f stations) ≡ option_to_list (option_map (λ (d : Delivered). d.delivery) (f s))
  found-own [] i s apart there = absurd (none-some s there)
  found-own (x ∷ stations) zero s apart there =
      subst (λ (y : StationData). found_at y.terminal.address (filter_map f (x ∷ stations)) ≡ option_to_list (option_map (λ (d : Delivered). d.delivery) (f y)))
      (same_Some x s there)
      (own-one x.terminal.address x (f x) (filter_map f stations) refl refl
      ∙ ap (λ ds. option_to_list (option_map (λ (d : Delivered). d.delivery) (f x)) ++ ds) (none-else x.terminal.address stations apart.0)
      ∙ append-nil (option_to_list (option_map (λ (d : Delivered). d.delivery) (f x))))
  found-own (x ∷ stations) (suc i) s apart there =
      other-one s.terminal.address x (f x) (filter_map f stations) refl (away stations i apart.0 there) ∙ found-own stations i s apart.1 there
    where
      away : (ys : List StationData) (j : ℕ) → Each (λ a. x.terminal.address ≢ a) (map (λ (y : StationData). y.terminal.address) ys) →
          slice_get ys j ≡ Some s → x.terminal.address ≢ s.terminal.address
      away [] j each at = absurd (none-some s at)
      away (y ∷ ys) zero each at = subst (λ (z : StationData). x.terminal.address ≢ z.terminal.address) (same_Some y s at) each.0
      away (y ∷ ys) (suc j) each at = away ys j each.1 at

-- ---- tick by tick

module _ (w : Scenario) (is : IsAcceptedScenario w) (present : w.absent ≡ []) (end place : ℕ) (station : StationData) (here : IsPresentAt w place station)
    (heard : (t : ℕ) → t < end → (shown : Pair) → shown_at w (suc t) ≡ shown ∷ shown_at w t → IsHeard w station shown (shown_at w t)) where
  abbrev took : List Pair → ℕ → StationData → Option Delivered
  took past tick s = took_in w.lag w.plan w.loads w.outside w.absent past tick s

  taken-named : (past : List Pair) (tick : ℕ) (s : StationData) (o : Option Taken) (c : Channel) (d : Delivered) →
      option_map (block_at tick c s) o ≡ Some d → d.address ≡ s.terminal.address
  taken-named past tick s None c d is = absurd (none-some d is)
  taken-named past tick s (Some taken) c d is = ap (λ (x : Delivered). x.address) (sym (same_Some (block_at tick c s taken) d is))

  stations-all : present_stations w.lag w.plan w.loads w.outside w.absent ≡ w.plan.stations
  stations-all = ap (λ (absent : List ℕ). filter (is_present absent) w.plan.stations) present ∙ all-present w.plan.stations

  found-now : (past : List Pair) (tick : ℕ) →
      found_at station.terminal.address (blocks_now w.lag w.plan w.loads w.outside w.absent past tick)
      ≡ option_to_list (option_map (λ (d : Delivered). d.delivery) (took past tick station))
  found-now past tick =
      ap (λ ss. found_at station.terminal.address (filter_map (took past tick) ss)) stations-all
      ∙ found-own (took past tick) (λ s d told. taken-named past tick s _ _ d told) w.plan.stations place station
      (apart-from (addresses w.plan) is.bus.accepted.apart) here.there

  pub deliveries-found : (t : ℕ) → t ≤ end →
      found_at station.terminal.address (blocks_in w (shown_at w t)) ≡ deliveries_of w.lag station (starts w.plan station) w.loads w.outside (shown_at w t)
  unfolding blocks_found deliveries_of
  deliveries-found zero early =
      ap (λ (tr : Trace). found_at station.terminal.address (blocks_in w tr.shown)) is.whole.first
      ∙ ap (λ (tr : Trace). deliveries_of w.lag station (starts w.plan station) w.loads w.outside tr.shown) (sym is.whole.first)
  deliveries-found (suc t) early =
      let past : List Pair = shown_at w t in
      let grows : shown_at w (suc t) ≡ newest w t ∷ shown_at w t = shown-next w t (stays-later w 0 t (omega arith) is.whole.stays) in
      let now : List Pair = newest w t ∷ shown_at w t in
      ap (λ p. found_at station.terminal.address (blocks_in w p)) grows ∙
      filter_map-append (at_address station.terminal.address) (blocks_in w past) (blocks_now w.lag w.plan w.loads w.outside w.absent now (length past))
      ∙ ap (λ ds. ds ++ found_at station.terminal.address (blocks_now w.lag w.plan w.loads w.outside w.absent now (length past)))
      (deliveries-found t (omega (arith, early)))
      ∙ ap (λ ds. deliveries_of w.lag station (starts w.plan station) w.loads w.outside past ++ ds)
      (found-now now (length past)
      ∙ ap option_to_list (took-delivery w station _ past (heard t (omega (arith, early)) _ grows)))
      ∙ ap (deliveries_of w.lag station (starts w.plan station) w.loads w.outside) (sym grows)
