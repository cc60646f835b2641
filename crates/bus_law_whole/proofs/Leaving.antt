-- The station in control leaves the bus between two messages: the others rest, and are those of the table without it.
use Rattle.std.proofs.Common.{◌≡◌, ◌≢◌, ℕ, Bool, true, false, List, [], ◌∷◌, map, Some, refl, sym, ap, ◌∙◌, subst, arith}
use Rattle.std.proofs.lemmas.Bool.{eq-eqb, true≢false}
use Rattle.std.proofs.lemmas.Option.{same_Some}
use Rattle.std.specs.Prelude.{not, ◌||◌, ◌==◌, if◌then◌else◌, filter, slice_get, length}
use Rattle.std.specs.List.{list_any}
use Rattle.bus_formats.specs.Plans.{StationData}
use Rattle.bus_model.specs.Message.{Present, address_of_station}
use Rattle.bus_model.specs.World.{Trace, is_present}
use Rattle.bus_model.specs.WorldLog.{present_stations}
use Rattle.bus_law_table.specs.Stations.{loaded_at}
use Rattle.bus_law_phases.specs.Rests.{Rested}
use Rattle.bus_law_phases.specs.Scenarios.{Scenario, IsPresentAt, trace_at, shown_at, present_of}
use Rattle.bus_law_whole.specs.Leaving.{left_by, without_station, RestsUncontrolled}
use Rattle.bus_law_whole.proofs.Changing.{changed-before}

-- ---- who is left

-- a station has another address
abbrev apart_from : ℕ → StationData → Bool
apart_from address station = not (address == station.terminal.address)

by-step : (c b : Bool) (s : StationData) (ys zs : List StationData) (q : StationData → Bool) → q s ≡ not c → ys ≡ filter q zs →
    (if not (c || b) then s ∷ ys else ys) ≡ filter q (if not b then s ∷ zs else zs)
by-step true true s ys zs q is same = same
by-step true false s ys zs q is same = same ∙ ap (λ (t : Bool). if t then s ∷ filter q zs else filter q zs) (sym is)
by-step false true s ys zs q is same = same
by-step false false s ys zs q is same = ap (λ xs. s ∷ xs) same ∙ ap (λ (t : Bool). if t then s ∷ filter q zs else filter q zs) (sym is)

-- those that are present without one station are those that were, but it
filter-both : (address : ℕ) (absent : List ℕ) (stations : List StationData) →
    filter (is_present (address ∷ absent)) stations ≡ filter (apart_from address) (filter (is_present absent) stations)
filter-both address absent [] = refl
filter-both address absent (s ∷ stations) =
    by-step (address == s.terminal.address) (list_any (λ a. a == s.terminal.address) absent) s (filter (is_present (address ∷ absent)) stations)
    (filter (is_present absent) stations) (apart_from address) refl (filter-both address absent stations)

head-same : (x y : Present) (xs ys : List Present) → x ∷ xs ≡ y ∷ ys → x ≡ y
head-same x y xs ys same = cc

tail-same : (x y : Present) (xs ys : List Present) → x ∷ xs ≡ y ∷ ys → xs ≡ ys
tail-same x y xs ys same = cc

map-either : (f : StationData → Present) (g : Present → Present) (b c : Bool) (s : StationData) (p : Present) (zs : List StationData) (ys : List Present) → b ≡ c →
    f s ≡ g p → map f zs ≡ map g ys → map f (if not b then s ∷ zs else zs) ≡ map g (if not c then p ∷ ys else ys)
map-either f g true true s p zs ys same here rest = rest
map-either f g false false s p zs ys same here rest = ap (λ x. x ∷ map f zs) here ∙ ap (λ xs. g p ∷ xs) rest
map-either f g true false s p zs ys same here rest = absurd (true≢false same)
map-either f g false true s p zs ys same here rest = absurd (true≢false (sym same))

-- stations that are those of the table are so without one address
map-left : (address : ℕ) (f : StationData → Present) (g : Present → Present) → ((s : StationData) → (f s).plan ≡ s) → ((p : Present) → (g p).plan ≡ p.plan) →
    (zs : List StationData) (ys : List Present) → map f zs ≡ map g ys → map f (filter (apart_from address) zs) ≡ map g (left_by address ys)
map-left address f g own kept [] [] same = refl
map-left address f g own kept [] (y ∷ ys) same = absurd (cc)
map-left address f g own kept (z ∷ zs) [] same = absurd (cc)
map-left address f g own kept (z ∷ zs) (y ∷ ys) same =
    let here : f z ≡ g y = head-same (f z) (g y) (map f zs) (map g ys) same in
    let plan : z ≡ y.plan = sym (own z) ∙ ap (λ (p : Present). p.plan) here ∙ kept y in
    map-either f g (address == z.terminal.address) (address == address_of_station y) z y (filter (apart_from address) zs) (left_by address ys)
    (ap (λ (s : StationData). address == s.terminal.address) plan) here
    (map-left address f g own kept zs ys (tail-same (f z) (g y) (map f zs) (map g ys) same))

-- ---- the moment

either-present : (c b : Bool) → not (c || b) ≡ true → (c ≡ false) × (not b ≡ true)
either-present true b is = absurd (true≢false (sym is))
either-present false b is = (refl, is)

module _ (w : Scenario) (a place : ℕ) (holder : StationData) (stations : List Present) (rested : Rested w (trace_at w a) place holder stations) where
  abbrev address : ℕ
  address = holder.terminal.address

  abbrev later : Scenario
  later = without_station w a holder

  -- who is present still is another one
  still-there : (other : ℕ) (station : StationData) → IsPresentAt later other station → IsPresentAt w other station × (other ≢ place)
  still-there other station at =
      let both = either-present (address == station.terminal.address) (list_any (λ x. x == station.terminal.address) w.absent) at.present in (
        record { there = at.there; present = both.1 },
        λ same.
            let here : slice_get w.plan.stations place ≡ Some station = ap (slice_get w.plan.stations) (sym same) ∙ at.there in
            let is : holder ≡ station = same_Some holder station (sym rested.at.there ∙ here) in
            true≢false (sym (eq-eqb address station.terminal.address (ap (λ (s : StationData). s.terminal.address) is)) ∙ both.0),
      )

  are-left : map (λ st. present_of w st (shown_at w a)) (present_stations w.lag w.plan w.loads w.outside (holder.terminal.address ∷ w.absent))
      ≡ map (loaded_at w.loads (length (shown_at w a))) (left_by holder.terminal.address stations)
  are-left =
      ap (map (λ st. present_of w st (shown_at w a))) (filter-both address w.absent w.plan.stations)
      ∙ map-left address (λ st. present_of w st (shown_at w a)) (loaded_at w.loads (length (shown_at w a))) (λ s. refl) (λ p. refl)
      (present_stations w.lag w.plan w.loads w.outside w.absent) stations rested.are

  rests-so : RestsUncontrolled (without_station w a holder) (trace_at w a) (left_by holder.terminal.address stations)
  rests-so = record {
    rests = rested.rests;
    fresh = rested.fresh;
    spent = rested.spent;
    serves = λ other station at. let there = still-there other station at in rested.others other station there.0 there.1;
    are = are-left;
  }

  pub left-rests : RestsUncontrolled (without_station w a holder) (trace_at (without_station w a holder) a) (left_by holder.terminal.address stations)
  left-rests =
      subst (λ tr. RestsUncontrolled (without_station w a holder) tr (left_by holder.terminal.address stations))
      (sym (changed-before w a (holder.terminal.address ∷ w.absent) w.outside a (omega arith))) rests-so
