-- From a message to the moment after it: where its station closed it and nobody owes anything, the moment lies between two messages.
use Rattle.std.proofs.Common.{◌≡◌, ◌≢◌, inl, inr, ℕ, Bool, false, not, List, [], ◌∷◌, length, map, sym, ap, ◌∙◌, subst}
use Rattle.std.proofs.lemmas.Bool.{true≢false}
use Rattle.bus_base.specs.declared.samples.Channel.{Channel}
use Rattle.bus_base.specs.declared.samples.Pair.{Pair}
use Rattle.bus_base.specs.declared.samples.Part.{Part}
use Rattle.bus_formats.specs.Plans.{StationData}
use Rattle.bus_model.specs.Attempts.{Begun, Ended}
use Rattle.bus_model.specs.Course.{Course}
use Rattle.bus_model.specs.Memory.{with_loads}
use Rattle.bus_model.specs.Message.{Present, After}
use Rattle.bus_model.specs.Orders.{free}
use Rattle.bus_model.specs.Starts.{Entry, starts}
use Rattle.bus_model.specs.World.{Trace, is_present}
use Rattle.bus_model.specs.WorldLog.{present_stations}
use Rattle.bus_law_messages.specs.Settled.{IsServing}
use Rattle.bus_law_table.specs.Stations.{loaded_at, IsNamedApart, ArePresent}
use Rattle.bus_law_phases.proofs.Closed.{closed, other-closed, own-told}
use Rattle.bus_law_table.proofs.Pairing.{Each, beside-map, map-map}
use Rattle.bus_law_phases.specs.Scenarios.{Scenario, course_of, present_of, IsPresentAt}
use Rattle.bus_law_phases.specs.Moments.{HasDuty, IsHolder, IsServer, IsAfter, Underway}
use Rattle.bus_law_phases.specs.Rests.{Rested}
use Rattle.bus_law_phases.specs.Closings.{HasItemsOf, IsClosed, stations_closed}
use Rattle.bus_law_phases.proofs.Pairs.{each-of, beside-at, beside-with}

each-both : {X : Type 0} (P Q : X → Type 0) (xs : List X) → Each P xs → Each Q xs → Each (λ x. P x × Q x) xs
each-both P Q [] first second = tt
each-both P Q (x ∷ xs) first second = ((first.0, second.0), each-both P Q xs first.1 second.1)

-- ---- a closed message

module _ (w : Scenario) (now : Trace) (place : ℕ) (holder : StationData) (c : Channel) (e : ℕ) (part : Part) (afters : List After)
    (moment : Underway w now place holder c e part afters) (apart : IsNamedApart w.plan place holder) (before : Course) (begun : Begun) (ended : Ended)
    (tick : ℕ) (over : IsClosed w now.shown holder before begun ended tick afters) where
  abbrev past : List Pair
  past = now.shown

  abbrev IsLeft : After → Type 0
  IsLeft after = (after.duty ≡ free) × HasItemsOf holder before after

  left-all : Each IsLeft afters
  left-all =
      each-both (λ after. after.duty ≡ free) (HasItemsOf holder before) afters (each-of (λ after. after.duty ≡ free) afters over.duties)
      (each-of (HasItemsOf holder before) afters over.items)

  abbrev after_closed : After → Present
  after_closed after = closed holder begun ended after.station

  abbrev IsTold : StationData → After → Type 0
  IsTold station after = present_of w station past ≡ loaded_at w.loads (length past) (after_closed after)

  -- the table's station before the attempt
  station-before : (y : Present) → y.plan ≡ holder → y.left ≡ before.left → y.live ≡ before.live → y.serves ≡ false →
      record { plan = holder; memory = y.memory; left = before.left; live = before.live; serves = not before.holds } ≡ y
  station-before y plan left live serves =
      ap (λ p. record { plan = p; memory = y.memory; left = before.left; live = before.live; serves = not before.holds }) (sym plan)
      ∙ ap (λ (l : List Entry). record { plan = y.plan; memory = y.memory; left = l; live = before.live; serves = not before.holds }) (sym left)
      ∙ ap (λ (d : Channel). record { plan = y.plan; memory = y.memory; left = y.left; live = d; serves = not before.holds }) (sym live)
      ∙ ap (λ (b : Bool). record { plan = y.plan; memory = y.memory; left = y.left; live = y.live; serves = b }) (ap not over.held ∙ sym serves)

  own-is : (after : After) → IsHolder w past holder after → HasItemsOf holder before after → IsTold holder after
  own-is after own items =
      let y : Present = after.station in
      let has = items own.plan in
      own-told holder begun ended before (course_of w holder past) tick (length past) w.loads y.memory (present_of w holder past).memory y.memory y
      over.closes
      over.held over.keeps (station-before y own.plan has.0 has.1 own.serves)
      (own.memory ∙ ap (λ (st : StationData). with_loads st.terminal.address (length past) w.loads y.memory) own.plan)

  other-is : (other : ℕ) (station : StationData) (after : After) → other ≢ place → IsPresentAt w other station → IsServer w past c e part station after →
      IsTold station after
  other-is other station after away at server =
      server.is
      ∙ ap (loaded_at w.loads (length past)) (sym (other-closed holder station begun ended after.station (sym (ap (λ (p : Present). p.plan) server.is))
      (apart other station at.there away)))

  station-is : (station : StationData) (after : After) → IsAfter w past place holder c e part station after → IsLeft after → IsTold station after
  station-is station after is left = elim is [
    | inl own ↦ subst (λ st. IsTold st after) (sym own.0) (own-is after (subst (λ st. IsHolder w past st after) own.0 own.1) left.1)
    | inr server ↦ other-is server.0 station after server.1 server.2 server.3
  ]

  stations-are : ArePresent w.lag w.plan w.loads w.outside w.absent past (stations_closed holder begun ended afters)
  stations-are =
      beside-map IsTold (λ station. present_of w station past) (λ after. loaded_at w.loads (length past) (after_closed after))
      (present_stations w.lag w.plan w.loads w.outside w.absent) afters
      (beside-with (IsAfter w past place holder c e part) IsTold IsLeft (present_stations w.lag w.plan w.loads w.outside w.absent) afters moment.stations
      left-all station-is)
      (λ station after told. told)
      ∙ sym (map-map (loaded_at w.loads (length past)) after_closed afters)
      ∙ ap (map (loaded_at w.loads (length past))) (sym (map-map (closed holder begun ended) (λ after. after.station) afters))

  -- every other station serves, and is free
  serving-by : (other : ℕ) (station : StationData) (after : After) → IsPresentAt w other station → other ≢ place →
      IsAfter w past place holder c e part station after → IsLeft after → IsServing w.lag station (starts w.plan station) w.loads w.outside past
  serving-by other station after at away is left = elim is [
    | inl own ↦ absurd (true≢false (sym moment.holds ∙ sym (ap (λ st. (course_of w st past).holds) own.0) ∙ (moment.serves other station at away).serves))
    | inr server ↦ subst (HasDuty w past station c e part) left.0 server.3.duty
  ]

  serving : (other : ℕ) (station : StationData) → IsPresentAt w other station → other ≢ place →
      IsServing w.lag station (starts w.plan station) w.loads w.outside past
  serving other station at away =
      let found = beside-at (IsAfter w past place holder c e part) IsLeft (is_present w.absent) w.plan.stations afters other station moment.stations left-all
      at.there at.present in
      serving-by other station found.0 at away found.1 found.2

  pub closed-rested : Rested w now place holder (stations_closed holder begun ended afters)
  closed-rested = record {
    rests = moment.rests;
    fresh = moment.fresh;
    spent = moment.spent;
    at = moment.at;
    holds = moment.holds;
    idle = ap (λ (d : Course). d.runs) over.closes;
    others = serving;
    are = stations-are;
  }
