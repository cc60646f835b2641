-- The stations of the table after a message that was closed while its answer runs: those that are present are these.
use Rattle.std.proofs.Common.{◌≡◌, ◌≢◌, inl, inr, ℕ, ◌+◌, Bool, true, false, not, List, ◌++◌, length, map, sym, ap, ◌∙◌, subst, arith, All, length-append}
use Rattle.bus_base.specs.declared.samples.Channel.{Channel}
use Rattle.bus_base.specs.declared.samples.Pair.{Pair}
use Rattle.bus_base.specs.declared.samples.Part.{Part}
use Rattle.bus_formats.specs.Plans.{StationData}
use Rattle.bus_model.specs.Attempts.{Begun, Ended}
use Rattle.bus_model.specs.Course.{Course, gives, close}
use Rattle.bus_model.specs.Memory.{with_loads}
use Rattle.bus_model.specs.Message.{Present, After}
use Rattle.bus_model.specs.Starts.{Entry, starts}
use Rattle.bus_model.specs.WorldLog.{present_stations}
use Rattle.bus_law_stations.specs.Turns.{KeepsControl}
use Rattle.bus_law_table.specs.Stations.{loaded_at, IsNamedApart, ArePresent}
use Rattle.bus_law_table.proofs.Pairing.{beside-map, map-map}
use Rattle.bus_law_phases.specs.Closings.{HasItemsOf, stations_closed}
use Rattle.bus_law_phases.specs.Moments.{IsHolder, IsServer, IsAfter}
use Rattle.bus_law_phases.specs.Pairing.{Beside}
use Rattle.bus_law_phases.specs.Scenarios.{Scenario, course_of, standing_of, present_of, IsPresentAt}
use Rattle.bus_law_phases.proofs.AnswerLeft.{told-with, alike-later, holder-left}
use Rattle.bus_law_phases.proofs.Closed.{closed, other-closed, own-told}
use Rattle.bus_law_phases.proofs.Pairs.{each-of, beside-with}

module _ (w : Scenario) (past more : List Pair) (place : ℕ) (holder : StationData) (c : Channel) (e : ℕ) (part : Part) (afters : List After)
    (pairs : Beside (IsAfter w past place holder c e part) (present_stations w.lag w.plan w.loads w.outside w.absent) afters)
    (holds : (course_of w holder past).holds ≡ true) (kept : KeepsControl w.lag holder (starts w.plan holder) w.loads w.outside past more)
    (apart : IsNamedApart w.plan place holder) (before : Course) (begun : Begun) (ended : Ended) (tick : ℕ) (held : before.holds ≡ true)
    (closes : course_of w holder (more ++ past) ≡ close before begun ended tick) (keeps : gives ended.outcome ≡ false)
    (items : All (HasItemsOf holder before) afters)
    (same : (other : ℕ) (station : StationData) → IsPresentAt w other station → other ≢ place →
    course_of w station (more ++ past) ≡ course_of w station past)
    (memory : (other : ℕ) (station : StationData) → IsPresentAt w other station → other ≢ place →
    (standing_of w station (more ++ past)).memory ≡ (standing_of w station past).memory) where
  abbrev later : List Pair
  later = more ++ past

  abbrev now : ℕ
  now = length later

  abbrev after_closed : After → Present
  after_closed after = closed holder begun ended after.station

  abbrev IsTold : StationData → After → Type 0
  IsTold station after = present_of w station later ≡ loaded_at w.loads (length later) (after_closed after)

  -- the one in control: the table's station before the attempt
  station-before : (y : Present) → y.plan ≡ holder → y.left ≡ before.left → y.live ≡ before.live → y.serves ≡ false →
      record { plan = holder; memory = y.memory; left = before.left; live = before.live; serves = not before.holds } ≡ y
  station-before y plan left live serves =
      ap (λ p. record { plan = p; memory = y.memory; left = before.left; live = before.live; serves = not before.holds }) (sym plan)
      ∙ ap (λ (l : List Entry). record { plan = y.plan; memory = y.memory; left = l; live = before.live; serves = not before.holds }) (sym left)
      ∙ ap (λ (d : Channel). record { plan = y.plan; memory = y.memory; left = y.left; live = d; serves = not before.holds }) (sym live)
      ∙ ap (λ (b : Bool). record { plan = y.plan; memory = y.memory; left = y.left; live = y.live; serves = b }) (ap not held ∙ sym serves)

  own-is : (after : After) → IsHolder w past holder after → HasItemsOf holder before after → IsTold holder after
  own-is after own has =
      let y : Present = after.station in
      let left = holder-left w past more holder holds kept after own in
      let has_so = has own.plan in
      own-told holder begun ended before (course_of w holder later) tick (length later) w.loads y.memory (present_of w holder later).memory y.memory y closes
      held keeps (station-before y own.plan has_so.0 has_so.1 own.serves)
      (left.memory ∙ ap (λ (st : StationData). with_loads st.terminal.address (length later) w.loads y.memory) own.plan)

  other-is : (other : ℕ) (station : StationData) (after : After) → other ≢ place → IsPresentAt w other station → IsServer w past c e part station after →
      IsTold station after
  other-is other station after away at server =
      let long : length (more ++ past) ≡ length more + length past = length-append more past in
      told-with w past more station after.station after.station.memory server.is (same other station at away)
      (ap (with_loads station.terminal.address now w.loads) (memory other station at away)
      ∙ alike-later w past station after.station now server.is (omega (arith, long)))
      ∙ ap (loaded_at w.loads (length later)) (sym (other-closed holder station begun ended after.station (sym (ap (λ (p : Present). p.plan) server.is))
      (apart other station at.there away)))

  station-is : (station : StationData) (after : After) → IsAfter w past place holder c e part station after → HasItemsOf holder before after →
      IsTold station after
  station-is station after is has = elim is [
    | inl own ↦ subst (λ st. IsTold st after) (sym own.0) (own-is after (subst (λ st. IsHolder w past st after) own.0 own.1) has)
    | inr server ↦ other-is server.0 station after server.1 server.2 server.3
  ]

  pub stations-are : ArePresent w.lag w.plan w.loads w.outside w.absent (more ++ past) (stations_closed holder begun ended afters)
  stations-are =
      beside-map IsTold (λ station. present_of w station later) (λ after. loaded_at w.loads (length later) (after_closed after))
      (present_stations w.lag w.plan w.loads w.outside w.absent) afters
      (beside-with (IsAfter w past place holder c e part) IsTold (HasItemsOf holder before) (present_stations w.lag w.plan w.loads w.outside w.absent) afters
      pairs (each-of (HasItemsOf holder before) afters items) station-is)
      (λ station after told. told)
      ∙ sym (map-map (loaded_at w.loads (length later)) after_closed afters)
      ∙ ap (map (loaded_at w.loads (length later))) (sym (map-map (closed holder begun ended) (λ after. after.station) afters))
