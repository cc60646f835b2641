-- A moment in the midst of a message lasts while nothing comes of what the stations owe and promise.
use Rattle.std.proofs.Common.{◌≡◌, ◌≢◌, inl, inr, ℕ, ◌+◌, ◌<◌, ◌≤◌, List, [], ◌∷◌, ◌++◌, length, Some, refl, sym, ap, ◌∙◌, subst, arith}
use Rattle.std.proofs.lemmas.Bool.{cases_eq, true≢false}
use Rattle.std.proofs.lemmas.Option.{same_Some}
use Rattle.std.specs.List.{All}
use Rattle.std.specs.Prelude.{slice_get}
use Rattle.bus_base.specs.Samples.{quiet_pairs}
use Rattle.bus_base.specs.declared.samples.Channel.{Channel}
use Rattle.bus_base.specs.declared.samples.Drive.{Drive}
use Rattle.bus_base.specs.declared.samples.Pair.{Pair}
use Rattle.bus_base.specs.declared.samples.Part.{Part}
use Rattle.bus_formats.specs.Plans.{StationData}
use Rattle.bus_formats.specs.declared.fault.Fault.{Fault}
use Rattle.bus_model.specs.Course.{Course}
use Rattle.bus_model.specs.Memory.{with_loads}
use Rattle.bus_model.specs.Message.{Present, After}
use Rattle.bus_model.specs.Starts.{starts}
use Rattle.bus_model.specs.Control.{outside_takes}
use Rattle.bus_model.specs.World.{Trace, is_present}
use Rattle.bus_model.specs.WorldLog.{present_stations}
use Rattle.bus_law_line.specs.Senders.{LeftAlone}
use Rattle.bus_law_parts.specs.Parts.{IsFresh}
use Rattle.bus_law_stations.specs.Silence.{NothingStarts, StationRests}
use Rattle.bus_law_stations.proofs.StillStation.{still-after}
use Rattle.bus_law_table.specs.Stations.{loaded_at}
use Rattle.bus_law_table.proofs.Still.{rests-told}
use Rattle.bus_law_phases.specs.Pairing.{Beside}
use Rattle.bus_law_phases.specs.Scenarios.{Scenario, trace_at, shown_at, driven_at, course_of, present_of, IsPresentAt, NoneTakesFrom, StaysFrom}
use Rattle.bus_law_phases.specs.Passages.{HoldsAlone, Passage, nothing_happens}
use Rattle.bus_law_phases.specs.Silences.{AllRest, IsQuiet, GoesOnTo}
use Rattle.bus_law_phases.specs.Moments.{DutyLasts, IsHolder, IsServer, IsAfter, Underway, LastsTo}
use Rattle.bus_law_phases.proofs.Duties.{duty-rests, duty-later}
use Rattle.bus_law_phases.proofs.Pairs.{each-of, beside-at, beside-with}
use Rattle.bus_law_phases.proofs.Silence.{QuietTicks, quiet-for, silence}
use Rattle.bus_law_phases.proofs.Unheard.{holder-rests}
use Rattle.bus_law_phases.proofs.Staying.{long-at, ticks-later}

-- ---- who holds control

pub held-alone : (w : Scenario) (now : Trace) (place : ℕ) (holder : StationData) (c : Channel) (e : ℕ) (part : Part) (afters : List After) →
    Underway w now place holder c e part afters → HoldsAlone w now.shown
held-alone w now place holder c e part afters moment = record {
  place = place;
  holder = holder;
  at = moment.at;
  holds = moment.holds;
  others = λ other station at apart. (moment.serves other station at apart).serves;
}

-- ---- nothing is due of any station

module _ (w : Scenario) (now : Trace) (place : ℕ) (holder : StationData) (c : Channel) (e : ℕ) (part : Part) (afters : List After)
    (moment : Underway w now place holder c e part afters) (n : ℕ)
    (waits : NothingStarts w.lag (course_of w holder now.shown) now.shown n) (lasts : All (LastsTo (length now.shown + n) e) afters)
    (stays : NoneTakesFrom w (length now.shown)) where
  abbrev past : List Pair
  past = now.shown

  abbrev Rests : StationData → Type 0
  Rests station = StationRests w.lag station (starts w.plan station) w.loads w.outside past n

  stays-for : (other : ℕ) (station : StationData) → IsPresentAt w other station → (tick : ℕ) → length past ≤ tick → tick < length past + n →
      outside_takes w.lag station (starts w.plan station) w.loads w.outside tick w.outside ≡ []
  stays-for other station at tick low high = stays other station at tick low

  rests-holder : Rests holder
  rests-holder =
      holder-rests w.lag holder (starts w.plan holder) w.loads w.outside past moment.holds n waits (stays-for place holder moment.at)

  server-lasts : (station : StationData) (after : After) → IsServer w past c e part station after → LastsTo (length past + n) e after →
      DutyLasts (length past + n) e station after.duty
  server-lasts station after server last =
      let plan : station ≡ after.station.plan = ap (λ (p : Present). p.plan) server.is in
      subst (λ st. DutyLasts (length past + n) e st after.duty) (sym plan) last

  rests-server : (other : ℕ) (station : StationData) (after : After) → IsPresentAt w other station → IsServer w past c e part station after →
      LastsTo (length past + n) e after → Rests station
  rests-server other station after at server last =
      duty-rests w past station c e part after.duty n server.duty (server-lasts station after server last) (stays-for other station at)

  rests-beside : (other : ℕ) (station : StationData) (after : After) → IsPresentAt w other station → other ≢ place →
      IsAfter w past place holder c e part station after → LastsTo (length past + n) e after → Rests station
  rests-beside other station after at apart is last = elim is [
    | inl own ↦ absurd (true≢false (sym moment.holds ∙ sym (ap (λ st. (course_of w st past).holds) own.0) ∙ (moment.serves other station at apart).serves))
    | inr server ↦ rests-server other station after at server.3 last
  ]

  pub all-rest : AllRest w past n
  all-rest other station at = elim (cases_eq other place) [
    | inl same ↦ (let here : slice_get w.plan.stations place ≡ Some station = ap (slice_get w.plan.stations) (sym same) ∙ at.there in
        let is : holder ≡ station = same_Some holder station (sym moment.at.there ∙ here) in subst Rests is rests-holder)
    | inr apart ↦ (let found = beside-at (IsAfter w past place holder c e part) (LastsTo (length past + n) e) (is_present w.absent) w.plan.stations afters other
        station moment.stations (each-of (LastsTo (length past + n) e) afters lasts) at.there at.present in
        rests-beside other station found.0 at apart found.1 found.2)
  ]

  -- ---- the stations afterwards

  abbrev later : List Pair
  later = quiet_pairs n ++ past

  holder-later : (station : StationData) (after : After) → station ≡ holder → IsHolder w past station after → IsHolder w later station after
  holder-later station after own is =
      let p : Present = record (present_of w station past) { memory = after.station.memory } in
      let rest : Rests station = subst Rests (sym own) rests-holder in
      let address : with_loads station.terminal.address (length past) w.loads after.station.memory ≡ (loaded_at w.loads (length past) after.station).memory =
      ap (λ (st : StationData). with_loads st.terminal.address (length past) w.loads after.station.memory) (sym is.plan) in
      let before : present_of w station past ≡ loaded_at w.loads (length past) p =
      ap (λ m. record (present_of w station past) { memory = m }) (is.memory ∙ sym address) in
      let told : present_of w station later ≡ loaded_at w.loads (length later) p =
      rests-told w.lag w.plan w.loads w.outside w.absent station past n rest p before in
      record {
        plan = is.plan;
        memory = ap (λ (q : Present). q.memory) told
            ∙ ap (λ (st : StationData). with_loads st.terminal.address (length later) w.loads after.station.memory) (sym is.plan);
        serves = is.serves;
        duty = is.duty;
      }

  server-later : (other : ℕ) (station : StationData) (after : After) → IsPresentAt w other station → IsServer w past c e part station after →
      LastsTo (length past + n) e after → IsServer w later c e part station after
  server-later other station after at server last =
      let rest : Rests station = rests-server other station after at server last in record {
        is = rests-told w.lag w.plan w.loads w.outside w.absent station past n rest after.station server.is;
        duty = duty-later w past station c e part n rest after.duty server.duty (server-lasts station after server last) (stays-for other station at);
      }

  after-later : (station : StationData) (after : After) → IsAfter w past place holder c e part station after → LastsTo (length past + n) e after →
      IsAfter w later place holder c e part station after
  after-later station after is last = elim is [
    | inl own ↦ inl (own.0, holder-later station after own.0 own.1)
    | inr server ↦ inr (server.0, server.1, server.2, server-later server.0 station after server.2 server.3 last)
  ]

  stations-later : Beside (IsAfter w later place holder c e part) (present_stations w.lag w.plan w.loads w.outside w.absent) afters
  stations-later =
      beside-with (IsAfter w past place holder c e part) (IsAfter w later place holder c e part) (LastsTo (length past + n) e)
      (present_stations w.lag w.plan w.loads w.outside w.absent) afters moment.stations (each-of (LastsTo (length past + n) e) afters lasts) after-later

-- ---- the moment afterwards

pub fresh-later : (faults : List Fault) (d : Channel) (before driven : List (List Drive)) (station : ℕ) → LeftAlone faults d before driven →
    IsFresh faults d before station → IsFresh faults d (driven ++ before) station
fresh-later faults d before [] station left fresh = fresh
fresh-later faults d before (now ∷ silent) station left fresh = rw (left.undriven.0 station) refl

module _ (w : Scenario) (t n place : ℕ) (holder : StationData) (c : Channel) (e : ℕ) (part : Part) (afters : List After)
    (moment : Underway w (trace_at w t) place holder c e part afters)
    (waits : NothingStarts w.lag (course_of w holder (shown_at w t)) (shown_at w t) n) (lasts : All (LastsTo (t + n) e) afters)
    (stays : StaysFrom w t) (goes : GoesOnTo w (shown_at w t) (t + n)) where
  long : length (shown_at w t) ≡ t
  long = long-at w t stays

  lasts-here : All (LastsTo (length (shown_at w t) + n) e) afters
  lasts-here = subst (λ m. All (LastsTo (m + n) e) afters) (sym long) lasts

  stays-here : NoneTakesFrom w (length (shown_at w t))
  stays-here = subst (NoneTakesFrom w) (sym long) stays.takes

  rests : AllRest w (shown_at w t) n
  rests = all-rest w (trace_at w t) place holder c e part afters moment n waits lasts-here stays-here

  quiet : IsQuiet w (trace_at w t)
  quiet = record { rests = moment.rests; spent = moment.spent }

  ticks : QuietTicks w (trace_at w t) n
  ticks = quiet-for w (trace_at w t) n rests moment.spent n (omega arith)

  later-trace : trace_at w (t + n) ≡ record { shown = quiet_pairs n ++ shown_at w t; driven = ticks.driven ++ driven_at w t }
  later-trace = sym (ticks-later w t n stays) ∙ ticks.world

  course-then : (other : ℕ) (station : StationData) → IsPresentAt w other station →
      course_of w station (quiet_pairs n ++ shown_at w t) ≡ course_of w station (shown_at w t)
  course-then other station at = still-after w.lag station (starts w.plan station) w.loads w.outside (shown_at w t) n (rests other station at)

  then-underway : IsQuiet w record { shown = quiet_pairs n ++ shown_at w t; driven = ticks.driven ++ driven_at w t } →
      Underway w record { shown = quiet_pairs n ++ shown_at w t; driven = ticks.driven ++ driven_at w t } place holder c e part afters
  then-underway then_quiet = record {
    rests = then_quiet.rests;
    fresh = λ d station. fresh-later w.plan.faults d (driven_at w t) ticks.driven station (ticks.alone d) (moment.fresh d station);
    spent = then_quiet.spent;
    at = moment.at;
    holds = ap (λ (c : Course). c.holds) (course-then place holder moment.at) ∙ moment.holds;
    serves = λ other station at apart.
        let before = moment.serves other station at apart in record {
          serves = ap (λ (c : Course). c.holds) (course-then other station at) ∙ before.serves;
          idle = ap (λ (c : Course). c.runs) (course-then other station at) ∙ before.idle;
        };
    stations = stations-later w (trace_at w t) place holder c e part afters moment n waits lasts-here stays-here;
    one = moment.one;
  }

  pub lasting : (shown_at w (t + n) ≡ quiet_pairs n ++ shown_at w t) × Underway w (trace_at w (t + n)) place holder c e part afters
      × (course_of w holder (shown_at w (t + n)) ≡ course_of w holder (shown_at w t)) × Passage w t (t + n) nothing_happens
  lasting =
      let still = silence w t n stays quiet rests (held-alone w (trace_at w t) place holder c e part afters moment) goes in (
        still.0,
        subst (λ tr. Underway w tr place holder c e part afters) (sym later-trace) (then-underway (subst (IsQuiet w) later-trace still.1)),
        ap (course_of w holder) still.0 ∙ course-then place holder moment.at,
        still.3,
      )
