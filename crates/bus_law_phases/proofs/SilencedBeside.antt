-- The stations beside the one in control, over quiet ticks in which nothing is due of them; and what one of them adds to a tick.
use Rattle.std.proofs.Common.{◌≡◌, ◌≢◌, inl, inr, ℕ, ◌+◌, ◌<◌, ◌≤◌, Bool, true, List, [], ◌∷◌, ◌++◌, length, Some, None, refl, sym, ap, ◌∙◌, subst, arith}
use Rattle.std.proofs.lemmas.Bool.{cases_eq, true≢false, eq-eqb}
use Rattle.std.proofs.lemmas.Option.{same_Some}
use Rattle.std.specs.List.{All}
use Rattle.std.specs.Prelude.{◌==◌, slice_get, if◌then◌else◌}
use Rattle.bus_base.specs.Samples.{quiet_pair, quiet_pairs}
use Rattle.bus_base.specs.declared.samples.Channel.{Channel}
use Rattle.bus_base.specs.declared.samples.Drive.TheVariants.{Silent}
use Rattle.bus_base.specs.declared.samples.Pair.{Pair}
use Rattle.bus_base.specs.declared.samples.Part.{Part}
use Rattle.bus_formats.specs.Plans.{StationData}
use Rattle.bus_formats.specs.declared.log.Attempt.{Attempt}
use Rattle.bus_retry.specs.Retries.{next_of}
use Rattle.bus_model.specs.Attempts.{Begun, Ended, recorded}
use Rattle.bus_model.specs.Control.{outside_takes, drives_next, so_far}
use Rattle.bus_model.specs.Course.{Course, close}
use Rattle.bus_model.specs.Memory.{with_loads}
use Rattle.bus_model.specs.Message.{Present, After}
use Rattle.bus_model.specs.Starts.{starts, finishes}
use Rattle.bus_model.specs.Terminal.{took_now}
use Rattle.bus_model.specs.World.{Trace, is_present}
use Rattle.bus_model.specs.WorldLog.{attempt_at, ended_by}
use Rattle.bus_law_control.proofs.Holding.{ended-before}
use Rattle.bus_law_stations.specs.Silence.{StationRests}
use Rattle.bus_law_stations.proofs.StillStation.{still-after, still-quiet}
use Rattle.bus_law_table.specs.Stations.{loaded_at}
use Rattle.bus_law_table.proofs.Still.{rests-told, rests-takes}
use Rattle.bus_law_phases.specs.Scenarios.{Scenario, course_of, hearing_of, present_of, IsPresentAt, NoneTakesFrom}
use Rattle.bus_law_phases.specs.Moments.{DutyLasts, IsHolder, IsServer, IsAfter, Underway, LastsTo}
use Rattle.bus_law_phases.proofs.Duties.{duty-rests, duty-later}
use Rattle.bus_law_phases.proofs.Pairs.{each-of, beside-at}
use Rattle.bus_law_phases.proofs.Resting.{no-attempt}

-- ---- one tick of one station

-- in the tick to come a station is silent; if the tick is quiet, it takes no block, and its course stays
pub record PassesQuietly (w : Scenario) (past : List Pair) (station : StationData) : Type 0 where
  pub silent : drives_next w.lag station (starts w.plan station) w.loads w.outside past ≡ Silent
  pub takes : took_now w.lag station.terminal w.loads (hearing_of w station (quiet_pair ∷ past)) ≡ None
  pub course : course_of w station (quiet_pair ∷ past) ≡ course_of w station past

pub rests-passes : (w : Scenario) (past : List Pair) (station : StationData) →
    StationRests w.lag station (starts w.plan station) w.loads w.outside past 1 → PassesQuietly w past station
rests-passes w past station rests = record {
  silent = still-quiet w.lag station (starts w.plan station) w.loads w.outside past 0 rests;
  takes = rests-takes w.lag w.plan w.loads w.outside w.absent station past 0 rests;
  course = still-after w.lag station (starts w.plan station) w.loads w.outside past 1 rests;
}

-- none of its attempts ended in that tick
pub ends-none : (w : Scenario) (past : List Pair) (station : StationData) → course_of w station (quiet_pair ∷ past) ≡ course_of w station past →
    ended_by w.lag w.plan w.loads w.outside w.absent (quiet_pair ∷ past) (length past) station ≡ []
ends-none w past station same =
    ap (λ (c : Course). attempt_at w.lag w.plan w.loads w.outside w.absent station.terminal.address (length past) c.ended) same
    ∙ no-attempt w station.terminal.address (length past) (length past) (course_of w station past).ended (omega arith)
    (ended-before w.lag station (starts w.plan station) (so_far w.lag station (starts w.plan station) w.loads w.outside past).takes past)

at-tick : (b : Bool) (a : Attempt) → b ≡ true → (if b then a ∷ [] else []) ≡ a ∷ []
at-tick b a is = rw is refl

-- one did, which ended so
pub ends-one : (w : Scenario) (past : List Pair) (station : StationData) (c : Course) (begun : Begun) (ended : Ended) →
    course_of w station (quiet_pair ∷ past) ≡ close c begun ended (length past) →
    ended_by w.lag w.plan w.loads w.outside w.absent (quiet_pair ∷ past) (length past) station
    ≡ recorded station.terminal.address begun ended (length past) (finishes (next_of begun.entry.item begun.state ended.outcome)) ∷ []
ends-one w past station c begun ended is =
    ap (λ (d : Course). attempt_at w.lag w.plan w.loads w.outside w.absent station.terminal.address (length past) d.ended) is
    ∙ at-tick (length past == length past)
    (recorded station.terminal.address begun ended (length past) (finishes (next_of begun.entry.item begun.state ended.outcome)))
    (eq-eqb (length past) (length past) refl)

-- ---- the stations beside the one in control, over n quiet ticks

module _ (w : Scenario) (now : Trace) (place : ℕ) (holder : StationData) (c : Channel) (e : ℕ) (part : Part) (afters : List After)
    (moment : Underway w now place holder c e part afters) (n : ℕ) (stays : NoneTakesFrom w (length now.shown)) where
  abbrev past : List Pair
  past = now.shown

  server-lasts : (station : StationData) (after : After) → IsServer w past c e part station after → LastsTo (length past + n) e after →
      DutyLasts (length past + n) e station after.duty
  server-lasts station after server last =
      let plan : station ≡ after.station.plan = ap (λ (p : Present). p.plan) server.is in
      subst (λ st. DutyLasts (length past + n) e st after.duty) (sym plan) last

  stays-for : (other : ℕ) (station : StationData) → IsPresentAt w other station → (tick : ℕ) → length past ≤ tick → tick < length past + n →
      outside_takes w.lag station (starts w.plan station) w.loads w.outside tick w.outside ≡ []
  stays-for other station at tick low high = stays other station at tick low

  -- nothing is due of it
  pub server-rests : (other : ℕ) (station : StationData) (after : After) → IsPresentAt w other station → IsServer w past c e part station after →
      LastsTo (length past + n) e after → StationRests w.lag station (starts w.plan station) w.loads w.outside past n
  server-rests other station after at server last =
      duty-rests w past station c e part after.duty n server.duty (server-lasts station after server last) (stays-for other station at)

  -- it is what it was
  pub server-then : (other : ℕ) (station : StationData) (after : After) → IsPresentAt w other station → IsServer w past c e part station after →
      LastsTo (length past + n) e after → IsServer w (quiet_pairs n ++ past) c e part station after
  server-then other station after at server last =
      let rest = server-rests other station after at server last in record {
        is = rests-told w.lag w.plan w.loads w.outside w.absent station past n rest after.station server.is;
        duty = duty-later w past station c e part n rest after.duty server.duty (server-lasts station after server last) (stays-for other station at);
      }

  -- a station at another place isn't the one in control
  pub not-holder : {X : Type 0} (other : ℕ) (station : StationData) → IsPresentAt w other station → other ≢ place → station ≡ holder → X
  not-holder other station at apart own =
      absurd (true≢false (sym moment.holds ∙ sym (ap (λ st. (course_of w st past).holds) own) ∙ (moment.serves other station at apart).serves))

  -- a fact of each of them, by its entry of the table
  pub beside-each : (Q : After → Type 0) (P : StationData → Type 0) → All Q afters →
      ((other : ℕ) (station : StationData) (after : After) → IsPresentAt w other station → IsServer w past c e part station after → Q after → P station) →
      (other : ℕ) (station : StationData) → IsPresentAt w other station → other ≢ place → P station
  beside-each Q P all make other station at apart =
      let found = beside-at (IsAfter w past place holder c e part) Q (is_present w.absent) w.plan.stations afters other station moment.stations
      (each-of Q afters all) at.there at.present in
      elim found.1 [
        | inl own ↦ not-holder other station at apart own.0
        | inr server ↦ make other station found.0 at server.3 found.2
      ]

-- a fact of all of them: of the one in control, and of each beside it
pub at-each : (w : Scenario) (place : ℕ) (holder : StationData) → IsPresentAt w place holder → (P : StationData → Type 0) → P holder →
    ((other : ℕ) (station : StationData) → IsPresentAt w other station → other ≢ place → P station) →
    (other : ℕ) (station : StationData) → IsPresentAt w other station → P station
at-each w place holder at P own others other station here = elim (cases_eq other place) [
  | inl same ↦ (let there : slice_get w.plan.stations place ≡ Some station = ap (slice_get w.plan.stations) (sym same) ∙ here.there in
      subst P (same_Some holder station (sym at.there ∙ there)) own)
  | inr apart ↦ others other station here apart
]

-- ---- the one in control, over n quiet ticks in which nothing is due of it

pub holder-told : (w : Scenario) (past : List Pair) (holder : StationData) (n : ℕ) →
    StationRests w.lag holder (starts w.plan holder) w.loads w.outside past n → (after : After) → IsHolder w past holder after →
    IsHolder w (quiet_pairs n ++ past) holder after
holder-told w past holder n rests after is =
    let later = quiet_pairs n ++ past in
    let p : Present = record (present_of w holder past) { memory = after.station.memory } in
    let address : with_loads holder.terminal.address (length past) w.loads after.station.memory ≡ (loaded_at w.loads (length past) after.station).memory =
    ap (λ (st : StationData). with_loads st.terminal.address (length past) w.loads after.station.memory) (sym is.plan) in
    let before : present_of w holder past ≡ loaded_at w.loads (length past) p =
    ap (λ m. record (present_of w holder past) { memory = m }) (is.memory ∙ sym address) in
    let told : present_of w holder later ≡ loaded_at w.loads (length later) p =
    rests-told w.lag w.plan w.loads w.outside w.absent holder past n rests p before in
    record {
      plan = is.plan;
      memory = ap (λ (q : Present). q.memory) told
          ∙ ap (λ (st : StationData). with_loads st.terminal.address (length later) w.loads after.station.memory) (sym is.plan);
      serves = is.serves;
      duty = is.duty;
    }
