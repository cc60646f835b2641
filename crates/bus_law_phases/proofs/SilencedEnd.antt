-- An awaited answer that never comes: in the tick after the wait the station in control closes its message, and all others are what they were.
use Rattle.std.proofs.Common.{◌≡◌, ◌≢◌, ◌⊎◌, inl, inr, ℕ, suc, ◌+◌, Bool, true, false, List, [], ◌∷◌, length, None, refl, sym, ap, ◌∙◌, subst, arith}
use Rattle.std.specs.List.{All}
use Rattle.std.specs.Prelude.{not, ◌&&◌, ◌||◌, is_none, flat_map}
use Rattle.bus_base.specs.Samples.{quiet_pair}
use Rattle.bus_base.specs.declared.samples.Channel.{Channel}
use Rattle.bus_base.specs.declared.samples.Drive.TheVariants.{Silent}
use Rattle.bus_base.specs.declared.samples.Pair.{Pair}
use Rattle.bus_base.specs.declared.samples.Part.{Part}
use Rattle.bus_base.specs.declared.samples.Sample.{Sample}
use Rattle.bus_line.specs.Channels.{on_channel}
use Rattle.bus_formats.specs.Plans.{StationData}
use Rattle.bus_formats.specs.Times.{no_response}
use Rattle.bus_formats.specs.declared.log.Attempt.{Attempt}
use Rattle.bus_retry.specs.Retries.{next_of}
use Rattle.bus_model.specs.Attempts.{Begun, Ended, recorded}
use Rattle.bus_model.specs.Control.{drives_next, so_far, is_idle}
use Rattle.bus_model.specs.Course.{Course, gives, close, course, quiet_from}
use Rattle.bus_model.specs.Memory.{with_loads}
use Rattle.bus_model.specs.Message.{After}
use Rattle.bus_model.specs.Starts.{starts, has_items, finishes}
use Rattle.bus_model.specs.Terminal.{took_now}
use Rattle.bus_model.specs.World.{is_present}
use Rattle.bus_model.specs.WorldLog.{present_stations, ended_by}
use Rattle.bus_law_control.proofs.Holding.{heard-nothing, yielded-before, kept-tick}
use Rattle.bus_law_phases.proofs.Silenced.{Pending, silent_ending, nothing-due, course-ends, silenced-silent, silenced-course, end-kept}
use Rattle.bus_law_stations.specs.Silence.{AwaitsFirst, AwaitsSecond}
use Rattle.bus_law_stations.specs.Turns.{KeepsControl}
use Rattle.bus_law_stations.proofs.StillStation.{always-taken}
use Rattle.bus_law_table.specs.Stations.{HeardNothing}
use Rattle.bus_law_table.proofs.Takes.{unheard-takes, unheard-on, unheard-alike}
use Rattle.bus_law_phases.specs.Scenarios.{Scenario, trace_at, shown_at, course_of, hearing_of, IsPresentAt, NoneTakesFrom, StaysFrom}
use Rattle.bus_law_phases.specs.Passages.{HoldsAlone, Passage}
use Rattle.bus_law_phases.specs.Silences.{IsQuiet, SomeoneIsBusy}
use Rattle.bus_law_phases.specs.Moments.{IsHolder, IsAfter, Underway, LastsTo}
use Rattle.bus_law_phases.specs.Closings.{AwaitsAnswer, unanswered, attempt_ends}
use Rattle.bus_law_phases.proofs.Pairs.{each-of, beside-with}
use Rattle.bus_law_phases.proofs.SilencedBeside.{PassesQuietly, rests-passes, ends-none, ends-one, server-rests, server-then, beside-each, at-each}
use Rattle.bus_law_phases.proofs.Spares.{one-gives}
use Rattle.bus_law_phases.proofs.SilencedTick.{tick-trace, tick-shown, tick-quiet-from, tick-quiet, tick-fresh, tick-passes}
use Rattle.bus_law_phases.proofs.Staying.{long-at}

same-end : (k : ℕ) (begun : Begun) (past : List Sample) (e : ℕ) (waits : AwaitsFirst k begun past e ⊎ AwaitsSecond k begun past e) →
    silent_ending k begun past e waits ≡ unanswered k begun past e waits
same-end k begun past e (inl first) = refl
same-end k begun past e (inr second) = refl

-- ---- the station in control

module _ (w : Scenario) (past : List Pair) (holder : StationData) (begun : Begun) (e : ℕ) (holds : (course_of w holder past).holds ≡ true)
    (awaits : AwaitsAnswer w past holder begun e) (at : length past ≡ e + no_response) where
  abbrev s : Bool
  s = starts w.plan holder

  abbrev c : Course
  c = course_of w holder past

  abbrev pub ending : Ended
  ending = unanswered w.lag begun (on_channel begun.state.channel past) e awaits.waits

  pending : Pending w.lag begun c past e
  pending = record {
    holds = holds;
    runs = awaits.runs;
    before = yielded-before w.lag holder s (so_far w.lag holder s w.loads w.outside past).takes past;
    awaits = awaits.waits;
  }

  now : length past + 0 ≡ e + no_response
  now = omega (arith, at)

  is-end : silent_ending w.lag begun (on_channel begun.state.channel past) e awaits.waits ≡ ending
  is-end = same-end w.lag begun (on_channel begun.state.channel past) e awaits.waits

  pub holder-silent : drives_next w.lag holder s w.loads w.outside past ≡ Silent
  holder-silent = silenced-silent w.lag holder s w.loads w.outside past begun e 0 pending now

  pub holder-closes : course_of w holder (quiet_pair ∷ past) ≡ close c begun ending (length past)
  unfolding pending
  holder-closes =
      silenced-course w.lag holder s w.loads w.outside past begun e 0 pending now
      ∙ ap (close c begun (silent_ending w.lag begun (on_channel begun.state.channel past) e awaits.waits)) (sym at)
      ∙ ap (λ (d : Ended). close c begun d (length past)) is-end

  ending-keeps : gives ending.outcome ≡ false
  unfolding pending
  ending-keeps =
      ap (λ (d : Ended). gives d.outcome) (sym is-end) ∙ end-kept w.lag holder s w.loads w.outside past begun e 0 pending now

  pub holder-holds : (course_of w holder (quiet_pair ∷ past)).holds ≡ true
  holder-holds = ap (λ (d : Course). d.holds) holder-closes ∙ ap not ending-keeps

  -- to its terminal that tick is as quiet as all before
  ends : course w.lag holder s (so_far w.lag holder s w.loads w.outside past).takes (quiet_pair ∷ past)
      ≡ close c begun (silent_ending w.lag begun (on_channel begun.state.channel past) e awaits.waits) (length past)
  ends =
      course-ends w.lag holder s (so_far w.lag holder s w.loads w.outside past).takes past begun e 0 (always-taken w.lag holder s w.loads w.outside past)
      awaits.runs awaits.waits (nothing-due w.lag holder s w.loads w.outside past begun e 0 pending now 0 (omega arith)) now

  keeps : KeepsControl w.lag holder s w.loads w.outside past (quiet_pair ∷ [])
  unfolding pending
  keeps = (
    holds,
    kept-tick w.lag holder s (so_far w.lag holder s w.loads w.outside past).takes quiet_pair past (always-taken w.lag holder s w.loads w.outside past)
        (ap (λ (d : Course). d.holds) ends ∙ ap not (end-kept w.lag holder s w.loads w.outside past begun e 0 pending now)),
    tt,
  )

  nothing : HeardNothing w.lag holder s w.loads w.outside past
  nothing = heard-nothing w.lag holder s w.loads w.outside past holds

  pub holder-takes : took_now w.lag holder.terminal w.loads (hearing_of w holder (quiet_pair ∷ past)) ≡ None
  holder-takes =
      unheard-takes w.lag holder s w.loads w.outside quiet_pair past
      (unheard-on w.lag holder s w.loads w.outside past (quiet_pair ∷ []) nothing keeps)

  pub holder-is : (after : After) → IsHolder w past holder after → IsHolder w (quiet_pair ∷ past) holder after
  holder-is after own =
      let memory = after.station.memory in
      let address : (n : ℕ) → with_loads after.station.plan.terminal.address n w.loads memory ≡ with_loads holder.terminal.address n w.loads memory =
      λ n. ap (λ (st : StationData). with_loads st.terminal.address n w.loads memory) own.plan in
      record {
        plan = own.plan;
        memory = sym (unheard-alike w.lag holder s w.loads w.outside past (quiet_pair ∷ []) nothing keeps memory (sym (address (length past)) ∙ sym own.memory))
            ∙ sym (address (suc (length past)));
        serves = own.serves;
        duty = own.duty;
      }

  pub holder-busy : is_idle w.lag holder s w.loads w.outside past ≡ false
  holder-busy =
      ap (λ b. not b || (is_none c.runs && not (has_items c.left))) holds ∙ ap (λ o. is_none o && not (has_items c.left)) awaits.runs

-- ---- the world

module _ (w : Scenario) (t place : ℕ) (holder : StationData) (c : Channel) (e : ℕ) (part : Part) (afters : List After) (begun : Begun)
    (moment : Underway w (trace_at w t) place holder c e part afters) (awaits : AwaitsAnswer w (shown_at w t) holder begun e) (at : t ≡ e + no_response)
    (lasts : All (LastsTo (suc t) e) afters) (stays : StaysFrom w t) where
  abbrev past : List Pair
  past = shown_at w t

  abbrev end : Ended
  end = unanswered w.lag begun (on_channel begun.state.channel past) e awaits.waits

  long : length (shown_at w t) ≡ t
  long = long-at w t stays

  is-late : length (shown_at w t) ≡ e + no_response
  is-late = omega (arith, long, at)

  lasts-here : All (LastsTo (length (shown_at w t) + 1) e) afters
  lasts-here = let same : suc t ≡ length (shown_at w t) + 1 = omega (arith, long) in subst (λ u. All (LastsTo u e) afters) same lasts

  stays-here : NoneTakesFrom w (length (shown_at w t))
  stays-here = subst (NoneTakesFrom w) (sym long) stays.takes

  quiet : IsQuiet w (trace_at w t)
  quiet = record { rests = moment.rests; spent = moment.spent }

  beside : (other : ℕ) (station : StationData) → IsPresentAt w other station → other ≢ place → PassesQuietly w past station
  beside =
      beside-each w (trace_at w t) place holder c e part afters moment 1 stays-here (LastsTo (length past + 1) e) (PassesQuietly w past) lasts-here
      (λ other station after at server last. rests-passes w past station
      (server-rests w (trace_at w t) place holder c e part afters moment 1 stays-here other station after at server last))

  silent : (other : ℕ) (station : StationData) → IsPresentAt w other station →
      drives_next w.lag station (starts w.plan station) w.loads w.outside past ≡ Silent
  silent =
      at-each w place holder moment.at (λ station. drives_next w.lag station (starts w.plan station) w.loads w.outside past ≡ Silent)
      (holder-silent w past holder begun e moment.holds awaits is-late) (λ other station here apart. (beside other station here apart).silent)

  takes : (other : ℕ) (station : StationData) → IsPresentAt w other station →
      took_now w.lag station.terminal w.loads (hearing_of w station (quiet_pair ∷ past)) ≡ None
  takes =
      at-each w place holder moment.at (λ station. took_now w.lag station.terminal w.loads (hearing_of w station (quiet_pair ∷ past)) ≡ None)
      (holder-takes w past holder begun e moment.holds awaits is-late) (λ other station here apart. (beside other station here apart).takes)

  attempts : List Attempt
  attempts = recorded holder.terminal.address begun end (length past) (finishes (next_of begun.entry.item begun.state end.outcome)) ∷ []

  ended : flat_map (ended_by w.lag w.plan w.loads w.outside w.absent (quiet_pair ∷ past) (length past)) (present_stations w.lag w.plan w.loads w.outside w.absent)
      ≡ attempts
  unfolding attempts
  ended =
      one-gives (is_present w.absent) (ended_by w.lag w.plan w.loads w.outside w.absent (quiet_pair ∷ past) (length past)) w.plan.stations place holder
      moment.at.there moment.at.present
      (λ other station there apart present.
      ends-none w past station (beside other station record { there = there; present = present } apart).course)
      ∙ ends-one w past holder (course_of w holder past) begun end (holder-closes w past holder begun e moment.holds awaits is-late)

  hands : HoldsAlone w (quiet_pair ∷ past)
  hands = record {
    place = place;
    holder = holder;
    at = moment.at;
    holds = holder-holds w past holder begun e moment.holds awaits is-late;
    others = λ other station here apart.
        ap (λ (d : Course). d.holds) (beside other station here apart).course ∙ (moment.serves other station here apart).serves;
  }

  busy : SomeoneIsBusy w past
  busy = record { place = place; station = holder; at = moment.at; busy = holder-busy w past holder begun e moment.holds awaits is-late }

  after-then : (station : StationData) (after : After) → IsAfter w past place holder c e part station after → LastsTo (length past + 1) e after →
      IsAfter w (quiet_pair ∷ past) place holder c e part station after
  after-then station after is last = elim is [
    | inl own ↦ inl (
      own.0,
      subst (λ st. IsHolder w (quiet_pair ∷ past) st after) (sym own.0)
          (holder-is w past holder begun e moment.holds awaits is-late after (subst (λ st. IsHolder w past st after) own.0 own.1)),
    )
    | inr server ↦ inr (
      server.0,
      server.1,
      server.2,
      server-then w (trace_at w t) place holder c e part afters moment 1 stays-here server.0 station after server.2 server.3 last,
    )
  ]

  then-underway : Underway w (trace_at w (suc t)) place holder c e part afters
  then-underway =
      let still = tick-quiet w t stays quiet silent in
      subst (λ tr. Underway w tr place holder c e part afters) (sym (tick-trace w t stays quiet silent)) record {
        rests = still.rests;
        fresh = tick-fresh w t stays quiet silent;
        spent = still.spent;
        at = moment.at;
        holds = holder-holds w past holder begun e moment.holds awaits is-late;
        serves = λ other station here apart.
            let before = moment.serves other station here apart in
            let same = (beside other station here apart).course in
            record { serves = ap (λ (d : Course). d.holds) same ∙ before.serves; idle = ap (λ (d : Course). d.runs) same ∙ before.idle };
        stations = beside-with (IsAfter w past place holder c e part) (IsAfter w (quiet_pair ∷ past) place holder c e part) (LastsTo (length past + 1) e)
            (present_stations w.lag w.plan w.loads w.outside w.absent) afters moment.stations (each-of (LastsTo (length past + 1) e) afters lasts-here) after-then;
        one = moment.one;
      }

  pub without-response : (shown_at w (suc t) ≡ quiet_pair ∷ past) × Underway w (trace_at w (suc t)) place holder c e part afters
      × (course_of w holder (shown_at w (suc t)) ≡ close (course_of w holder past) begun end t) × (quiet_from (shown_at w (suc t)) ≡ quiet_from past)
      × Passage w t (suc t) (attempt_ends holder begun end t)
  unfolding attempts
  without-response = (
    tick-shown w t stays quiet silent,
    then-underway,
    ap (course_of w holder) (tick-shown w t stays quiet silent) ∙ holder-closes w past holder begun e moment.holds awaits is-late
        ∙ ap (close (course_of w holder past) begun end) long,
    tick-quiet-from w t stays quiet silent,
    subst (λ n. Passage w t (suc t) (attempt_ends holder begun end n)) long (tick-passes w t stays quiet silent takes attempts ended hands (inl busy)),
  )
