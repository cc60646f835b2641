-- A message that is closed, with nobody left who owes or promises anything, is told.
use Rattle.std.proofs.Common.{◌≡◌, ◌⊎◌, inl, inr, ℕ, suc, ◌+◌, ◌<◌, ◌≤◌, true, false, List, [], ◌∷◌, ◌++◌, length, Option, Some, None, sym, ap, ◌∙◌, subst, arith, All}
use Rattle.std.specs.Prelude.{max}
use Rattle.std.proofs.Math.Nat.{le-max_left, le-max_right}
use Rattle.bus_base.specs.declared.samples.Channel.{Channel}
use Rattle.bus_base.specs.declared.samples.Part.{Part}
use Rattle.bus_formats.specs.Accepted.{IsAccepted}
use Rattle.bus_formats.specs.Plans.{StationData}
use Rattle.bus_formats.specs.Times.{dead_ticks, ending_quiet}
use Rattle.bus_formats.specs.declared.form.Outcome.{Outcome}
use Rattle.bus_formats.specs.declared.form.Outcome.TheVariants.{Clear, Sent, Declined, Passed, Illegal, Busy, NoResponse, BadReply, Abandoned, Yielded}
use Rattle.bus_formats.specs.declared.log.Attempt.{Attempt}
use Rattle.bus_retry.specs.Retries.{next_of}
use Rattle.bus_retry.specs.declared.RetryState.{RetryState}
use Rattle.bus_model.specs.Attempts.{Begun, Ended}
use Rattle.bus_model.specs.Course.{Course, quiet_from, close, gives}
use Rattle.bus_model.specs.Message.{Present, After, Delivered, Message}
use Rattle.bus_model.specs.Orders.{free}
use Rattle.bus_model.specs.Run.{quiet_after, with_station, after_attempt}
use Rattle.bus_model.specs.Starts.{Entry, Origin, usual, needed_quiet, opening_after, start_of, quiet_for, earliest_for}
use Rattle.bus_model.specs.Strikes.{ShownBurst}
use Rattle.bus_law_messages.specs.Settled.{NoneStarts}
use Rattle.bus_law_phases.specs.Closings.{stations_closed}
use Rattle.bus_law_phases.specs.Commands.{begun_at, command_at, attempt_recorded}
use Rattle.bus_law_phases.specs.Passages.{Happening, Passage}
use Rattle.bus_law_phases.specs.Rests.{Rested}
use Rattle.bus_law_phases.specs.Scenarios.{Scenario, trace_at, shown_at, course_of, StaysFrom}
use Rattle.bus_law_phases.proofs.SilencedMoments.{closed-rested}
use Rattle.bus_law_phases.proofs.SilencedStart.{named-apart}
use Rattle.bus_law_moments.specs.Told.{message_at, attempt_at, stations_after, MessageTold}
use Rattle.bus_law_told.specs.Tables.{MessageIs}
use Rattle.bus_law_told.proofs.Coming.{Came}
use Rattle.bus_law_phases.proofs.Staying.{long-later}

-- ---- the quiet that the next message needs

needed-few : (outcome : Outcome) → needed_quiet outcome ≤ ending_quiet
needed-few Clear = omega arith
needed-few Sent = omega arith
needed-few Declined = omega arith
needed-few Passed = omega arith
needed-few (Illegal part) = omega arith
needed-few (Busy part) = omega arith
needed-few (NoResponse part) = omega arith
needed-few (BadReply part) = omega arith
needed-few Abandoned = omega arith
needed-few Yielded = omega arith

need-kept : (retry : Option RetryState) (entry : Entry) (need : ℕ) → need ≤ quiet_for retry entry need
need-kept None entry need = le-max_left need (dead_ticks entry.item.gap)
need-kept (Some state) entry need = omega arith

-- the next one starts after the tick in which the last one ended
starts-then : (retry : Option RetryState) (origin : Origin) (entry : Entry) (need tick z u : ℕ) → u ≤ tick →
    u + 0 ≤ start_of (usual need tick) retry origin entry z
starts-then retry origin entry need tick z u soon =
    let earliest : ℕ = earliest_for retry origin entry in
    let low : tick ≤ max tick earliest = le-max_left tick earliest in
    let then : max tick earliest ≤ start_of (usual need tick) retry origin entry z =
    le-max_right (z + quiet_for retry entry need) (max tick earliest) in
    omega (arith, soon, low, then)

pub starts-late : (retry : Option RetryState) (origin : Origin) (entry : Entry) (need tick z u : ℕ) → u ≤ z + need →
    u + 0 ≤ start_of (usual need tick) retry origin entry z
starts-late retry origin entry need tick z u soon =
    let kept : need ≤ quiet_for retry entry need = need-kept retry entry need in
    let first : z + quiet_for retry entry need ≤ start_of (usual need tick) retry origin entry z =
    le-max_left (z + quiet_for retry entry need) (max tick (earliest_for retry origin entry)) in
    omega (arith, soon, kept, first)

-- an ending of a message by which control isn't given away, and which isn't abandoned
pub record EndsPlainly (begun : Begun) (ended : Ended) (tick : ℕ) : Type 0 where
  pub keeps : gives ended.outcome ≡ false
  pub opens : opening_after ended.outcome begun.state.channel tick ≡ usual (needed_quiet ended.outcome) (suc tick)

module _ (w : Scenario) (t place : ℕ) (holder : StationData) (stations : List Present) (entry : Entry) (accepted : IsAccepted w.plan) (none : StaysFrom w t)
    (earlier : List Attempt) (found : List ShownBurst) where
  abbrev c0 : Course
  c0 = course_of w holder (shown_at w t)

  abbrev begun : Begun
  begun = begun_at w t t holder entry

  abbrev m : Message
  m = message_at w t holder stations entry

  -- its blocks, bursts and attempts
  abbrev happens : List Delivered → List ShownBurst → List Attempt → Happening
  happens blocks answers attempts = record { blocks = blocks; bursts = found ++ answers; attempts = earlier ++ attempts; commands = 1 }

  module _ (u : ℕ) (c : Channel) (e : ℕ) (part : Part) (afters : List After) (blocks : List Delivered) (answers : List ShownBurst) (ended : Ended)
      (tick : ℕ) (came : Came w t place holder c0 u c e part afters
      (happens blocks answers (attempt_recorded holder.terminal.address begun ended tick ∷ []))) (free-all : All (λ after. after.duty ≡ free) afters)
      (closes-so : course_of w holder (shown_at w u) ≡ close c0 begun ended tick) (held : c0.holds ≡ true)
      (is : MessageIs (message_at w t holder stations entry) ended tick afters blocks (command_at w t t holder entry ∷ answers))
      (last : quiet_after (found ++ answers) ≡ e) (later : t < u) where
    abbrev out : Course
    out = course_of w holder (shown_at w u)

    -- soon enough: it is over with the tick in which it ended, or before the quiet is that the next message needs
    abbrev IsSoon : Type 0
    IsSoon = (u ≤ suc tick) ⊎ (u ≤ e + needed_quiet ended.outcome)

    -- the next message doesn't start before then
    starts-so : IsSoon → (next : Entry) →
        u + 0 ≤ start_of (usual (needed_quiet ended.outcome) (suc tick)) out.retry out.origin next e
    starts-so (inl then) next = starts-then out.retry out.origin next (needed_quiet ended.outcome) (suc tick) e u then
    starts-so (inr soon) next = starts-late out.retry out.origin next (needed_quiet ended.outcome) (suc tick) e u soon

    happens-so : happens blocks answers (attempt_recorded holder.terminal.address begun ended tick ∷ [])
        ≡ happens m.deliveries answers (attempt_at w t holder stations entry ∷ [])
    happens-so =
        ap (λ bs. happens bs answers (attempt_recorded holder.terminal.address begun ended tick ∷ [])) (sym is.blocks_are)
        ∙ ap (λ o. happens m.deliveries answers (attempt_recorded holder.terminal.address begun o tick ∷ [])) (sym is.ended_is)
        ∙ ap (λ n. happens m.deliveries answers (attempt_recorded holder.terminal.address begun m.ending.ended n ∷ [])) (sym is.tick_is)

    message-stations : stations_closed holder begun ended afters ≡ stations_after w t holder stations entry
    message-stations =
        ap (λ ss. with_station holder.terminal.address (after_attempt begun ended.outcome (next_of entry.item begun.state ended.outcome)) ss) (sym is.stations)
        ∙ ap (λ (o : Ended). with_station holder.terminal.address (after_attempt begun o.outcome (next_of entry.item begun.state o.outcome))
        (message_at w t holder stations entry).stations) (sym is.ended_is)

    module _ (plainly : EndsPlainly begun ended tick) (soon : IsSoon) (within : u ≤ e + ending_quiet) where
      opens-so : out.opening ≡ usual (needed_quiet ended.outcome) (suc tick)
      opens-so = ap (λ (d : Course). d.opening) closes-so ∙ plainly.opens

      early-then : NoneStarts out (shown_at w u) 0
      early-then next later left =
          let many : length (shown_at w u) ≡ u = long-later w t u came.passage.later none in
          subst (λ n. n + 0 ≤ start_of out.opening out.retry out.origin next (quiet_from (shown_at w u))) (sym many)
          (subst (λ o. u + 0 ≤ start_of o out.retry out.origin next (quiet_from (shown_at w u))) (sym opens-so)
          (subst (λ z. u + 0 ≤ start_of (usual (needed_quiet ended.outcome) (suc tick)) out.retry out.origin next z) (sym came.quiet) (starts-so soon next)))

      soon-enough : u ≤ quiet_after (found ++ answers) + ending_quiet
      soon-enough = omega (arith, within, last)

      rested-then : Rested w (trace_at w u) place holder (stations_closed holder begun ended afters)
      rested-then =
          closed-rested w (trace_at w u) place holder c e part afters came.moment (named-apart w.plan accepted place holder came.moment.at.there) c0 begun
          ended tick record { held = held; closes = closes-so; keeps = plainly.keeps; duties = free-all; items = came.items }

      pub told-then : MessageTold w t holder stations entry place earlier found
      told-then = record {
        over = u;
        passes = is.passes;
        runs_on = is.runs_on;
        shows = record {
          later = later;
          answers = answers;
          bursts_are = is.bursts_are;
          passage = subst (Passage w t u) happens-so came.passage;
        };
        closes = closes-so ∙ ap (λ o. close c0 begun o tick) (sym is.ended_is)
            ∙ ap (close c0 begun (message_at w t holder stations entry).ending.ended) (sym is.tick_is);
        rested = subst (Rested w (trace_at w u) place holder) message-stations rested-then;
        waits = record { quiet = came.quiet ∙ sym last; soon = soon-enough; early = early-then };
      }

    -- it is over before the quiet is that the next message needs
    pub told : u ≤ e + needed_quiet ended.outcome → EndsPlainly begun ended tick → MessageTold w t holder stations entry place earlier found
    told soon plainly =
        let few : needed_quiet ended.outcome ≤ ending_quiet = needed-few ended.outcome in
        told-then plainly (inr soon) (omega (arith, soon, few))
