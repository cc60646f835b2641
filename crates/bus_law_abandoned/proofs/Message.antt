-- A message whose answer is abandoned: the world does what the message table says of it, and the answer runs on.
use Rattle.std.proofs.Common.{◌≡◌, ◌≢◌, ℕ, suc, ◌+◌, ◌<◌, ◌≤◌, false, List, [], ◌∷◌, ◌++◌, length, map, Some, None, refl, sym, ap, ◌∙◌, subst, arith}
use Rattle.std.proofs.lemmas.List.{append-nil}
use Rattle.std.specs.Prelude.{◌-◌}
use Rattle.bus_base.specs.Samples.{other_of}
use Rattle.bus_base.specs.declared.samples.Channel.{Channel}
use Rattle.bus_base.specs.declared.samples.Pair.{Pair}
use Rattle.bus_base.specs.declared.samples.Part.TheVariants.{Command, First}
use Rattle.bus_formats.specs.Plans.{StationData}
use Rattle.bus_formats.specs.declared.form.Outcome.TheVariants.{Abandoned}
use Rattle.bus_formats.specs.declared.log.Attempt.{Attempt}
use Rattle.bus_retry.specs.Retries.{next_of}
use Rattle.bus_model.specs.Attempts.{Begun, Ended, without_words}
use Rattle.bus_model.specs.Course.{Course, quiet_from, close}
use Rattle.bus_model.specs.Endings.{abandoned_at}
use Rattle.bus_model.specs.Message.{Present, After, Delivered, Message, after_command, blocks_taken}
use Rattle.bus_model.specs.Run.{with_station, after_attempt}
use Rattle.bus_model.specs.Starts.{Entry, superseding, start_of}
use Rattle.bus_model.specs.Strikes.{hits_on, ShownBurst, burst_end, ShownAnswer, is_faded}
use Rattle.bus_model.specs.World.{Trace}
use Rattle.bus_law_line.specs.Senders.{Sender, attempt_to_come}
use Rattle.bus_law_messages.specs.Settled.{NoneStarts}
use Rattle.bus_law_stations.specs.Turns.{Serves}
use Rattle.bus_law_table.specs.Stations.{ArePresent}
use Rattle.bus_law_phases.specs.Answers.{AnswerBegins}
use Rattle.bus_law_phases.specs.Closings.{stations_closed}
use Rattle.bus_law_phases.specs.Commands.{begun_at, command_at, attempt_recorded}
use Rattle.bus_law_phases.specs.PartRuns.{PartRuns}
use Rattle.bus_law_phases.specs.Passages.{Passage, followed_by}
use Rattle.bus_law_phases.specs.Scenarios.{Scenario, trace_at, shown_at, driven_at, course_of, IsPresentAt}
use Rattle.bus_law_phases.proofs.Passing.{joined}
use Rattle.bus_law_phases.proofs.SilencedStart.{named-apart}
use Rattle.bus_law_told.specs.Tables.{this_message}
use Rattle.bus_law_told.specs.Told.{answer_shown}
use Rattle.bus_law_moments.specs.Begun.{MessageBegan}
use Rattle.bus_law_moments.specs.OldAnswers.{BesideOldAnswer}
use Rattle.bus_law_moments.specs.Told.{message_at, attempt_at, stations_after, MessageShows, AnswerAbandoned}
use Rattle.bus_law_abandoned.proofs.Due.{numbered, shows-here, shown-so, course-due, passage-due, begins-due}
use Rattle.bus_law_abandoned.proofs.Leaving.{course-closed, kept-all, passes}
use Rattle.bus_law_abandoned.proofs.Others.{others-same, others-keep}
use Rattle.bus_law_abandoned.proofs.Running.{RunsFor, RanFor}
use Rattle.bus_law_abandoned.proofs.Stations.{stations-are}
use Rattle.bus_law_abandoned.proofs.Table.{IsAnsweredAlone, NonePromises, none-promise, AbandonedIs, abandoned-is}
use Rattle.bus_law_phases.proofs.Staying.{long-later}

-- what happened with a command, in silence, and in the tick in which its answer was abandoned
all-happened : (blocks : List Delivered) (found : List ShownBurst) (ended : List Attempt) (attempt : Attempt) →
    followed_by record { blocks = blocks ++ []; bursts = found ++ []; attempts = (ended ++ []) ++ []; commands = 1 + 0 }
    record { blocks = []; bursts = []; attempts = attempt ∷ []; commands = 0 }
    ≡ record { blocks = blocks; bursts = found ++ []; attempts = ended ++ attempt ∷ []; commands = 1 }
all-happened blocks found ended attempt =
    ap (λ bs. record { blocks = bs; bursts = (found ++ []) ++ []; attempts = ((ended ++ []) ++ []) ++ attempt ∷ []; commands = 1 })
    (append-nil (blocks ++ []) ∙ append-nil blocks)
    ∙ ap (λ bs. record { blocks = blocks; bursts = bs; attempts = ((ended ++ []) ++ []) ++ attempt ∷ []; commands = 1 }) (append-nil (found ++ []))
    ∙ ap (λ atts. record { blocks = blocks; bursts = found ++ []; attempts = atts ++ attempt ∷ []; commands = 1 })
    (append-nil (ended ++ []) ∙ append-nil ended)

module _ (w : Scenario) (t place : ℕ) (holder : StationData) (stations : List Present) (entry : Entry) (ended : List Attempt) (found : List ShownBurst)
    (b : MessageBegan w t holder entry place stations ended found) (alone : IsAnsweredAlone entry.item.kind) (first : ShownAnswer)
    (shows : answer_shown w t holder stations entry ≡ Some first) (tick : ℕ)
    (gone : abandoned_at w.lag entry.item.kind entry.item.abandon (burst_end (command_at w t t holder entry)) first ≡ Some tick) (i : ℕ)
    (number : tick ≡ first.sent.start + i) (some : 0 < i) (within : suc tick ≤ burst_end first.burst) (heard : is_faded first i ≡ false) where
  abbrev begun : Begun
  begun = begun_at w t t holder entry

  abbrev cmd : ShownBurst
  cmd = command_at w t t holder entry

  abbrev c : Channel
  c = begun.state.channel

  abbrev obeyed : List After
  obeyed = map (after_command w.lag w.loads cmd) stations

  abbrev start_course : Course
  start_course = course_of w holder (shown_at w t)

  abbrev abandons : Ended
  abandons = without_words Abandoned None None

  abbrev m : Message
  m = message_at w t holder stations entry

  abbrev u : ℕ
  u = first.sent.start

  -- ---- the message of the table

  none : NonePromises obeyed
  none =
      none-promise w.lag w.loads c t (hits_on w.plan.faults (attempt_to_come w.plan.faults Command (driven_at w t)) Command) entry.item stations
      b.entry_of.ranges.kind alone

  abbrev taken : List Delivered
  taken = blocks_taken w.lag w.loads cmd obeyed

  is : AbandonedIs (message_at w t holder stations entry) first tick obeyed taken cmd
  is =
      subst (λ n. AbandonedIs (this_message w.lag w.loads w.plan.faults n entry.item c t stations) first tick obeyed taken cmd)
      (numbered w t place holder stations entry ended found b alone first shows)
      (abandoned-is w.lag w.loads w.plan.faults (attempt_to_come w.plan.faults Command (driven_at w t)) entry.item c t stations first alone.shape tick
      (shows-here w t place holder stations entry ended found b alone first shows) alone.expects gone none)

  begins : AnswerBegins w u place holder First cmd obeyed first
  begins = begins-due w t place holder stations entry ended found b alone first shows

  -- ---- the answer ran to the tick in which it is abandoned

  module _ (answerer : ℕ) (answering : StationData) (address_is : answering.terminal.address ≡ first.sent.address)
      (so : RunsFor w first.sent.start place holder (begun_at w t t holder entry).state.channel First first.sent.words first.hits answerer answering i
      (close (course_of w holder (shown_at w first.sent.start)) (begun_at w t t holder entry) (without_words Abandoned None None) (first.sent.start + i)))
      (ran : RanFor w first.sent.start (record {
        station = answerer;
        channel = (begun_at w t t holder entry).state.channel;
        part = First;
        words = first.sent.words;
      }) first.hits i) where
    abbrev over : ℕ
    over = u + suc i

    -- the station that answers, by the channel on which it does
    abbrev teller_on : Channel → Sender
    teller_on channel = record { station = answerer; channel = channel; part = First; words = first.sent.words }

    abbrev more : List Pair
    more = ran.newest ∷ ran.ticks

    then-shown : shown_at w over ≡ more ++ shown_at w u
    then-shown = ap (λ (tr : Trace). tr.shown) ran.trace

    next : over ≡ suc tick
    next = omega (arith, number)

    -- its message was closed
    closes-more : course_of w holder (more ++ shown_at w u) ≡ close start_course begun abandons (u + i)
    closes-more =
        course-closed w u place holder c First first.sent.words first.hits answerer answering i begun so ran
        ∙ ap (λ d. close d begun abandons (u + i)) (course-due w t place holder stations entry ended found b alone first shows)

    closes-over : course_of w holder (shown_at w over) ≡ close start_course begun abandons (u + i)
    closes-over = ap (course_of w holder) then-shown ∙ closes-more

    closes-so : course_of w holder (shown_at w over) ≡ close start_course begun m.ending.ended m.ending.tick
    closes-so =
        closes-over
        ∙ ap (λ n. close start_course begun abandons n) (sym number ∙ sym is.tick_is)
        ∙ ap (λ o. close start_course begun o m.ending.tick) (sym is.ended_is)

    -- ---- what came to pass

    happens-so : followed_by record { blocks = taken ++ []; bursts = found ++ []; attempts = (ended ++ []) ++ []; commands = 1 + 0 }
        record { blocks = []; bursts = []; attempts = attempt_recorded holder.terminal.address begun abandons (u + i) ∷ []; commands = 0 }
        ≡ record { blocks = m.deliveries; bursts = found ++ []; attempts = ended ++ attempt_at w t holder stations entry ∷ []; commands = 1 }
    happens-so =
        all-happened taken found ended (attempt_recorded holder.terminal.address begun abandons (u + i))
        ∙ ap (λ bs. record {
          blocks = bs;
          bursts = found ++ [];
          attempts = ended ++ attempt_recorded holder.terminal.address begun abandons (u + i) ∷ [];
          commands = 1;
        }) (sym is.blocks_are)
        ∙ ap (λ n. record {
          blocks = m.deliveries;
          bursts = found ++ [];
          attempts = ended ++ attempt_recorded holder.terminal.address begun abandons n ∷ [];
          commands = 1;
        }) (sym number ∙ sym is.tick_is)
        ∙ ap (λ o. record {
          blocks = m.deliveries;
          bursts = found ++ [];
          attempts = ended ++ attempt_recorded holder.terminal.address begun o m.ending.tick ∷ [];
          commands = 1;
        }) (sym is.ended_is)

    passed : Passage w t u record { blocks = taken ++ []; bursts = found ++ []; attempts = (ended ++ []) ++ []; commands = 1 + 0 }
    passed = passage-due w t place holder stations entry ended found b alone first shows

    shows-so : MessageShows w t holder stations entry over found (ended ++ attempt_at w t holder stations entry ∷ [])
    shows-so = record {
      later = let up = passed.later in omega (arith, up);
      answers = [];
      bursts_are = is.bursts_are;
      passage = subst (Passage w t over) happens-so
          (joined w t u over (record { blocks = taken ++ []; bursts = found ++ []; attempts = (ended ++ []) ++ []; commands = 1 + 0 })
          (record { blocks = []; bursts = []; attempts = attempt_recorded holder.terminal.address begun abandons (u + i) ∷ []; commands = 0 }) passed
          (passes w u place holder c First first.sent.words first.hits answerer answering i begun so ran));
    }

    -- ---- the stations

    same-more : (other : ℕ) (station : StationData) → IsPresentAt w other station → other ≢ place →
        course_of w station (more ++ shown_at w u) ≡ course_of w station (shown_at w u)
    same-more = others-same w (shown_at w u) place c First first.sent.words answerer answering so.lag so.speaks more ran.all.alone

    are-closed : ArePresent w.lag w.plan w.loads w.outside w.absent (more ++ shown_at w u) (stations_closed holder begun abandons obeyed)
    are-closed =
        let many = ran.many in
        stations-are w (shown_at w u) more place holder c (burst_end cmd) First obeyed begins.moment.stations begins.moment.holds
        (kept-all w u place holder c First first.sent.words first.hits answerer answering i begun so ran)
        (named-apart w.plan b.accepted place holder begins.moment.at.there) start_course begun abandons (u + i) b.held closes-more refl b.known.items same-more
        (others-keep w (shown_at w u) place c First first.sent.words answerer answering so.lag so.speaks ran.newest ran.ticks (omega (arith, many, some))
        ran.all.alone)

    message-stations : stations_closed holder begun abandons obeyed ≡ stations_after w t holder stations entry
    message-stations =
        ap (λ ss. with_station holder.terminal.address (after_attempt begun abandons.outcome (next_of entry.item begun.state abandons.outcome)) ss)
        (sym is.stations)
        ∙ ap (λ (o : Ended). with_station holder.terminal.address (after_attempt begun o.outcome (next_of entry.item begun.state o.outcome)) m.stations)
        (sym is.ended_is)

    are-after : ArePresent w.lag w.plan w.loads w.outside w.absent (shown_at w over) (stations_after w t holder stations entry)
    are-after =
        subst (λ p. ArePresent w.lag w.plan w.loads w.outside w.absent p (stations_after w t holder stations entry)) (sym then-shown)
        (subst (ArePresent w.lag w.plan w.loads w.outside w.absent (more ++ shown_at w u)) message-stations are-closed)

    serves-over : (other : ℕ) (station : StationData) → IsPresentAt w other station → other ≢ place → Serves (course_of w station (shown_at w over))
    serves-over other station at away =
        let before = begins.moment.serves other station at away in
        let same : course_of w station (shown_at w over) ≡ course_of w station (shown_at w u) = ap (course_of w station) then-shown ∙ same-more other station at away in
        record {
          serves = ap (λ (d : Course). d.holds) same ∙ before.serves;
          idle = ap (λ (d : Course). d.runs) same ∙ before.idle;
        }

    -- ---- the next message starts at once, on the other channel

    on-channel : first.sent.channel ≡ c
    on-channel = (shown-so w t place holder stations entry ended found b alone first shows).sent.channel

    opens-over : (course_of w holder (shown_at w over)).opening ≡ superseding over (other_of first.sent.channel)
    opens-over =
        let at : suc (u + i) ≡ over = omega arith in
        ap (λ (d : Course). d.opening) closes-over
        ∙ ap (λ n. superseding n (other_of c)) at
        ∙ ap (λ d. superseding over (other_of d)) (sym on-channel)

    starts-over : NoneStarts (course_of w holder (shown_at w over)) (shown_at w over) 0
    starts-over later entries left =
        let d = course_of w holder (shown_at w over) in
        let many : length (shown_at w over) ≡ over = long-later w u over (omega arith) so.stays in
        subst (λ o. length (shown_at w over) + 0 ≤ start_of o d.retry d.origin later (quiet_from (shown_at w over))) (sym opens-over) (omega (arith, many))

    beside : BesideOldAnswer w over place holder (stations_after w t holder stations entry) first
    beside =
        let ticks_are : suc i ≡ over - u = omega arith in
        let place_is : i ≡ over - 1 - u = omega arith in
        record {
          burst = cmd;
          afters = obeyed;
          begins = begins;
          unpromised = none;
          stays = so.stays;
          teller = answerer;
          telling = answering;
          teller_at = so.speaks.at;
          teller_is = address_is;
          ticks = more;
          sent = ran.driven ∷ ran.sent;
          runs = subst (λ channel. PartRuns w (trace_at w u) (teller_on channel) first.hits (over - u) more (ran.driven ∷ ran.sent)) (sym on-channel)
              (subst (λ n. PartRuns w (trace_at w u) (teller_on c) first.hits n more (ran.driven ∷ ran.sent)) ticks_are ran.whole);
          some = omega arith;
          within = omega (arith, next, within);
          heard = subst (λ n. is_faded first n ≡ false) place_is heard;
          at = begins.moment.at;
          holds = ap (λ (d : Course). d.holds) closes-over;
          idle = ap (λ (d : Course). d.runs) closes-over;
          opens = opens-over;
          serves = serves-over;
          are = are-after;
        }

    pub abandoned-ran : AnswerAbandoned w t holder stations entry place ended found
    abandoned-ran = record {
      over = over;
      old = first;
      passes = is.passes;
      runs_on = is.runs_on;
      shows = shows-so;
      closes = closes-so;
      beside = beside;
      early = starts-over;
    }
