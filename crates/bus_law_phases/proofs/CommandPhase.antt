-- The command of a message, its end known: every station is what the message table says, and what came to pass is what it says.
use Rattle.std.proofs.Common.{◌≡◌, ◌≢◌, inl, inr, ℕ, suc, ◌+◌, ◌*◌, ◌%◌, ◌<◌, ◌≤◌, true, List, [], ◌∷◌, ◌++◌, length, map, Option, Some, None, refl, sym, ap, ◌∙◌, subst, arith, length-append, false}
use Rattle.std.specs.Prelude.{slice_get, flat_map, option_map, not}
use Rattle.bus_base.specs.Samples.{other_of}
use Rattle.bus_base.specs.declared.samples.Channel.{Channel}
use Rattle.bus_base.specs.declared.samples.Drive.{Drive}
use Rattle.bus_base.specs.declared.samples.Drive.TheVariants.{Silent}
use Rattle.bus_base.specs.declared.samples.Pair.{Pair}
use Rattle.bus_base.specs.declared.samples.Part.TheVariants.{Command, First}
use Rattle.bus_words.specs.declared.word.Word.{Word}
use Rattle.bus_line.specs.Past.{quiet_ticks, ended_now}
use Rattle.bus_line.specs.Channels.{on_channel, bursts}
use Rattle.bus_formats.specs.Accepted.{HasItemRanges, HasStationRanges, IsAccepted}
use Rattle.bus_formats.specs.Forms.{answers_of, command_words}
use Rattle.bus_formats.specs.Plans.{StationData}
use Rattle.bus_formats.specs.declared.fault.Hit.{Hit}
use Rattle.bus_formats.specs.declared.form.Outcome.TheVariants.{Sent}
use Rattle.bus_formats.specs.declared.form.Shape.{Shape}
use Rattle.bus_model.specs.Attempts.{Begun, without_words}
use Rattle.bus_model.specs.Course.{Course, quiet_from, close}
use Rattle.bus_model.specs.Message.{Present, After, delivered, unmoved, after_command, blocks_taken}
use Rattle.bus_model.specs.Starts.{Entry, starts}
use Rattle.bus_model.specs.Strikes.{ShownBurst, hits_on, struck, burst_end}
use Rattle.bus_model.specs.Sending.{drive_sample}
use Rattle.bus_model.specs.Terminal.{took_now}
use Rattle.bus_model.specs.Transmissions.{station_drive}
use Rattle.bus_model.specs.World.{Trace, is_present, drives_after}
use Rattle.bus_model.specs.WorldLog.{present_stations, attempt_at, ended_by}
use Rattle.bus_law_control.proofs.Holding.{heard-nothing}
use Rattle.bus_law_duties.specs.Duties.{AreApart}
use Rattle.bus_law_duties.proofs.OneOwes.{one-owes-at-most}
use Rattle.bus_law_line.specs.Senders.{Sender, attempt_to_come}
use Rattle.bus_law_messages.specs.Commands.{command_sender}
use Rattle.bus_law_messages.specs.Ends.{HeardCommand, SentCommand}
use Rattle.bus_law_messages.specs.Settled.{IsServing}
use Rattle.bus_law_messages.proofs.Closing.{sent-command}
use Rattle.bus_law_parts.specs.Parts.{part_ticks, HitsFit}
use Rattle.bus_law_stations.specs.Messages.{BeginsMessage, message_begun}
use Rattle.bus_law_stations.specs.Silence.{AwaitsFirst}
use Rattle.bus_law_stations.specs.Turns.{KeepsControl, Serves}
use Rattle.bus_law_stations.proofs.Resting.{cases-option}
use Rattle.bus_law_table.specs.Happened.{took_in, blocks_in as blocks_now, burst_found}
use Rattle.bus_law_table.proofs.AllStations.{took-none, IsTold, all-told}
use Rattle.bus_law_phases.proofs.Kept.{command-kept}
use Rattle.bus_law_table.proofs.Pairing.{beside-filter_map, filter_map-map}
use Rattle.bus_law_table.proofs.Pairing as lists
use Rattle.bus_law_table.proofs.Takes.{unheard-takes}
use Rattle.bus_law_phases.specs.Answers.{attempts_ended}
use Rattle.bus_law_phases.specs.Commands.{ended_with_command, CommandPasses}
use Rattle.bus_law_phases.specs.Moments.{IsHolder, IsAfter, Underway}
use Rattle.bus_law_phases.specs.PartRuns.{burst_shown, RunsAlone, IsFirstOf, PartRuns}
use Rattle.bus_law_phases.specs.Passages.{HoldsAlone, IsOrderly, Passage}
use Rattle.bus_law_phases.specs.Rests.{Rested}
use Rattle.bus_law_phases.specs.Scenarios.{Scenario, trace_at, shown_at, driven_at, course_of, hearing_of, IsPresentAt, NoneTakesFrom, StaysFrom, is_over_at}
use Rattle.bus_law_phases.proofs.Commanding.{controls, shows-of, own-drives, others-silent, all-still, all-takes, held, someone-busy}
use Rattle.bus_law_phases.proofs.AnswerHolders.{closed-attempts, no-attempts}
use Rattle.bus_law_phases.proofs.AnswerLeft.{holder-left}
use Rattle.bus_law_phases.proofs.CommandFits.{command-hits-fit, command-shows}
use Rattle.bus_law_phases.proofs.Legs.{busy-goes-on}
use Rattle.bus_law_phases.proofs.PartEnding.{part-ended, all-quiet, part-bursts, fresh-after, quiet-after}
use Rattle.bus_law_phases.proofs.CommandServer.{shown_burst, heard-command, server-after}
use Rattle.bus_law_phases.proofs.PartPassing.{part-passes}
use Rattle.bus_law_phases.proofs.PartQuiet.{part-quiet}
use Rattle.bus_law_phases.proofs.PartTicks.{PartTicks, all-ticks, one-begins}
use Rattle.bus_law_phases.proofs.Spares.{all-at, one-gives, beside-into}
use Rattle.bus_law_phases.proofs.Staying.{long-at}

module _ (w : Scenario) (t place : ℕ) (holder : StationData) (stations : List Present) (entry : Entry) (lag : w.lag ≡ 3) (accepted : IsAccepted w.plan)
    (ranges : HasItemRanges entry.item) (rested : Rested w (trace_at w t) place holder stations)
    (begins : BeginsMessage (course_of w holder (shown_at w t)) (shown_at w t) entry) (stays : StaysFrom w t) (separate : AreApart stations) where
  abbrev past : List Pair
  past = shown_at w t

  long : length (shown_at w t) ≡ t
  long = long-at w t stays

  stays-here : NoneTakesFrom w (length (shown_at w t))
  stays-here = subst (NoneTakesFrom w) (sym long) stays.takes

  abbrev begun : Begun
  begun = message_begun (course_of w holder past) entry (length past)

  abbrev s : Sender
  s = command_sender place begun

  abbrev c : Channel
  c = begun.state.channel

  abbrev words : List Word
  words = command_words entry.item.kind

  abbrev hits : List Hit
  hits = hits_on w.plan.faults (attempt_to_come w.plan.faults Command (driven_at w t)) Command

  fits : HitsFit Command hits words
  fits = command-hits-fit w.plan (attempt_to_come w.plan.faults Command (driven_at w t)) entry.item accepted ranges

  some : 0 < part_ticks hits words
  some = command-shows hits words fits

  -- the ticks before the last one
  abbrev m : ℕ
  m = part_ticks hits words + w.lag

  abbrev limit : ℕ
  limit = part_ticks hits words + suc w.lag

  abbrev now : Trace
  now = trace_at w t

  own : (ticks : List Pair) → IsFirstOf w.lag c hits words ticks → length ticks < limit →
      slice_get (drives_after w.lag w.plan w.loads w.outside w.absent (ticks ++ past)) place ≡ Some (drive_sample c Command words (length ticks))
  own ticks alone few = own-drives w now place holder stations entry lag rested begins stays-here ticks alone.alone

  others : (ticks : List Pair) → IsFirstOf w.lag c hits words ticks → length ticks < limit → (other : ℕ) → other ≢ place →
      station_drive other (drives_after w.lag w.plan w.loads w.outside w.absent (ticks ++ past)) ≡ Silent
  others ticks alone few = others-silent w now place holder stations entry lag rested begins stays-here ticks alone.alone

  still : (ticks : List Pair) → IsFirstOf w.lag c hits words ticks → length ticks < limit → (other : ℕ) (station : StationData) → IsPresentAt w other station →
      (course_of w station (ticks ++ past)).ended ≡ (course_of w station past).ended
  still ticks alone few = all-still w now place holder stations entry lag rested begins stays-here ticks alone.alone

  takes : (x : Pair) (ticks : List Pair) → IsFirstOf w.lag c hits words (x ∷ ticks) → length (x ∷ ticks) < limit → (other : ℕ) (station : StationData) →
      IsPresentAt w other station → took_now w.lag station.terminal w.loads (hearing_of w station ((x ∷ ticks) ++ past)) ≡ None
  takes x ticks alone few = all-takes w now place holder stations entry lag rested begins stays-here x ticks alone.alone

  hands : (ticks : List Pair) → IsFirstOf w.lag c hits words ticks → length ticks < limit → HoldsAlone w (ticks ++ past)
  hands ticks alone few = held w now place holder stations entry lag rested begins stays-here ticks alone.alone

  goes : (ticks : List Pair) → IsFirstOf w.lag c hits words ticks → length ticks < limit → (i : ℕ) → shown_at w i ≡ ticks ++ past →
      is_over_at w i ≡ false
  goes ticks alone few i same =
      busy-goes-on w i (ticks ++ past) same (someone-busy w now place holder stations entry lag rested begins stays-here ticks alone.alone)

  -- ---- the ticks

  sending : PartTicks w t s hits 1
  sending =
      all-ticks w t s hits lag stays (rested.fresh c place) rested.spent rested.rests refl fits some own others still takes hands goes 1
      (one-begins w t s hits refl)

  abbrev x : Pair
  x = sending.newest

  abbrev ticks : List Pair
  ticks = sending.ticks

  abbrev driven : List Drive
  driven = sending.driven

  abbrev sent : List (List Drive)
  sent = sending.sent

  abbrev whole : PartRuns w now s hits limit (x ∷ ticks) (driven ∷ sent)
  whole = sending.whole

  abbrev alone : RunsAlone w.lag c ticks
  alone = sending.first.alone

  abbrev later : List Pair
  later = (x ∷ ticks) ++ past

  many : length ticks ≡ w.lag + part_ticks hits words
  many = let count = sending.many in omega (arith, count)

  abbrev command : ShownBurst
  command = shown_burst c (length past) hits words

  same-end : length past + part_ticks hits words ≡ burst_end command
  same-end = omega arith

  quiet : on_channel (other_of c) (x ∷ ticks) ≡ quiet_ticks (length (x ∷ ticks))
  quiet = all-quiet w now s hits lag rested.spent rested.rests (rested.fresh (other_of c)) some x ticks driven sent whole

  ended : ended_now w.lag (on_channel c (x ∷ (ticks ++ past))) ≡ Some (burst_shown (length past) hits words)
  ended = part-ended w now s hits lag rested.spent rested.rests (rested.fresh (other_of c)) some x ticks driven sent whole

  count-before : length (ticks ++ past) ≡ length ticks + length past
  count-before = length-append ticks past

  known : length (ticks ++ past) ≡ burst_end command + w.lag
  known = omega (arith, count-before, many)

  -- ---- the station in control

  small : w.lag < 24
  small = omega (arith, lag)

  kept : KeepsControl w.lag holder (starts w.plan holder) w.loads w.outside past (x ∷ ticks)
  kept =
      command-kept w.lag holder (starts w.plan holder) w.loads w.outside past entry (controls w now place holder stations entry lag rested begins stays-here)
      begins small x ticks (burst_shown (length past) hits words) (shows-of w now place holder stations entry lag rested begins stays-here ticks alone) ended

  closed : SentCommand w.lag holder (starts w.plan holder) w.loads w.outside past (x ∷ ticks) begun (burst_shown (length past) hits words)
  closed =
      sent-command w.lag holder (starts w.plan holder) w.loads w.outside past entry (controls w now place holder stations entry lag rested begins stays-here)
      begins small x ticks (burst_shown (length past) hits words) (shows-of w now place holder stations entry lag rested begins stays-here ticks alone) ended
      (omega (arith, count-before, many))

  holds-later : (course_of w holder later).holds ≡ true
  holds-later = elim (cases-option (answers_of entry.item.kind).first) [
    | inl none ↦ ap (λ (d : Course). d.holds) (closed.sent none)
    | inr expects ↦ ap (λ (d : Course). d.holds) (closed.waits expects.0 expects.1).0 ∙ rested.holds
  ]

  -- ---- the others

  prompt : (other : ℕ) (station : StationData) → IsPresentAt w other station → 8 ≤ station.terminal.delay
  prompt other station at = (all-at HasStationRanges w.plan.stations other station accepted.ranges at.there).terminal.delay.0

  serving-of : (other : ℕ) (station : StationData) → slice_get w.plan.stations other ≡ Some station → other ≢ place → is_present w.absent station ≡ true →
      IsServing w.lag station (starts w.plan station) w.loads w.outside past
  serving-of other station there apart present = rested.others other station record { there = there; present = present } apart

  heard-of : (other : ℕ) (station : StationData) → slice_get w.plan.stations other ≡ Some station → other ≢ place → is_present w.absent station ≡ true →
      HeardCommand w.lag station (starts w.plan station) w.loads w.outside past (x ∷ ticks) c (burst_shown (length past) hits words)
  heard-of other station there apart present =
      let at : IsPresentAt w other station = record { there = there; present = present } in
      heard-command w past x ticks c hits words lag some fits many alone.leg whole.shown quiet stays-here other station at
      (rested.others other station at apart) (prompt other station at)

  abbrev Told : StationData → Present → Type 0
  Told = IsTold w.lag w.plan w.loads w.outside w.absent past place holder (x ∷ ticks) command

  told : lists.Beside Told (present_stations w.lag w.plan w.loads w.outside w.absent) stations
  told =
      all-told w.lag w.plan w.loads w.outside w.absent past place holder (x ∷ ticks) command (burst_shown (length past) hits words) rested.at.there
      rested.holds serving-of heard-of refl (let none : part_ticks hits words % 40 ≡ 0 = omega arith in none) same-end
      (ap suc known) (omega (arith, same-end)) stations rested.are

  abbrev afters : List After
  afters = map (after_command w.lag w.loads command) stations

  after-one : (station : StationData) (y : Present) → Told station y →
      IsAfter w later place holder c (burst_end command) First station (after_command w.lag w.loads command y)
  after-one station y is = elim is [
    | inl own ↦ inl (
      own.0,
      subst (IsHolder w later station) (sym own.2) (subst (λ st. IsHolder w later st (unmoved y)) (sym own.0)
          (holder-left w past (x ∷ ticks) holder rested.holds kept (unmoved y) record {
            plan = sym (ap (λ (p : Present). p.plan) own.1);
            memory = ap (λ (p : Present). p.memory) own.1;
            serves = sym (ap (λ (p : Present). p.serves) own.1) ∙ ap not rested.holds;
            duty = refl;
          })),
    )
    | inr other ↦ (let at : IsPresentAt w other.0 station = record { there = other.1; present = other.3 } in
        inr (
          other.0,
          other.2,
          at,
          server-after w past x ticks c hits words lag some fits many alone.leg whole.shown quiet stays-here other.0 station at
              (rested.others other.0 station at other.2) (prompt other.0 station at) y other.4,
        ))
  ]

  serves-later : (other : ℕ) (station : StationData) → IsPresentAt w other station → other ≢ place → Serves (course_of w station later)
  serves-later other station at apart =
      let heard = heard-of other station at.there apart at.present in
      let before = (rested.others other station at apart).serves in record {
        serves = ap (λ (d : Course). d.holds) heard.course ∙ before.serves;
        idle = ap (λ (d : Course). d.runs) heard.course ∙ before.idle;
      }

  moment-then : Underway w record { shown = later; driven = (driven ∷ sent) ++ driven_at w t } place holder c (burst_end command) First afters
  moment-then =
      let over = quiet-after w now s hits lag rested.spent rested.rests (rested.fresh (other_of c)) some x ticks driven sent whole in record {
        rests = over.rests;
        fresh = fresh-after w now s hits lag rested.spent rested.rests (rested.fresh (other_of c)) some x ticks driven sent whole;
        spent = over.spent;
        at = rested.at;
        holds = holds-later;
        serves = serves-later;
        stations = beside-into Told (IsAfter w later place holder c (burst_end command) First) (after_command w.lag w.loads command)
            (present_stations w.lag w.plan w.loads w.outside w.absent) stations told after-one;
        one = one-owes-at-most w.lag w.loads c (length past) hits entry.item stations ranges.kind separate;
      }

  -- ---- what came to pass

  blocks-then : blocks_now w.lag w.plan w.loads w.outside w.absent (x ∷ (ticks ++ past)) (length (ticks ++ past)) ≡ blocks_taken w.lag w.loads command afters
  blocks-then =
      let tick = burst_end command + w.lag in
      ap (blocks_now w.lag w.plan w.loads w.outside w.absent (x ∷ (ticks ++ past))) known
      ∙ beside-filter_map Told (took_in w.lag w.plan w.loads w.outside w.absent (x ∷ (ticks ++ past)) tick)
      (λ y. option_map (delivered tick c (after_command w.lag w.loads command y)) (after_command w.lag w.loads command y).taken)
      (present_stations w.lag w.plan w.loads w.outside w.absent) stations told (λ st y is. elim is [
        | inl own ↦ ap (took_in w.lag w.plan w.loads w.outside w.absent (x ∷ (ticks ++ past)) tick) own.0
            ∙ took-none w.lag w.plan w.loads w.outside w.absent past place holder holder (x ∷ (ticks ++ past)) tick
            (unheard-takes w.lag holder (starts w.plan holder) w.loads w.outside x (ticks ++ past)
            (heard-nothing w.lag holder (starts w.plan holder) w.loads w.outside (x ∷ (ticks ++ past)) holds-later))
            ∙ sym (ap (λ (a : After). option_map (delivered tick c a) a.taken) own.2)
        | inr other ↦ other.4.took
      ])
      ∙ sym (filter_map-map (λ (a : After). option_map (delivered tick c a) a.taken) (after_command w.lag w.loads command) stations)

  bursts-then : bursts w.lag (x ∷ (ticks ++ past)) ≡ bursts w.lag past ++ map burst_found (command ∷ [])
  bursts-then =
      let ticks_are : part_ticks hits words ≡ 40 * length (struck hits words) + 0 = omega arith in
      part-bursts w now s hits lag rested.spent rested.rests (rested.fresh (other_of c)) some x ticks driven sent whole alone
      ∙ ap (λ n. bursts w.lag past ++ (record { channel = c; burst = record { first = length past; ticks = n; slots = struck hits words } } ∷ [])) ticks_are

  -- the attempt that ended, if no answer is expected
  others-end : (other : ℕ) (station : StationData) → slice_get w.plan.stations other ≡ Some station → other ≢ place →
      is_present w.absent station ≡ true →
      ended_by w.lag w.plan w.loads w.outside w.absent (x ∷ (ticks ++ past)) (length (ticks ++ past)) station ≡ []
  others-end other station there apart present =
      ap (attempts_ended w station (length (ticks ++ past))) (heard-of other station there apart present).course
      ∙ no-attempts w station past (length (ticks ++ past)) (omega (arith, count-before))

  abbrev Ends : Option Shape → Type 0
  Ends shape =
      attempt_at w.lag w.plan w.loads w.outside w.absent holder.terminal.address (length (ticks ++ past)) (course_of w holder (x ∷ (ticks ++ past))).ended
      ≡ ended_with_command holder.terminal.address begun (burst_end command + w.lag) shape

  holder-ends : (shape : Option Shape) → (answers_of entry.item.kind).first ≡ shape → Ends shape
  holder-ends None none =
      let ending = without_words Sent None None in
      ap (attempts_ended w holder (length (ticks ++ past)))
      (closed.sent none ∙ ap (close (course_of w holder past) begun ending) (ap (λ n. n + w.lag) same-end))
      ∙ ap (λ n. attempts_ended w holder n (close (course_of w holder past) begun ending (burst_end command + w.lag))) known
      ∙ closed-attempts w holder (course_of w holder past) begun ending (burst_end command + w.lag)
  holder-ends (Some shape) expects =
      ap (attempts_ended w holder (length (ticks ++ past))) (closed.waits shape expects).0
      ∙ no-attempts w holder past (length (ticks ++ past)) (omega (arith, count-before))

  closes-then : flat_map (ended_by w.lag w.plan w.loads w.outside w.absent (x ∷ (ticks ++ past)) (length (ticks ++ past)))
      (present_stations w.lag w.plan w.loads w.outside w.absent)
      ≡ ended_with_command holder.terminal.address begun (burst_end command + w.lag) (answers_of entry.item.kind).first
  closes-then =
      one-gives (is_present w.absent) (ended_by w.lag w.plan w.loads w.outside w.absent (x ∷ (ticks ++ past)) (length (ticks ++ past))) w.plan.stations place
      holder rested.at.there rested.at.present others-end
      ∙ holder-ends (answers_of entry.item.kind).first refl

  next-tick : t + suc m ≡ suc (t + m)
  next-tick = omega arith

  held-then : HoldsAlone w later
  held-then = record {
    place = place;
    holder = holder;
    at = rested.at;
    holds = holds-later;
    others = λ other station at apart. (serves-later other station at apart).serves;
  }

  last : IsOrderly w (t + m)
  last = record {
    alone = sending.drives;
    hands = inl (subst (λ u. HoldsAlone w (shown_at w u)) next-tick
        (subst (HoldsAlone w) (sym (ap (λ (tr : Trace). tr.shown) sending.trace)) held-then));
    goes_on = sending.goes_on;
  }

  passage-then : Passage w t (t + suc m) record {
    blocks = blocks_taken w.lag w.loads command afters;
    bursts = command ∷ [];
    attempts = ended_with_command holder.terminal.address begun (burst_end command + w.lag) (answers_of entry.item.kind).first;
    commands = 1;
  }
  passage-then =
      part-passes w t m x (ticks ++ past) (blocks_taken w.lag w.loads command afters) command
      (ended_with_command holder.terminal.address begun (burst_end command + w.lag) (answers_of entry.item.kind).first) 1 sending.passed sending.before
      (ap (λ (tr : Trace). tr.shown) sending.trace) blocks-then bursts-then closes-then sending.counted last

  quiet-then : quiet_from later ≡ burst_end command
  quiet-then =
      let both = part-quiet w.lag Command hits words c (x ∷ ticks) past lag fits some whole.shown quiet in omega (arith, both, known)

  known-at : t + suc m ≡ burst_end command + suc w.lag
  known-at = omega (arith, long)

  from-start : CommandPasses w t (length past) holder entry place stations
  from-start =
      let shows = ap (λ (tr : Trace). tr.shown) sending.trace in
      let at = known-at in
      let then_shown : shown_at w (burst_end command + suc w.lag) ≡ later = ap (shown_at w) (sym at) ∙ shows in
      record {
        moment = subst (λ u. Underway w (trace_at w u) place holder c (burst_end command) First afters) at
            (subst (λ tr. Underway w tr place holder c (burst_end command) First afters) (sym sending.trace) moment-then);
        passage = subst (λ u. Passage w t u record {
          blocks = blocks_taken w.lag w.loads command afters;
          bursts = command ∷ [];
          attempts = ended_with_command holder.terminal.address begun (burst_end command + w.lag) (answers_of entry.item.kind).first;
          commands = 1;
        }) at passage-then;
        sent = λ none. ap (course_of w holder) then_shown ∙ closed.sent none ∙ ap (close (course_of w holder past) begun (without_words Sent None None))
            (ap (λ n. n + w.lag) same-end);
        waits = λ shape expects. (
          ap (course_of w holder) then_shown ∙ (closed.waits shape expects).0,
          subst (λ p. AwaitsFirst w.lag begun (on_channel c p) (burst_end command)) (sym then_shown)
              (subst (AwaitsFirst w.lag begun (on_channel c later)) same-end (closed.waits shape expects).1),
        );
        quiet = ap quiet_from then_shown ∙ quiet-then;
      }

  pub command-passes : CommandPasses w t t holder entry place stations
  command-passes = subst (λ n. CommandPasses w t n holder entry place stations) long from-start
