-- A message of which the first word was struck, beside an abandoned answer that runs on after it: it is what the message table says of it.
use Rattle.std.proofs.Common.{◌≡◌, ◌≢◌, ℕ, suc, ◌+◌, ◌-◌, ◌<◌, ◌≤◌, Bool, true, false, List, [], ◌∷◌, ◌++◌, length, map, Option, Some, None, refl, sym, ap, ◌∙◌, subst, arith, length-append}
use Rattle.std.proofs.lemmas.Bool.{true≢false, le-ltb, ne_eqb}
use Rattle.std.specs.Prelude.{nat_lt, if◌then◌else◌, ◌==◌}
use Rattle.bus_base.specs.declared.samples.Channel.{Channel}
use Rattle.bus_base.specs.declared.samples.Pair.{Pair}
use Rattle.bus_base.specs.declared.samples.Part.TheVariants.{Command, First}
use Rattle.bus_line.specs.Past.{runs}
use Rattle.bus_line.specs.Channels.{on_channel}
use Rattle.bus_formats.specs.Accepted.{Supersedes}
use Rattle.bus_formats.specs.Codes.{carried}
use Rattle.bus_formats.specs.Forms.{answer_of, answers_of, mode_count, command_words}
use Rattle.bus_formats.specs.Plans.{ItemData, StationData}
use Rattle.bus_formats.specs.Times.{no_response}
use Rattle.bus_formats.specs.declared.fault.Fault.{Fault}
use Rattle.bus_formats.specs.declared.fault.Hit.{Hit}
use Rattle.bus_formats.specs.declared.form.Outcome.TheVariants.{NoResponse}
use Rattle.bus_formats.specs.declared.form.Shape.{Shape}
use Rattle.bus_formats.specs.declared.plan.Kind.{Kind}
use Rattle.bus_formats.specs.declared.plan.Kind.TheVariants.{Receive, Transmit, Relay, Mode}
use Rattle.bus_model.specs.Counted.{is_counted}
use Rattle.bus_model.specs.Course.{Course, close}
use Rattle.bus_model.specs.Endings.{ending_by, ends}
use Rattle.bus_model.specs.Hearing.{Moment, heard_on}
use Rattle.bus_model.specs.Memory.{TimedLoad}
use Rattle.bus_model.specs.Message.{Present, Message, unmoved, command_burst, after_command_of, after_command, after_silence, blocks_taken, answer_to, ended_message, message_by, message_obeyed, message_sent, message}
use Rattle.bus_model.specs.Orders.{Order, last_order}
use Rattle.bus_model.specs.Run.{quiet_after}
use Rattle.bus_model.specs.Starts.{Entry, starts}
use Rattle.bus_model.specs.Strikes.{ShownBurst, ShownAnswer, hits_on, struck, burst_end, first_ticks, burst_ticks, superseded_end, beside_command, shown_answer}
use Rattle.bus_model.specs.World.{Trace}
use Rattle.bus_law_line.specs.Senders.{attempt_to_come}
use Rattle.bus_law_line.specs.Shown.{first_samples}
use Rattle.bus_law_messages.proofs.Listening.{moments-shown, moments-many}
use Rattle.bus_law_parts.specs.Parts.{part_ticks, part_sample}
use Rattle.bus_law_stations.specs.Messages.{message_begun}
use Rattle.bus_law_stations.specs.Turns.{moments_of}
use Rattle.bus_law_table.specs.Stations.{after_message}
use Rattle.bus_law_phases.specs.Commands.{begun_at, command_at, attempt_recorded}
use Rattle.bus_law_phases.specs.Passages.{Passage}
use Rattle.bus_law_phases.specs.Rests.{Rested}
use Rattle.bus_law_phases.specs.Scenarios.{Scenario, trace_at, shown_at, driven_at, commands_in, course_of, hearing_of}
use Rattle.bus_law_moments.specs.Told.{message_at, MessageTold}
use Rattle.bus_law_beside.specs.Beside.{BeginsBeside, is_valid, sent_beside, shown_beside, found_beside}
use Rattle.bus_law_beside.proofs.BesideBegins as start
use Rattle.bus_law_beside.proofs.BesideDrives as both
use Rattle.bus_law_beside.proofs.BesideEnd as end
use Rattle.bus_law_beside.proofs.OldStations as olds
use Rattle.bus_law_beside.proofs.RowLaws.{row-part}
use Rattle.bus_law_beside.proofs.StruckFirst.{never-ordered, none-ordered}
use Rattle.bus_law_beside.proofs.StopTicks.{BreaksOff, breaks-off, shown-ends}
use Rattle.bus_law_beside.proofs.Tail as tail
use Rattle.bus_law_beside.proofs.TailFrom.{TailFrom, tail-from}
use Rattle.bus_law_beside.proofs.Teller as teller
use Rattle.bus_law_phases.proofs.Staying.{long-at}

-- ---- the message of the table

map-same : {X Y : Type 0} (f g : X → Y) (xs : List X) → ((x : X) → f x ≡ g x) → map f xs ≡ map g xs
map-same f g [] same = refl
map-same f g (x ∷ xs) same = ap (λ y. y ∷ map f xs) (same x) ∙ ap (λ ys. g x ∷ ys) (map-same f g xs same)

-- nobody who stays as it was answers, nor takes a block, nor promised anything
answer-none : (burst : ShownBurst) (stations : List Present) → answer_to burst (map unmoved stations) ≡ None
answer-none burst [] = refl
answer-none burst (y ∷ ys) = answer-none burst ys

blocks-none : (k : ℕ) (loads : List TimedLoad) (burst : ShownBurst) (stations : List Present) → blocks_taken k loads burst (map unmoved stations) ≡ []
blocks-none k loads burst [] = refl
blocks-none k loads burst (y ∷ ys) = blocks-none k loads burst ys

silence-same : (k : ℕ) (loads : List TimedLoad) (burst : ShownBurst) (stations : List Present) →
    map (after_silence k loads burst) (map unmoved stations) ≡ map unmoved stations
silence-same k loads burst [] = refl
silence-same k loads burst (y ∷ ys) = ap (λ xs. unmoved y ∷ xs) (silence-same k loads burst ys)

-- so a command that nobody obeys ends without a response
abbrev message_unanswered : ItemData → ShownBurst → List Present → Message
message_unanswered item command stations = record {
  ending = ends (NoResponse First) None None (burst_end command + no_response);
  stations = map (λ after. after.station) (map unmoved stations);
  deliveries = [];
  bursts = command ∷ [];
  counted = is_counted item.kind None;
}

unanswered-message : (k : ℕ) (loads : List TimedLoad) (faults : List Fault) (attempt : ℕ) (item : ItemData) (channel : Channel) (begins : ℕ)
    (stations : List Present) (shape : Shape) → (answers_of item.kind).first ≡ Some shape →
    map (after_command k loads (command_burst channel begins (hits_on faults attempt Command) item)) stations ≡ map unmoved stations →
    message k loads faults attempt item None channel begins stations
    ≡ message_unanswered item (command_burst channel begins (hits_on faults attempt Command) item) stations
unfolding message
unanswered-message k loads faults attempt item channel begins stations shape expects same =
    let command = command_burst channel begins (hits_on faults attempt Command) item in
    ap (message_sent k loads faults attempt item None (command_burst channel begins (hits_on faults attempt Command) item)) same
    ∙ ap (λ a. message_obeyed k loads faults attempt item None command (map unmoved stations) (shown_answer (hits_on faults attempt First) a))
    (answer-none command stations)
    ∙ ap (λ ds. message_by k loads faults attempt item None command ds (map (after_silence k loads command) (map unmoved stations)) None None)
    (blocks-none k loads command stations)
    ∙ ap (λ ss. message_by k loads faults attempt item None command [] ss None None) (silence-same k loads command stations)
    ∙ ap (λ sh. ended_message k loads faults attempt item None command [] (map unmoved stations) None None
    (ending_by k item.kind item.abandon (burst_end command) None None sh)) expects

answer-of : (address count : ℕ) → address ≢ 31 → answer_of address count ≡ Some record { address = address; count = count }
answer-of address count named = let other : (address == 31) ≡ false = ne_eqb address 31 named in rw other refl

-- the terminal whose answer was abandoned is to answer the command
answers-it : (kind : Kind) (address : ℕ) → Supersedes address kind → address ≢ 31 → (shape : Shape) × ((answers_of kind).first ≡ Some shape)
answers-it (Receive to sub words) address is named = (record { address = to; count = 0 }, answer-of to 0 (λ e. named (sym is ∙ e)))
answers-it (Transmit from sub count) address is named = (record { address = from; count = count }, answer-of from count (λ e. named (sym is ∙ e)))
answers-it (Relay from from_sub to to_sub count) address is named = absurd is
answers-it (Mode to mode_sub transmit code word) address is named =
    (record { address = to; count = mode_count (carried transmit code) }, answer-of to (mode_count (carried transmit code)) (λ e. named (sym is ∙ e)))

unmoved-by : (k : ℕ) (loads : List TimedLoad) (command : ShownBurst) (y : Present) (b : Bool) (order : Option Order) → order ≡ None →
    (if b then after_command_of k loads command y order else unmoved y) ≡ unmoved y
unmoved-by k loads command y true order none = ap (after_command_of k loads command y) none
unmoved-by k loads command y false order none = refl

-- ---- the message

module _ (w : Scenario) (t place : ℕ) (holder : StationData) (stations : List Present) (entry : Entry) (old : ShownAnswer)
    (p : BeginsBeside w t place holder stations entry old) (struck_first : is_valid (command_at w t t holder entry).slots ≡ false) where
  abbrev command : ShownBurst
  command = command_at w t t holder entry

  shape-is : (shape : Shape) × ((answers_of entry.item.kind).first ≡ Some shape)
  shape-is = answers-it entry.item.kind old.sent.address p.supersedes p.beside.begins.words.terminal

  nobody : map (after_command w.lag w.loads command) stations ≡ map unmoved stations
  nobody =
      map-same (after_command w.lag w.loads command) unmoved stations
      (λ y. unmoved-by w.lag w.loads command y y.serves (last_order y.plan.terminal.address command.slots)
      (none-ordered (hits_on w.plan.faults (attempt_to_come w.plan.faults Command (driven_at w t)) Command) entry.item.kind y.plan.terminal.address
      old.sent.address p.supersedes struck_first))

  message-is : message_at w t holder stations entry ≡ message_unanswered entry.item command stations
  message-is =
      let counted : suc (commands_in w (driven_at w t)) ≡ attempt_to_come w.plan.faults Command (driven_at w t) = omega arith in
      ap (λ n. message w.lag w.loads w.plan.faults n entry.item None (begun_at w t t holder entry).state.channel t stations) counted
      ∙ unanswered-message w.lag w.loads w.plan.faults (attempt_to_come w.plan.faults Command (driven_at w t)) entry.item
      (begun_at w t t holder entry).state.channel t stations shape-is.0 shape-is.1 nobody

  -- what the answer shows ends after the command
  module _ (later : burst_end command < burst_end (beside_command command old)) where
    found-order : found_beside w t holder entry old ≡ command ∷ beside_command command old ∷ []
    found-order =
        let less : nat_lt (burst_end (beside_command command old)) (burst_end command) ≡ false =
        le-ltb (burst_end (beside_command command old)) (burst_end command) (omega (arith, later)) in
        let other : (burst_end (beside_command command old) == burst_end command) ≡ false =
        ne_eqb (burst_end (beside_command command old)) (burst_end command) (λ e. omega (arith, e, later)) in
        rw (less, other) refl

    quiet-last : quiet_after (command ∷ beside_command command old ∷ []) ≡ burst_end (beside_command command old)
    quiet-last = omega (arith, later)

    told-from : TailFrom w t place holder stations (begun_at w t t holder entry) command (beside_command command old) (shown_at w t) →
        MessageTold w t holder stations entry place [] (command ∷ beside_command command old ∷ [])
    told-from so = record {
      over = so.over;
      passes = ap (λ (m : Message). m.ending.passes) message-is;
      runs_on = ap (λ (m : Message). m.ending.runs_on) message-is;
      shows = record {
        later = so.later;
        answers = [];
        bursts_are = ap (λ (m : Message). m.bursts) message-is;
        passage = subst (λ (m : Message). Passage w t so.over record {
          blocks = m.deliveries;
          bursts = command ∷ beside_command command old ∷ [];
          attempts = attempt_recorded holder.terminal.address (begun_at w t t holder entry) m.ending.ended m.ending.tick ∷ [];
          commands = 1;
        }) (sym message-is) so.passage;
      };
      closes = so.closes ∙ sym (ap (λ (m : Message). close (course_of w holder (shown_at w t)) (begun_at w t t holder entry) m.ending.ended m.ending.tick)
          message-is);
      rested = subst (λ (m : Message). Rested w (trace_at w so.over) place holder (after_message holder (begun_at w t t holder entry) m)) (sym message-is)
          so.rested;
      waits = record {
        quiet = so.quiet ∙ sym quiet-last;
        soon = (let soon = so.soon in let last = quiet-last in omega (arith, soon, last));
        early = so.early;
      };
    }

    module _ (o : Pair) (os : List Pair) (is_old : p.beside.ticks ≡ o ∷ os) where
      abbrev sends : ℕ
      sends = sent_beside old (t - old.sent.start) false

      abbrev m : ℕ
      m = shown_beside old (t - old.sent.start) false

      few : t - old.sent.start ≤ part_ticks old.hits old.sent.words
      few = let within = p.beside.within in let ends_at = olds.ends-at w t place holder stations entry old p in let some = p.beside.some in
          omega (arith, within, ends_at, some)

      breaks : BreaksOff old (t - old.sent.start) false sends m
      breaks = breaks-off First old (t - old.sent.start) false (olds.fits w t place holder stations entry old p) few

      abbrev now : Trace
      now = start.now w t place holder stations entry old p o os is_old false sends m breaks

      same-now : trace_at w t ≡ now
      same-now = start.same-now w t place holder stations entry old p o os is_old false sends m breaks

      abbrev hits : List Hit
      hits = start.hits w t place holder stations entry old p o os is_old false sends m breaks

      struck-now : is_valid (struck hits (command_words entry.item.kind)) ≡ false
      struck-now =
          subst (λ (tr : Trace). is_valid (struck (hits_on w.plan.faults (attempt_to_come w.plan.faults Command tr.driven) Command)
          (command_words entry.item.kind))
          ≡ false) same-now struck_first

      abbrev telling : StationData
      telling = p.beside.telling

      never : last_order telling.terminal.address (struck hits (command_words entry.item.kind)) ≡ None
      never = none-ordered hits entry.item.kind telling.terminal.address old.sent.address p.supersedes struck-now

      abbrev c : Channel
      c = old.sent.channel

      abbrev d : Channel
      d = (start.begun w t place holder stations entry old p o os is_old false sends m breaks).state.channel

      abbrev before : List Pair
      before = shown_at w old.sent.start

      abbrev course : Course
      course = course_of w telling before

      abbrev heard_then : List Moment
      heard_then =
          teller.heard_then w.lag telling (starts w.plan telling) w.loads w.outside before c d old.sent.words o os
          (start.old_row w t place holder stations entry old p o os is_old false sends m breaks)
          (start.old_known w t place holder stations entry old p o os is_old false sends m breaks)
          (start.old_burst w t place holder stations entry old p o os is_old false sends m breaks
          (length (heard_on c (hearing_of w telling before).ticks))) (start.teller-begins w t place holder stations entry old p o os is_old false sends
          m breaks)

      rests : runs w.lag (heard_on d heard_then) ≡ false
      rests =
          teller.rests-d w.lag telling (starts w.plan telling) w.loads w.outside before c d old.sent.words o os
          (start.old_row w t place holder stations entry old p o os is_old false sends m breaks)
          (start.old_known w t place holder stations entry old p o os is_old false sends m breaks)
          (start.old_burst w t place holder stations entry old p o os is_old false sends m breaks
          (length (heard_on c (hearing_of w telling before).ticks))) (start.teller-begins w t place holder stations entry old p o os is_old false sends
          m breaks)

      ordered-never : (ticks : List Pair) → on_channel d ticks ≡ first_samples (part_sample hits (command_words entry.item.kind)) (length ticks) →
          length ticks < start.limit w t place holder stations entry old p o os is_old false sends m breaks → both.Ordered w t place holder stations entry
          old p o os is_old false sends m breaks ticks ≡ false
      ordered-never ticks shown low =
          let all = moments-many course ticks in
          let lag = p.lag in
          never-ordered w.lag (part_sample hits (command_words entry.item.kind)) (part_ticks hits (command_words entry.item.kind) + w.lag) _
          (omega (arith, lag)) telling.terminal d heard_then
          (row-part w.lag Command hits (command_words entry.item.kind) (heard_on d heard_then) p.lag
          (start.fits w t place holder stations entry old p o os is_old false sends m breaks)
          (start.some w t place holder stations entry old p o os is_old false sends m breaks) rests)
          never (moments_of course ticks)
          (moments-shown d course ticks ∙ shown ∙ ap (first_samples (part_sample hits (command_words entry.item.kind))) (sym all))
          (omega (arith, low, all, lag))

      orders : both.OrdersIt w t place holder stations entry old p o os is_old false sends m breaks
      orders = record {
        early = λ ticks so low which. ordered-never ticks so.sent low;
        late = λ ticks so low long on. absurd (true≢false (sym on));
      }

      same-broken : first_ticks old m ≡ beside_command command old
      same-broken =
          let some = p.beside.some in
          let begins : old.sent.start + (t - old.sent.start) ≡ t = omega (arith, some) in
          let ends_at : old.sent.start + m ≡ superseded_end old t command.slots =
          ap (λ b. old.sent.start + shown_beside old (t - old.sent.start) b) (sym struck_first)
          ∙ shown-ends First old t (t - old.sent.start) command.slots (olds.fits w t place holder stations entry old p) few
          (olds.ends-at w t place holder stations entry old p) begins in
          let first = olds.start-is w t place holder stations entry old p in
          let same : m ≡ superseded_end old t command.slots - old.burst.start = omega (arith, ends_at, first) in
          ap (first_ticks old) same

      same-ticks : burst_ticks command ≡ part_ticks hits (command_words entry.item.kind)
      same-ticks =
          ap (λ (tr : Trace). burst_ticks (command_burst d t (hits_on w.plan.faults (attempt_to_come w.plan.faults Command tr.driven) Command) entry.item))
          same-now
          ∙ omega arith

      -- the end of the answer isn't known with that of the command
      runs-on : length (([] ++ tail.ours w t place holder stations entry old p o os is_old false sends m breaks orders) ++ (o ∷ os)) ≤ start.old_known w t
          place holder stations entry old p o os is_old false sends m breaks
      runs-on =
          let first = olds.start-is w t place holder stations entry old p in
          let begins = p.beside.some in
          let broken : burst_end (first_ticks old m) ≡ burst_end (beside_command command old) = ap burst_end same-broken in
          let all = length-append (tail.ours w t place holder stations entry old p o os is_old false sends m breaks orders) (o ∷ os) in
          let many = end.many w t place holder stations entry old p o os is_old false sends m breaks orders in
          let number = end.number w t place holder stations entry old p o os is_old false sends m breaks orders in
          omega (arith, later, broken, first, begins, same-ticks, all, many, number)

      -- by the trace, and the tick, at which it began
      abbrev From : Trace → ℕ → Type 0
      From tr i =
          let begun = message_begun (course_of w holder tr.shown) entry i in
          TailFrom w t place holder stations begun
          (command_burst begun.state.channel i (hits_on w.plan.faults (attempt_to_come w.plan.faults Command tr.driven) Command) entry.item)
          (first_ticks old m) tr.shown

      from-now : From now (length ((o ∷ os) ++ before))
      from-now = tail-from w t place holder stations entry old p o os is_old false sends m breaks orders refl never shape-is.0 shape-is.1 runs-on

      long-past : length ((o ∷ os) ++ before) ≡ t
      long-past = ap (λ (tr : Trace). length tr.shown) (sym same-now) ∙ long-at w t (olds.stays-now w t place holder stations entry old p)

      from-then-on : From (trace_at w t) t
      from-then-on = subst (λ tr. From tr t) (sym same-now) (subst (From now) long-past from-now)

      told-so : MessageTold w t holder stations entry place [] (found_beside w t holder entry old)
      told-so =
          subst (MessageTold w t holder stations entry place []) (sym found-order)
          (told-from (subst (λ b. TailFrom w t place holder stations (begun_at w t t holder entry) command b (shown_at w t)) same-broken from-then-on))

-- whatever was sent of the answer so far
told-by : (w : Scenario) (t place : ℕ) (holder : StationData) (stations : List Present) (entry : Entry) (old : ShownAnswer)
    (p : BeginsBeside w t place holder stations entry old) → is_valid (command_at w t t holder entry).slots ≡ false →
    burst_end (command_at w t t holder entry) < burst_end (beside_command (command_at w t t holder entry) old) →
    (ticks : List Pair) → p.beside.ticks ≡ ticks → MessageTold w t holder stations entry place [] (found_beside w t holder entry old)
told-by w t place holder stations entry old p struck_first later [] is =
    let long = p.beside.runs.many in
    let some = p.beside.some in
    let none : length p.beside.ticks ≡ 0 = ap (λ (xs : List Pair). length xs) is in absurd (omega (arith, long, some, none))
told-by w t place holder stations entry old p struck_first later (o ∷ os) is = told-so w t place holder stations entry old p struck_first later o os is

pub told-struck : (w : Scenario) (t place : ℕ) (holder : StationData) (stations : List Present) (entry : Entry) (old : ShownAnswer) →
    BeginsBeside w t place holder stations entry old → is_valid (command_at w t t holder entry).slots ≡ false →
    burst_end (command_at w t t holder entry) < burst_end (beside_command (command_at w t t holder entry) old) →
    MessageTold w t holder stations entry place [] (found_beside w t holder entry old)
told-struck w t place holder stations entry old p struck_first later =
    told-by w t place holder stations entry old p struck_first later p.beside.ticks refl
