-- A message that begins beside an abandoned answer, which is over by the end of its command: it began, and both bursts are found.
use Rattle.std.proofs.Common.{◌≡◌, ◌⊎◌, inl, inr, ℕ, ◌+◌, ◌-◌, ◌<◌, ◌≤◌, Bool, true, false, List, [], ◌∷◌, ◌++◌, length, refl, sym, ap, ◌∙◌, subst, arith}
use Rattle.std.proofs.lemmas.Bool.{cases_Bool, true≢false}
use Rattle.std.specs.Prelude.{if◌then◌else◌}
use Rattle.bus_base.specs.declared.samples.Channel.{Channel}
use Rattle.bus_base.specs.declared.samples.Pair.{Pair}
use Rattle.bus_base.specs.declared.samples.Part.TheVariants.{Command, First}
use Rattle.bus_line.specs.Past.{runs}
use Rattle.bus_line.specs.Channels.{on_channel}
use Rattle.bus_formats.specs.Forms.{command_words}
use Rattle.bus_formats.specs.Plans.{StationData}
use Rattle.bus_formats.specs.declared.fault.Hit.{Hit}
use Rattle.bus_model.specs.Course.{Course}
use Rattle.bus_model.specs.Hearing.{Moment, heard_on}
use Rattle.bus_model.specs.Message.{Present, command_burst}
use Rattle.bus_model.specs.Run.{quiet_after}
use Rattle.bus_model.specs.Starts.{Entry, starts}
use Rattle.bus_model.specs.Strikes.{ShownBurst, ShownAnswer, hits_on, struck, burst_end, first_ticks, burst_ticks, superseded_end, beside_command}
use Rattle.bus_model.specs.World.{Trace}
use Rattle.bus_law_line.specs.Senders.{attempt_to_come}
use Rattle.bus_law_line.specs.Shown.{first_samples}
use Rattle.bus_law_messages.proofs.Listening.{moments-shown, moments-many}
use Rattle.bus_law_parts.specs.Parts.{HitsFit, part_ticks, part_sample}
use Rattle.bus_law_stations.specs.Messages.{message_begun}
use Rattle.bus_law_stations.specs.Turns.{moments_of}
use Rattle.bus_law_phases.specs.Commands.{begun_at, command_at}
use Rattle.bus_law_phases.specs.Scenarios.{Scenario, trace_at, shown_at, course_of, hearing_of, StaysFrom}
use Rattle.bus_law_moments.specs.Begun.{CommandKnown, MessageBegan}
use Rattle.bus_law_beside.specs.Beside.{BeginsBeside, is_valid, sent_beside, shown_beside, ends_before, by_ends, found_beside}
use Rattle.bus_law_beside.proofs.BesideBegins as start
use Rattle.bus_law_beside.proofs.BesideDrives as both
use Rattle.bus_law_beside.proofs.BesideFrom.{KnownFrom}
use Rattle.bus_law_beside.proofs.BesideKnown.{known-from}
use Rattle.bus_law_beside.proofs.CommandFor.{not-yet, from-then}
use Rattle.bus_law_beside.proofs.OldStations as olds
use Rattle.bus_law_beside.proofs.RowLaws.{row-part}
use Rattle.bus_law_beside.proofs.StruckFirst.{never-ordered, none-ordered}
use Rattle.bus_law_beside.proofs.StopTicks.{BreaksOff, breaks-off, shown-ends, valid-over}
use Rattle.bus_law_beside.proofs.Teller as teller
use Rattle.bus_law_phases.proofs.Staying.{long-at}

-- ---- the last of two bursts

last-of : (a b : ShownBurst) → burst_end a ≤ burst_end b → quiet_after (by_ends a b) ≡ burst_end b
last-of a b low = by (ends_before a b) where
  by : (ps : Bool) → quiet_after (if ps then a ∷ b ∷ [] else b ∷ a ∷ []) ≡ burst_end b
  by true = omega (arith, low)
  by false = omega (arith, low)

module _ (w : Scenario) (t place : ℕ) (holder : StationData) (stations : List Present) (entry : Entry) (old : ShownAnswer)
    (p : BeginsBeside w t place holder stations entry old) (o : Pair) (os : List Pair) (is_old : p.beside.ticks ≡ o ∷ os)
    (valid : Bool) (is_so : is_valid (command_at w t t holder entry).slots ≡ valid)
    (ends_by : burst_end (beside_command (command_at w t t holder entry) old) ≤ burst_end (command_at w t t holder entry)) where
  abbrev n : ℕ
  n = t - old.sent.start

  abbrev sends : ℕ
  sends = sent_beside old (t - old.sent.start) valid

  abbrev m : ℕ
  m = shown_beside old (t - old.sent.start) valid

  number : length (o ∷ os) ≡ t - old.sent.start
  number = ap (λ (xs : List Pair). length xs) (sym is_old) ∙ p.beside.runs.many

  few : t - old.sent.start ≤ part_ticks old.hits old.sent.words
  few = let within = p.beside.within in let ends = olds.ends-at w t place holder stations entry old p in let some = p.beside.some in
      omega (arith, within, ends, some)

  breaks : BreaksOff old (t - old.sent.start) valid sends m
  breaks = breaks-off First old (t - old.sent.start) valid (olds.fits w t place holder stations entry old p) few

  abbrev hits : List Hit
  hits = start.hits w t place holder stations entry old p o os is_old valid sends m breaks

  abbrev now : Trace
  now = start.now w t place holder stations entry old p o os is_old valid sends m breaks

  same-now : trace_at w t ≡ now
  same-now = start.same-now w t place holder stations entry old p o os is_old valid sends m breaks

  valid-now : is_valid (struck hits (command_words entry.item.kind)) ≡ valid
  valid-now =
      subst (λ (tr : Trace). is_valid (struck (hits_on w.plan.faults (attempt_to_come w.plan.faults Command tr.driven) Command) (command_words entry.item.kind))
      ≡ valid) same-now is_so

  -- ---- what the terminal hears of it

  abbrev telling : StationData
  telling = p.beside.telling

  abbrev course : Course
  course = course_of w telling (shown_at w old.sent.start)

  abbrev d : Channel
  d = (start.begun w t place holder stations entry old p o os is_old valid sends m breaks).state.channel

  abbrev heard_then : List Moment
  heard_then =
      teller.heard_then w.lag telling (starts w.plan telling) w.loads w.outside (shown_at w old.sent.start) old.sent.channel d old.sent.words o os
      (start.old_row w t place holder stations entry old p o os is_old valid sends m breaks)
      (start.old_known w t place holder stations entry old p o os is_old valid sends m breaks)
      (start.old_burst w t place holder stations entry old p o os is_old valid sends m breaks
      (length (heard_on old.sent.channel (hearing_of w telling (shown_at w old.sent.start)).ticks)))
      (start.teller-begins w t place holder stations entry old p o os is_old valid sends m breaks)

  rests : runs w.lag (heard_on d heard_then) ≡ false
  rests =
      teller.rests-d w.lag telling (starts w.plan telling) w.loads w.outside (shown_at w old.sent.start) old.sent.channel d old.sent.words o os
      (start.old_row w t place holder stations entry old p o os is_old valid sends m breaks)
      (start.old_known w t place holder stations entry old p o os is_old valid sends m breaks)
      (start.old_burst w t place holder stations entry old p o os is_old valid sends m breaks
      (length (heard_on old.sent.channel (hearing_of w telling (shown_at w old.sent.start)).ticks)))
      (start.teller-begins w t place holder stations entry old p o os is_old valid sends m breaks)

  fits : HitsFit Command hits (command_words entry.item.kind)
  fits = start.fits w t place holder stations entry old p o os is_old valid sends m breaks

  is-row : (ticks : List Pair) → on_channel d ticks ≡ first_samples (part_sample hits (command_words entry.item.kind)) (length ticks) →
      heard_on d (moments_of course ticks) ≡ first_samples (part_sample hits (command_words entry.item.kind)) (length (moments_of course ticks))
  is-row ticks shown =
      moments-shown d course ticks ∙ shown
      ∙ ap (first_samples (part_sample hits (command_words entry.item.kind))) (sym (moments-many course ticks))

  some : 0 < part_ticks hits (command_words entry.item.kind)
  some = start.some w t place holder stations entry old p o os is_old valid sends m breaks

  abbrev Ordered : List Pair → Bool
  Ordered ticks = both.Ordered w t place holder stations entry old p o os is_old valid sends m breaks ticks

  -- its first word counts from its last tick on, if it is valid
  ordered-valid : valid ≡ true → (ticks : List Pair) → on_channel d ticks ≡ first_samples (part_sample hits (command_words entry.item.kind)) (length ticks) →
      length ticks ≤ part_ticks hits (command_words entry.item.kind) + w.lag →
      (length ticks < 40 → Ordered ticks ≡ false) × (40 ≤ length ticks → Ordered ticks ≡ true)
  ordered-valid on ticks shown low =
      let all = moments-many course ticks in (
        λ few. not-yet w.lag hits entry.item.kind old.sent.address p.lag p.entry_of.ranges.kind p.supersedes fits (valid-now ∙ on)
            p.beside.begins.words.terminal telling.terminal p.beside.teller_is d heard_then rests (moments_of course ticks)
            (is-row ticks shown) (omega (arith, few, all)),
        λ long. from-then w.lag hits entry.item.kind old.sent.address p.lag p.entry_of.ranges.kind p.supersedes fits (valid-now ∙ on)
            p.beside.begins.words.terminal telling.terminal p.beside.teller_is d heard_then rests (moments_of course ticks)
            (is-row ticks shown) (omega (arith, long, all)) (omega (arith, low, all)),
      )

  -- else nothing does
  ordered-never : valid ≡ false → (ticks : List Pair) → on_channel d ticks ≡ first_samples (part_sample hits (command_words entry.item.kind)) (length ticks) →
      length ticks ≤ part_ticks hits (command_words entry.item.kind) + w.lag → Ordered ticks ≡ false
  ordered-never off ticks shown low =
      let all = moments-many course ticks in
      let lag = p.lag in
      never-ordered w.lag (part_sample hits (command_words entry.item.kind)) (part_ticks hits (command_words entry.item.kind) + w.lag) _
      (omega (arith, lag)) telling.terminal d heard_then
      (row-part w.lag Command hits (command_words entry.item.kind) (heard_on d heard_then) p.lag fits some rests)
      (none-ordered hits entry.item.kind telling.terminal.address old.sent.address p.supersedes (valid-now ∙ off))
      (moments_of course ticks) (is-row ticks shown) (omega (arith, low, all))

  within : (ticks : List Pair) → length ticks < start.limit w t place holder stations entry old p o os is_old valid sends m breaks →
      length ticks ≤ part_ticks hits (command_words entry.item.kind) + w.lag
  within ticks low = let lag = p.lag in omega (arith, low, lag)

  orders : both.OrdersIt w t place holder stations entry old p o os is_old valid sends m breaks
  orders = record {
    early = λ ticks so low which. by (cases_Bool valid) ticks so.sent (within ticks low) which;
    late = λ ticks so low long on. (ordered-valid on ticks so.sent (within ticks low)).1 long;
  }
    where
      by : (valid ≡ true) ⊎ (valid ≡ false) → (ticks : List Pair) →
          on_channel d ticks ≡ first_samples (part_sample hits (command_words entry.item.kind)) (length ticks) →
          length ticks ≤ part_ticks hits (command_words entry.item.kind) + w.lag → (length ticks < 40) ⊎ (valid ≡ false) → Ordered ticks ≡ false
      by (inr off) ticks shown low which = ordered-never off ticks shown low
      by (inl on) ticks shown low (inl few) = (ordered-valid on ticks shown low).0 few
      by (inl on) ticks shown low (inr off) = absurd (true≢false (sym on ∙ off))

  -- ---- the message began

  abbrev command : ShownBurst
  command = command_at w t t holder entry

  -- the answer ends where the message table says
  same-broken : first_ticks old m ≡ beside_command command old
  same-broken =
      let some = p.beside.some in
      let begins : old.sent.start + (t - old.sent.start) ≡ t = omega (arith, some) in
      let ends : old.sent.start + m ≡ superseded_end old t command.slots =
      ap (λ b. old.sent.start + shown_beside old (t - old.sent.start) b) (sym is_so)
      ∙ shown-ends First old t (t - old.sent.start) command.slots (olds.fits w t place holder stations entry old p) few
      (olds.ends-at w t place holder stations entry old p) begins in
      let first = olds.start-is w t place holder stations entry old p in
      let same : m ≡ superseded_end old t command.slots - old.burst.start = omega (arith, ends, first) in
      ap (first_ticks old) same

  same-ticks : burst_ticks command ≡ part_ticks hits (command_words entry.item.kind)
  same-ticks =
      ap (λ (tr : Trace). burst_ticks (command_burst d t (hits_on w.plan.faults (attempt_to_come w.plan.faults Command tr.driven) Command) entry.item)) same-now
      ∙ omega arith

  short : burst_ticks (first_ticks old m) ≤ (t - old.sent.start) + part_ticks hits (command_words entry.item.kind)
  short =
      let first = olds.start-is w t place holder stations entry old p in
      let begins = p.beside.some in
      let broken : burst_end (first_ticks old m) ≡ burst_end (beside_command command old) = ap burst_end same-broken in
      omega (arith, ends_by, broken, first, begins, same-ticks)

  late : sends ≤ (t - old.sent.start) + start.limit w t place holder stations entry old p o os is_old valid sends m breaks
  late =
      let soon = start.stops-soon w t place holder stations entry old p o os is_old valid sends m breaks
      ((t - old.sent.start) + part_ticks hits (command_words entry.item.kind)) short in omega (arith, soon)

  abbrev past : List Pair
  past = (o ∷ os) ++ shown_at w old.sent.start

  -- by the trace, and the tick, at which it began
  abbrev From : Trace → ℕ → Type 0
  From tr i =
      let begun = message_begun (course_of w holder tr.shown) entry i in
      let command = command_burst begun.state.channel i (hits_on w.plan.faults (attempt_to_come w.plan.faults Command tr.driven) Command) entry.item in
      KnownFrom w t place holder stations begun command (by_ends (first_ticks old m) command) tr.shown

  from-now : From now (length past)
  from-now = known-from w t place holder stations entry old p o os is_old valid sends m breaks orders late short

  stays-now : StaysFrom w t
  stays-now = olds.stays-now w t place holder stations entry old p

  long-past : length past ≡ t
  long-past = ap (λ (tr : Trace). length tr.shown) (sym same-now) ∙ long-at w t stays-now

  from-then-on : From (trace_at w t) t
  from-then-on = subst (λ tr. From tr t) (sym same-now) (subst (From now) long-past from-now)

  same-found : by_ends (first_ticks old m) command ≡ found_beside w t holder entry old
  same-found = ap (λ b. by_ends b command) same-broken

  known-so : KnownFrom w t place holder stations (begun_at w t t holder entry) command (found_beside w t holder entry old) (shown_at w t)
  known-so =
      subst (λ found. KnownFrom w t place holder stations (begun_at w t t holder entry) command found (shown_at w t)) same-found from-then-on

  is-last : quiet_after (found_beside w t holder entry old) ≡ burst_end command
  is-last = last-of (beside_command command old) command ends_by

  known : CommandKnown w t holder entry place stations [] (found_beside w t holder entry old)
  known = record {
    moment = known-so.moment;
    passage = known-so.passage;
    sent = known-so.sent;
    waits = known-so.waits;
    quiet = known-so.quiet;
    last = is-last;
    items = known-so.items;
  }

  pub began : MessageBegan w t holder entry place stations [] (found_beside w t holder entry old)
  began = record {
    lag = p.lag;
    accepted = p.accepted;
    entry_of = p.entry_of;
    none = stays-now;
    apart = p.apart;
    ranged = p.ranged;
    blocks = p.blocks;
    held = p.beside.holds;
    known = known;
  }

-- whatever was sent of the answer so far
began-by : (w : Scenario) (t place : ℕ) (holder : StationData) (stations : List Present) (entry : Entry) (old : ShownAnswer)
    (p : BeginsBeside w t place holder stations entry old) →
    burst_end (beside_command (command_at w t t holder entry) old) ≤ burst_end (command_at w t t holder entry) →
    (ticks : List Pair) → p.beside.ticks ≡ ticks → MessageBegan w t holder entry place stations [] (found_beside w t holder entry old)
began-by w t place holder stations entry old p ends_by [] is =
    let long = p.beside.runs.many in
    let some = p.beside.some in
    let none : length p.beside.ticks ≡ 0 = ap (λ (xs : List Pair). length xs) is in absurd (omega (arith, long, some, none))
began-by w t place holder stations entry old p ends_by (o ∷ os) is =
    began w t place holder stations entry old p o os is (is_valid (command_at w t t holder entry).slots) refl ends_by

pub began-beside : (w : Scenario) (t place : ℕ) (holder : StationData) (stations : List Present) (entry : Entry) (old : ShownAnswer) →
    BeginsBeside w t place holder stations entry old →
    burst_end (beside_command (command_at w t t holder entry) old) ≤ burst_end (command_at w t t holder entry) →
    MessageBegan w t holder entry place stations [] (found_beside w t holder entry old)
began-beside w t place holder stations entry old p ends_by = began-by w t place holder stations entry old p ends_by p.beside.ticks refl

-- where its first word is valid the answer is over in time
pub began-valid : (w : Scenario) (t place : ℕ) (holder : StationData) (stations : List Present) (entry : Entry) (old : ShownAnswer) →
    BeginsBeside w t place holder stations entry old → is_valid (command_at w t t holder entry).slots ≡ true →
    MessageBegan w t holder entry place stations [] (found_beside w t holder entry old)
began-valid w t place holder stations entry old p valid =
    let first = olds.start-is w t place holder stations entry old p in
    let begins = p.beside.some in
    began-beside w t place holder stations entry old p
    (valid-over old (command_at w t t holder entry) (omega (arith, first, begins)) valid)
