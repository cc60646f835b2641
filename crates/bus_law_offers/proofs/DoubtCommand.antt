-- The first command of a station that took control, its end known, where the one that offered it yielded to it: every station is what the message table
-- says, and what came to pass is what it says.
use Rattle.std.proofs.Common.{◌≡◌, ◌≢◌, inl, inr, ℕ, suc, ◌+◌, ◌*◌, ◌<◌, true, List, [], ◌∷◌, ◌++◌, length, map, Option, Some, None, refl, sym, ap, ◌∙◌, subst, arith}
use Rattle.std.proofs.lemmas.Bool.{cases_eq}
use Rattle.std.proofs.lemmas.Option.{same_Some}
use Rattle.std.proofs.Math.Nat.{zero-max}
use Rattle.std.specs.List.{AllByRecursion as Each}
use Rattle.std.specs.Prelude.{slice_get, flat_map, option_map}
use Rattle.bus_base.specs.Samples.{other_of}
use Rattle.bus_base.specs.declared.samples.Channel.{Channel}
use Rattle.bus_base.specs.declared.samples.Drive.{Drive}
use Rattle.bus_base.specs.declared.samples.Pair.{Pair}
use Rattle.bus_base.specs.declared.samples.Part.TheVariants.{Command, First}
use Rattle.bus_words.specs.declared.word.Word.{Word}
use Rattle.bus_line.specs.Past.{quiet_ticks}
use Rattle.bus_line.specs.Channels.{on_channel, bursts}
use Rattle.bus_formats.specs.Accepted.{IsAccepted}
use Rattle.bus_formats.specs.Forms.{answers_of}
use Rattle.bus_formats.specs.Plans.{StationData}
use Rattle.bus_formats.specs.declared.fault.Hit.{Hit}
use Rattle.bus_formats.specs.declared.form.Outcome.TheVariants.{Sent}
use Rattle.bus_formats.specs.declared.form.Shape.{Shape}
use Rattle.bus_formats.specs.declared.log.Attempt.{Attempt}
use Rattle.bus_model.specs.Attempts.{Begun, without_words}
use Rattle.bus_model.specs.Course.{quiet_from, close}
use Rattle.bus_model.specs.Message.{Present, After, delivered, after_command, blocks_taken}
use Rattle.bus_model.specs.Starts.{Entry, starts}
use Rattle.bus_model.specs.Strikes.{ShownBurst, struck, burst_end}
use Rattle.bus_model.specs.World.{Trace, is_present}
use Rattle.bus_model.specs.WorldLog.{present_stations, attempt_at, ended_by}
use Rattle.bus_law_control.proofs.Holding.{heard-nothing}
use Rattle.bus_law_duties.specs.Duties.{AreApart}
use Rattle.bus_law_line.specs.Senders.{Sender}
use Rattle.bus_law_messages.specs.Ends.{HeardCommand, SentCommand}
use Rattle.bus_law_moments.specs.Begun.{IsRanged, CommandKnown, MessageBegan}
use Rattle.bus_law_moments.specs.Doubts.{attempt_yielded, RestedInDoubt}
use Rattle.bus_law_offers.specs.Yielding.{course_yielded}
use Rattle.bus_law_offers.proofs.DoubtTold as told-first
use Rattle.bus_law_offers.proofs.DoubtStations.{doubt-items}
use Rattle.bus_law_offers.proofs.SentPassing.{sent-passes}
use Rattle.bus_law_offers.proofs.SentTicks.{SentTicks}
use Rattle.bus_law_parts.specs.Parts.{part_ticks, HitsFit}
use Rattle.bus_law_plans.specs.Entries.{IsEntryOf}
use Rattle.bus_law_plans.specs.Memories.{AreBlocks}
use Rattle.bus_law_stations.specs.Messages.{BeginsMessage, with_running}
use Rattle.bus_law_stations.specs.Silence.{AwaitsFirst}
use Rattle.bus_law_stations.specs.Turns.{Serves}
use Rattle.bus_law_table.specs.Happened.{took_in, blocks_in as blocks_now, burst_found}
use Rattle.bus_law_table.proofs.AllStations.{took-none}
use Rattle.bus_law_table.proofs.Pairing.{beside-filter_map, filter_map-map}
use Rattle.bus_law_table.proofs.Pairing as lists
use Rattle.bus_law_table.proofs.Takes.{unheard-takes}
use Rattle.bus_law_phases.specs.Answers.{attempts_ended}
use Rattle.bus_law_phases.specs.Commands.{begun_at, command_at, command_known, ended_with_command}
use Rattle.bus_law_phases.specs.Moments.{Underway}
use Rattle.bus_law_phases.specs.PartRuns.{burst_shown, RunsAlone, PartRuns}
use Rattle.bus_law_phases.specs.Passages.{HoldsAlone, IsOrderly, Passage}
use Rattle.bus_law_phases.specs.Scenarios.{Scenario, trace_at, shown_at, driven_at, course_of, IsPresentAt, StaysFrom}
use Rattle.bus_law_phases.proofs.AnswerHolders.{closed-attempts, no-attempts}
use Rattle.bus_law_phases.proofs.PartEnding.{part-bursts}
use Rattle.bus_law_phases.proofs.PartQuiet.{part-quiet}
use Rattle.bus_law_phases.proofs.SilencedItems.{items-command}
use Rattle.bus_law_phases.proofs.Spares.{one-gives}

module _ (w : Scenario) (t place : ℕ) (holder : StationData) (stations : List Present) (offer : Begun) (doubt_from : ℕ) (entry : Entry) (lag : w.lag ≡ 3)
    (accepted : IsAccepted w.plan) (of : IsEntryOf w.plan holder.terminal.address entry)
    (rested : RestedInDoubt w (trace_at w t) place holder stations offer doubt_from)
    (begins : BeginsMessage (course_of w holder (shown_at w t)) (shown_at w t) entry) (stays : StaysFrom w t) (separate : AreApart stations) where
  abbrev past : List Pair
  past = told-first.past w t place holder stations offer doubt_from entry lag accepted of rested begins stays separate

  long : length (shown_at w t) ≡ t
  long = told-first.long w t place holder stations offer doubt_from entry lag accepted of rested begins stays separate

  abbrev begun : Begun
  begun = told-first.begun w t place holder stations offer doubt_from entry lag accepted of rested begins stays separate

  abbrev s : Sender
  s = told-first.s w t place holder stations offer doubt_from entry lag accepted of rested begins stays separate

  abbrev c : Channel
  c = told-first.c w t place holder stations offer doubt_from entry lag accepted of rested begins stays separate

  abbrev words : List Word
  words = told-first.words w t place holder stations offer doubt_from entry lag accepted of rested begins stays separate

  abbrev hits : List Hit
  hits = told-first.hits w t place holder stations offer doubt_from entry lag accepted of rested begins stays separate

  fits : HitsFit Command hits words
  fits = told-first.fits w t place holder stations offer doubt_from entry lag accepted of rested begins stays separate

  some : 0 < part_ticks hits words
  some = told-first.some w t place holder stations offer doubt_from entry lag accepted of rested begins stays separate

  abbrev m : ℕ
  m = told-first.m w t place holder stations offer doubt_from entry lag accepted of rested begins stays separate

  abbrev now : Trace
  now = told-first.now w t place holder stations offer doubt_from entry lag accepted of rested begins stays separate

  abbrev yielded : List Attempt
  yielded = told-first.yielded w t place holder stations offer doubt_from entry lag accepted of rested begins stays separate

  abbrev sending : SentTicks w t s hits 1 yielded
  sending = told-first.sending w t place holder stations offer doubt_from entry lag accepted of rested begins stays separate

  abbrev x : Pair
  x = told-first.x w t place holder stations offer doubt_from entry lag accepted of rested begins stays separate

  abbrev ticks : List Pair
  ticks = told-first.ticks w t place holder stations offer doubt_from entry lag accepted of rested begins stays separate

  abbrev driven : List Drive
  driven = told-first.driven w t place holder stations offer doubt_from entry lag accepted of rested begins stays separate

  abbrev sent : List (List Drive)
  sent = told-first.sent w t place holder stations offer doubt_from entry lag accepted of rested begins stays separate

  abbrev whole : PartRuns w now s hits (part_ticks hits words + suc w.lag) (x ∷ ticks) (driven ∷ sent)
  whole = told-first.whole w t place holder stations offer doubt_from entry lag accepted of rested begins stays separate

  abbrev alone : RunsAlone w.lag c ticks
  alone = told-first.alone w t place holder stations offer doubt_from entry lag accepted of rested begins stays separate

  abbrev later : List Pair
  later = told-first.later w t place holder stations offer doubt_from entry lag accepted of rested begins stays separate

  abbrev command : ShownBurst
  command = told-first.command w t place holder stations offer doubt_from entry lag accepted of rested begins stays separate

  same-end : length past + part_ticks hits words ≡ burst_end command
  same-end = told-first.same-end w t place holder stations offer doubt_from entry lag accepted of rested begins stays separate

  quiet : on_channel (other_of c) (x ∷ ticks) ≡ quiet_ticks (length (x ∷ ticks))
  quiet = told-first.quiet w t place holder stations offer doubt_from entry lag accepted of rested begins stays separate

  count-before : length (ticks ++ past) ≡ length ticks + length past
  count-before = told-first.count-before w t place holder stations offer doubt_from entry lag accepted of rested begins stays separate

  known : length (ticks ++ past) ≡ burst_end command + w.lag
  known = told-first.known w t place holder stations offer doubt_from entry lag accepted of rested begins stays separate

  closed : SentCommand w.lag holder (starts w.plan holder) w.loads w.outside past (x ∷ ticks) begun (burst_shown (length past) hits words)
  closed = told-first.closed w t place holder stations offer doubt_from entry lag accepted of rested begins stays separate

  holds-later : (course_of w holder later).holds ≡ true
  holds-later = told-first.holds-later w t place holder stations offer doubt_from entry lag accepted of rested begins stays separate

  heard-of : (other : ℕ) (station : StationData) → IsPresentAt w other station → other ≢ place → other ≢ rested.before →
      HeardCommand w.lag station (starts w.plan station) w.loads w.outside past (x ∷ ticks) c (burst_shown (length past) hits words)
  heard-of = told-first.heard-of w t place holder stations offer doubt_from entry lag accepted of rested begins stays separate

  offerer-course : course_of w rested.offerer later ≡ course_yielded w past rested.offerer offer
  offerer-course = told-first.offerer-course w t place holder stations offer doubt_from entry lag accepted of rested begins stays separate

  offerer-ticks : course_of w rested.offerer (ticks ++ past) ≡ course_yielded w past rested.offerer offer
  offerer-ticks = told-first.offerer-ticks w t place holder stations offer doubt_from entry lag accepted of rested begins stays separate

  abbrev Told : StationData → Present → Type 0
  Told = told-first.Told w t place holder stations offer doubt_from entry lag accepted of rested begins stays separate

  told : lists.Beside Told (present_stations w.lag w.plan w.loads w.outside w.absent) stations
  told = told-first.told w t place holder stations offer doubt_from entry lag accepted of rested begins stays separate

  abbrev afters : List After
  afters = told-first.afters w t place holder stations offer doubt_from entry lag accepted of rested begins stays separate

  serves-later : (other : ℕ) (station : StationData) → IsPresentAt w other station → other ≢ place → Serves (course_of w station later)
  serves-later = told-first.serves-later w t place holder stations offer doubt_from entry lag accepted of rested begins stays separate

  moment-then : Underway w record { shown = later; driven = (driven ∷ sent) ++ driven_at w t } place holder c (burst_end command) First afters
  moment-then = told-first.moment-then w t place holder stations offer doubt_from entry lag accepted of rested begins stays separate

  -- ---- what came to pass

  blocks-then : blocks_now w.lag w.plan w.loads w.outside w.absent (x ∷ (ticks ++ past)) (length (ticks ++ past)) ≡ blocks_taken w.lag w.loads command afters
  blocks-then =
      let tick = burst_end command + w.lag in
      ap (blocks_now w.lag w.plan w.loads w.outside w.absent (x ∷ (ticks ++ past))) known
      ∙ beside-filter_map Told (took_in w.lag w.plan w.loads w.outside w.absent (x ∷ (ticks ++ past)) tick)
      (λ y. option_map (delivered tick c (after_command w.lag w.loads command y)) (after_command w.lag w.loads command y).taken)
      (present_stations w.lag w.plan w.loads w.outside w.absent) stations told (λ st y is. elim is [
        | inl own ↦ ap (took_in w.lag w.plan w.loads w.outside w.absent (x ∷ (ticks ++ past)) tick) own.0
            ∙ took-none w.lag w.plan w.loads w.outside w.absent past place holder holder (x ∷ (ticks ++ past)) tick
            (unheard-takes w.lag holder (starts w.plan holder) w.loads w.outside x (ticks ++ past)
            (heard-nothing w.lag holder (starts w.plan holder) w.loads w.outside (x ∷ (ticks ++ past)) holds-later))
            ∙ sym (ap (λ (a : After). option_map (delivered tick c a) a.taken) own.2)
        | inr other ↦ other.3.took
      ])
      ∙ sym (filter_map-map (λ (a : After). option_map (delivered tick c a) a.taken) (after_command w.lag w.loads command) stations)

  bursts-then : bursts w.lag (x ∷ (ticks ++ past)) ≡ bursts w.lag past ++ map burst_found (command ∷ [])
  bursts-then =
      let ticks_are : part_ticks hits words ≡ 40 * length (struck hits words) + 0 = omega arith in
      part-bursts w now s hits lag rested.spent rested.rests (rested.fresh (other_of c)) some x ticks driven sent whole alone
      ∙ ap (λ n. bursts w.lag past ++ (record { channel = c; burst = record { first = length past; ticks = n; slots = struck hits words } } ∷ [])) ticks_are

  -- the attempt that ended, if no answer is expected
  others-end : (other : ℕ) (station : StationData) → slice_get w.plan.stations other ≡ Some station → other ≢ place → is_present w.absent station ≡ true →
      ended_by w.lag w.plan w.loads w.outside w.absent (x ∷ (ticks ++ past)) (length (ticks ++ past)) station ≡ []
  others-end other station there apart present = elim (cases_eq other rested.before) [
    | inl own ↦ (let here : slice_get w.plan.stations rested.before ≡ Some station = ap (slice_get w.plan.stations) (sym own) ∙ there in
        let is : rested.offerer ≡ station = same_Some rested.offerer station (sym rested.offerer_at.there ∙ here) in
        subst (λ st. ended_by w.lag w.plan w.loads w.outside w.absent (x ∷ (ticks ++ past)) (length (ticks ++ past)) st ≡ []) is
        (ap (attempts_ended w rested.offerer (length (ticks ++ past))) (offerer-course ∙ sym offerer-ticks)
        ∙ no-attempts w rested.offerer (ticks ++ past) (length (ticks ++ past)) (omega arith)))
    | inr aside ↦ (let at : IsPresentAt w other station = record { there = there; present = present } in
        ap (attempts_ended w station (length (ticks ++ past))) (heard-of other station at apart aside).course
        ∙ no-attempts w station past (length (ticks ++ past)) (omega (arith, count-before)))
  ]

  abbrev Ends : Option Shape → Type 0
  Ends shape =
      attempt_at w.lag w.plan w.loads w.outside w.absent holder.terminal.address (length (ticks ++ past)) (course_of w holder (x ∷ (ticks ++ past))).ended
      ≡ ended_with_command holder.terminal.address begun (burst_end command + w.lag) shape

  holder-ends : (shape : Option Shape) → (answers_of entry.item.kind).first ≡ shape → Ends shape
  holder-ends None none =
      let ending = without_words Sent None None in
      ap (attempts_ended w holder (length (ticks ++ past)))
      (closed.sent none ∙ ap (close (course_of w holder past) begun ending) (ap (λ n. n + w.lag) same-end))
      ∙ ap (λ n. attempts_ended w holder n (close (course_of w holder past) begun ending (burst_end command + w.lag))) known
      ∙ closed-attempts w holder (course_of w holder past) begun ending (burst_end command + w.lag)
  holder-ends (Some shape) expects =
      ap (attempts_ended w holder (length (ticks ++ past))) (closed.waits shape expects).0
      ∙ no-attempts w holder past (length (ticks ++ past)) (omega (arith, count-before))

  abbrev with_it : List Attempt
  with_it = ended_with_command holder.terminal.address begun (burst_end command + w.lag) (answers_of entry.item.kind).first

  closes-then : flat_map (ended_by w.lag w.plan w.loads w.outside w.absent (x ∷ (ticks ++ past)) (length (ticks ++ past)))
      (present_stations w.lag w.plan w.loads w.outside w.absent) ≡ with_it
  closes-then =
      one-gives (is_present w.absent) (ended_by w.lag w.plan w.loads w.outside w.absent (x ∷ (ticks ++ past)) (length (ticks ++ past))) w.plan.stations place
      holder rested.at.there rested.at.present others-end
      ∙ holder-ends (answers_of entry.item.kind).first refl

  next-tick : t + suc m ≡ suc (t + m)
  next-tick = omega arith

  held-then : HoldsAlone w later
  held-then = record {
    place = place;
    holder = holder;
    at = rested.at;
    holds = holds-later;
    others = λ other station at apart. (serves-later other station at apart).serves;
  }

  last : IsOrderly w (t + m)
  last = record {
    alone = sending.drives;
    hands = inl (subst (λ u. HoldsAlone w (shown_at w u)) next-tick
        (subst (HoldsAlone w) (sym (ap (λ (tr : Trace). tr.shown) sending.trace)) held-then));
    goes_on = sending.goes_on;
  }

  passage-then : Passage w t (t + suc m) record {
    blocks = blocks_taken w.lag w.loads command afters;
    bursts = command ∷ [];
    attempts = yielded ++ with_it;
    commands = 1;
  }
  passage-then =
      sent-passes w t m x (ticks ++ past) yielded (blocks_taken w.lag w.loads command afters) command with_it 1 sending.passed sending.before
      (ap (λ (tr : Trace). tr.shown) sending.trace) blocks-then bursts-then closes-then sending.counted last

  quiet-then : quiet_from later ≡ burst_end command
  quiet-then = let both = part-quiet w.lag Command hits words c (x ∷ ticks) past lag fits some whole.shown quiet in omega (arith, both, known)

  known-at : t + suc m ≡ burst_end command + suc w.lag
  known-at = omega (arith, long)

  -- the same with its start as a number
  abbrev Known : ℕ → Type 0
  Known n =
      let b : Begun = begun_at w t n holder entry in
      let shown : ShownBurst = command_at w t n holder entry in
      let all : List After = map (after_command w.lag w.loads shown) stations in
      let u : ℕ = command_known w t n holder entry in
      Underway w (trace_at w u) place holder b.state.channel (burst_end shown) First all
      × Passage w t u record {
        blocks = blocks_taken w.lag w.loads shown all;
        bursts = shown ∷ [];
        attempts = yielded ++ ended_with_command holder.terminal.address b (burst_end shown + w.lag) (answers_of entry.item.kind).first;
        commands = 1;
      }
      × ((answers_of entry.item.kind).first ≡ None → course_of w holder (shown_at w u)
      ≡ close (course_of w holder (shown_at w t)) b (without_words Sent None None) (burst_end shown + w.lag))
      × ((shape : Shape) → (answers_of entry.item.kind).first ≡ Some shape →
      (course_of w holder (shown_at w u) ≡ with_running (course_of w holder (shown_at w t)) b)
      × AwaitsFirst w.lag b (on_channel b.state.channel (shown_at w u)) (burst_end shown))
      × (quiet_from (shown_at w u) ≡ burst_end shown)

  known-start : Known (length past)
  known-start =
      let at = known-at in
      let then_shown : shown_at w (burst_end command + suc w.lag) ≡ later = ap (shown_at w) (sym at) ∙ ap (λ (tr : Trace). tr.shown) sending.trace in (
        subst (λ u. Underway w (trace_at w u) place holder c (burst_end command) First afters) at
            (subst (λ tr. Underway w tr place holder c (burst_end command) First afters) (sym sending.trace) moment-then),
        subst (λ u. Passage w t u record {
          blocks = blocks_taken w.lag w.loads command afters;
          bursts = command ∷ [];
          attempts = yielded ++ with_it;
          commands = 1;
        }) at passage-then,
        λ none. ap (course_of w holder) then_shown ∙ closed.sent none
            ∙ ap (close (course_of w holder past) begun (without_words Sent None None)) (ap (λ n. n + w.lag) same-end),
        λ shape expects. (
          ap (course_of w holder) then_shown ∙ (closed.waits shape expects).0,
          subst (λ p. AwaitsFirst w.lag begun (on_channel c p) (burst_end command)) (sym then_shown)
              (subst (AwaitsFirst w.lag begun (on_channel c later)) same-end (closed.waits shape expects).1),
        ),
        ap quiet_from then_shown ∙ quiet-then,
      )

  pub known-in-doubt : CommandKnown w t holder entry place stations yielded (command_at w t t holder entry ∷ [])
  known-in-doubt =
      let so : Known t = subst Known long known-start in record {
        moment = so.0;
        passage = so.1;
        sent = so.2;
        waits = so.3;
        quiet = so.4;
        last = zero-max (burst_end (command_at w t t holder entry));
        items = items-command holder (course_of w holder (shown_at w t)) w.lag w.loads (command_at w t t holder entry) stations
            (doubt-items w (trace_at w t) place holder stations offer doubt_from accepted rested);
      }

-- a message begins so while the station that offered control doubts: with its first sample that one yields
pub began-in-doubt : (w : Scenario) (t place : ℕ) (holder : StationData) (stations : List Present) (offer : Begun) (x : ℕ) (entry : Entry) → w.lag ≡ 3 →
    IsAccepted w.plan → AreBlocks w.loads → IsEntryOf w.plan holder.terminal.address entry →
    (rested : RestedInDoubt w (trace_at w t) place holder stations offer x) →
    BeginsMessage (course_of w holder (shown_at w t)) (shown_at w t) entry → StaysFrom w t → AreApart stations → Each IsRanged stations →
    MessageBegan w t holder entry place stations (attempt_yielded rested.offerer offer x ∷ []) (command_at w t t holder entry ∷ [])
began-in-doubt w t place holder stations offer x entry lag accepted blocks of rested begins none apart ranged = record {
  lag = lag;
  accepted = accepted;
  entry_of = of;
  none = none;
  apart = apart;
  ranged = ranged;
  blocks = blocks;
  held = begins.holds;
  known = known-in-doubt w t place holder stations offer x entry lag accepted of rested begins none apart;
}
