-- The first command of a station that took control is sent, and its end becomes known, where the one that offered it yielded to it: every station is what the
-- message table says.
use Rattle.std.proofs.Common.{◌≡◌, ◌≢◌, ◌⊎◌, inl, inr, ℕ, suc, ◌+◌, ◌%◌, ◌<◌, ◌≤◌, true, false, List, [], ◌∷◌, ◌++◌, length, map, Some, refl, sym, ap, ◌∙◌, subst, arith, length-append}
use Rattle.std.proofs.lemmas.Bool.{cases_eq}
use Rattle.std.proofs.lemmas.Option.{same_Some}
use Rattle.std.specs.Prelude.{slice_get, not}
use Rattle.bus_base.specs.Samples.{other_of}
use Rattle.bus_base.specs.declared.samples.Channel.{Channel}
use Rattle.bus_base.specs.declared.samples.Drive.{Drive}
use Rattle.bus_base.specs.declared.samples.Drive.TheVariants.{Silent}
use Rattle.bus_base.specs.declared.samples.Pair.{Pair}
use Rattle.bus_base.specs.declared.samples.Part.TheVariants.{Command, First}
use Rattle.bus_words.specs.declared.word.Word.{Word}
use Rattle.bus_line.specs.Past.{quiet_ticks, ended_now}
use Rattle.bus_line.specs.Channels.{on_channel}
use Rattle.bus_formats.specs.Accepted.{HasStationRanges, IsAccepted}
use Rattle.bus_formats.specs.Forms.{answers_of, command_words}
use Rattle.bus_formats.specs.Plans.{StationData}
use Rattle.bus_formats.specs.Times.{doubting}
use Rattle.bus_formats.specs.declared.fault.Hit.{Hit}
use Rattle.bus_formats.specs.declared.log.Attempt.{Attempt}
use Rattle.bus_model.specs.Attempts.{Begun}
use Rattle.bus_model.specs.Course.{Course}
use Rattle.bus_model.specs.Memory.{with_loads}
use Rattle.bus_model.specs.Message.{Present, After, unmoved, after_command}
use Rattle.bus_model.specs.Starts.{Entry, starts}
use Rattle.bus_model.specs.Strikes.{ShownBurst, hits_on, burst_end}
use Rattle.bus_model.specs.Sending.{drive_sample}
use Rattle.bus_model.specs.Transmissions.{station_drive}
use Rattle.bus_model.specs.World.{Trace, drives_after}
use Rattle.bus_model.specs.WorldLog.{present_stations}
use Rattle.bus_law_duties.specs.Duties.{AreApart}
use Rattle.bus_law_duties.proofs.OneOwes.{one-owes-at-most}
use Rattle.bus_law_line.specs.Senders.{Sender, attempt_to_come}
use Rattle.bus_law_messages.specs.Commands.{command_sender}
use Rattle.bus_law_messages.specs.Ends.{HeardCommand, SentCommand}
use Rattle.bus_law_messages.proofs.Closing.{sent-command}
use Rattle.bus_law_moments.specs.Doubts.{attempt_yielded, present_in_doubt, yielded_station, RestedInDoubt}
use Rattle.bus_law_offers.specs.Yielding.{course_yielded}
use Rattle.bus_law_offers.proofs.DoubtCommanding.{soon, controls, shows-of, own-drives, others-silent, all-still, all-takes, held, someone-busy, offerer-stays, first-ends}
use Rattle.bus_law_offers.proofs.DoubtStations.{seen-own, other-seen, seen-beside}
use Rattle.bus_law_offers.proofs.SentTicks.{SentTicks, sent-all}
use Rattle.bus_law_offers.proofs.YieldedEnd.{hears-ticks, end-course, end-serves}
use Rattle.bus_law_offers.proofs.YieldedTold.{YieldedTold, yielded-told}
use Rattle.bus_law_parts.specs.Parts.{part_ticks, HitsFit}
use Rattle.bus_law_plans.specs.Entries.{IsEntryOf}
use Rattle.bus_law_stations.specs.Messages.{BeginsMessage, message_begun}
use Rattle.bus_law_stations.specs.Turns.{KeepsControl, Serves}
use Rattle.bus_law_stations.proofs.Resting.{cases-option}
use Rattle.bus_law_table.specs.Stations.{loaded_at}
use Rattle.bus_law_table.proofs.OneStation.{serving_with, serving-is, CommandTold, command-told}
use Rattle.bus_law_table.proofs.Pairing as lists
use Rattle.bus_law_phases.specs.Moments.{IsHolder, IsAfter, Underway}
use Rattle.bus_law_phases.specs.PartRuns.{burst_shown, RunsAlone, IsFirstOf, PartRuns}
use Rattle.bus_law_phases.specs.Scenarios.{Scenario, trace_at, shown_at, driven_at, course_of, present_of, IsPresentAt, NoneTakesFrom, StaysFrom}
use Rattle.bus_law_phases.proofs.AnswerLeft.{holder-left}
use Rattle.bus_law_phases.proofs.CommandFits.{command-hits-fit, command-shows}
use Rattle.bus_law_phases.proofs.CommandServer.{shown_burst, heard-command, server-after}
use Rattle.bus_law_phases.proofs.Kept.{command-kept}
use Rattle.bus_law_phases.proofs.PartEnding.{part-ended, all-quiet, fresh-after, quiet-after}
use Rattle.bus_law_phases.proofs.PartTicks.{one-begins}
use Rattle.bus_law_phases.proofs.Spares.{all-at, beside-into}
use Rattle.bus_law_phases.proofs.Staying.{long-at}

module _ (w : Scenario) (t place : ℕ) (holder : StationData) (stations : List Present) (offer : Begun) (doubt_from : ℕ) (entry : Entry) (lag : w.lag ≡ 3)
    (accepted : IsAccepted w.plan) (of : IsEntryOf w.plan holder.terminal.address entry)
    (rested : RestedInDoubt w (trace_at w t) place holder stations offer doubt_from)
    (begins : BeginsMessage (course_of w holder (shown_at w t)) (shown_at w t) entry) (stays : StaysFrom w t) (separate : AreApart stations) where
  abbrev pub past : List Pair
  past = shown_at w t

  pub long : length (shown_at w t) ≡ t
  long = long-at w t stays

  stays-here : NoneTakesFrom w (length (shown_at w t))
  stays-here = subst (NoneTakesFrom w) (sym long) stays.takes

  abbrev pub begun : Begun
  begun = message_begun (course_of w holder past) entry (length past)

  abbrev pub s : Sender
  s = command_sender place begun

  abbrev pub c : Channel
  c = begun.state.channel

  abbrev pub words : List Word
  words = command_words entry.item.kind

  abbrev pub hits : List Hit
  hits = hits_on w.plan.faults (attempt_to_come w.plan.faults Command (driven_at w t)) Command

  pub fits : HitsFit Command hits words
  fits = command-hits-fit w.plan (attempt_to_come w.plan.faults Command (driven_at w t)) entry.item accepted of.ranges

  pub some : 0 < part_ticks hits words
  some = command-shows hits words fits

  -- the ticks before the last one
  abbrev pub m : ℕ
  m = part_ticks hits words + w.lag

  abbrev pub now : Trace
  now = trace_at w t

  -- the attempt of the offer, which ends with the first tick
  abbrev pub yielded : List Attempt
  yielded = attempt_yielded rested.offerer offer doubt_from ∷ []

  -- ---- the ticks

  own : (ticks : List Pair) → IsFirstOf w.lag c hits words ticks → length ticks < part_ticks hits words + suc w.lag →
      slice_get (drives_after w.lag w.plan w.loads w.outside w.absent (ticks ++ past)) place ≡ Some (drive_sample c Command words (length ticks))
  own ticks alone few = own-drives w now place holder stations offer doubt_from entry lag rested begins stays-here ticks alone.alone

  others : (ticks : List Pair) → IsFirstOf w.lag c hits words ticks → length ticks < part_ticks hits words + suc w.lag → (other : ℕ) → other ≢ place →
      station_drive other (drives_after w.lag w.plan w.loads w.outside w.absent (ticks ++ past)) ≡ Silent
  others ticks alone few = others-silent w now place holder stations offer doubt_from entry lag rested begins stays-here ticks alone.alone

  pub sending : SentTicks w t s hits 1 yielded
  sending =
      sent-all w t s hits lag stays (rested.fresh c place) rested.spent rested.rests refl fits some own others yielded
      (λ y alone. first-ends w now place holder stations offer doubt_from entry lag rested begins stays-here y alone.alone)
      (λ y z ticks alone. all-still w now place holder stations offer doubt_from entry lag rested begins stays-here y z ticks alone.alone)
      (λ y ticks alone. all-takes w now place holder stations offer doubt_from entry lag rested begins stays-here y ticks alone.alone)
      (λ y ticks alone. inl (held w now place holder stations offer doubt_from entry lag rested begins stays-here y ticks alone.alone))
      (λ ticks alone. someone-busy w now place holder stations offer doubt_from entry lag rested begins stays-here ticks alone.alone)
      1 (one-begins w t s hits refl)

  abbrev pub x : Pair
  x = sending.newest

  abbrev pub ticks : List Pair
  ticks = sending.ticks

  abbrev pub driven : List Drive
  driven = sending.driven

  abbrev pub sent : List (List Drive)
  sent = sending.sent

  abbrev pub whole : PartRuns w now s hits (part_ticks hits words + suc w.lag) (x ∷ ticks) (driven ∷ sent)
  whole = sending.whole

  abbrev pub alone : RunsAlone w.lag c ticks
  alone = sending.first.alone

  abbrev pub later : List Pair
  later = (x ∷ ticks) ++ past

  pub many : length ticks ≡ w.lag + part_ticks hits words
  many = let count = sending.many in omega (arith, count)

  abbrev pub command : ShownBurst
  command = shown_burst c (length past) hits words

  pub same-end : length past + part_ticks hits words ≡ burst_end command
  same-end = omega arith

  pub quiet : on_channel (other_of c) (x ∷ ticks) ≡ quiet_ticks (length (x ∷ ticks))
  quiet = all-quiet w now s hits lag rested.spent rested.rests (rested.fresh (other_of c)) some x ticks driven sent whole

  ended : ended_now w.lag (on_channel c (x ∷ (ticks ++ past))) ≡ Some (burst_shown (length past) hits words)
  ended = part-ended w now s hits lag rested.spent rested.rests (rested.fresh (other_of c)) some x ticks driven sent whole

  pub count-before : length (ticks ++ past) ≡ length ticks + length past
  count-before = length-append ticks past

  pub known : length (ticks ++ past) ≡ burst_end command + w.lag
  known = omega (arith, count-before, many)

  -- ---- the station in control

  small : w.lag < 24
  small = omega (arith, lag)

  pub kept : KeepsControl w.lag holder (starts w.plan holder) w.loads w.outside past (x ∷ ticks)
  kept =
      command-kept w.lag holder (starts w.plan holder) w.loads w.outside past entry
      (controls w now place holder stations offer doubt_from entry lag rested begins stays-here) begins small x ticks (burst_shown (length past) hits words)
      (shows-of w now place holder stations offer doubt_from entry lag rested begins stays-here ticks alone) ended

  pub closed : SentCommand w.lag holder (starts w.plan holder) w.loads w.outside past (x ∷ ticks) begun (burst_shown (length past) hits words)
  closed =
      sent-command w.lag holder (starts w.plan holder) w.loads w.outside past entry
      (controls w now place holder stations offer doubt_from entry lag rested begins stays-here) begins small x ticks (burst_shown (length past) hits words)
      (shows-of w now place holder stations offer doubt_from entry lag rested begins stays-here ticks alone) ended (omega (arith, count-before, many))

  pub holds-later : (course_of w holder later).holds ≡ true
  holds-later = elim (cases-option (answers_of entry.item.kind).first) [
    | inl none ↦ ap (λ (d : Course). d.holds) (closed.sent none)
    | inr expects ↦ ap (λ (d : Course). d.holds) (closed.waits expects.0 expects.1).0 ∙ rested.holds
  ]

  -- ---- the others

  prompt : (other : ℕ) (station : StationData) → IsPresentAt w other station → 8 ≤ station.terminal.delay
  prompt other station at = (all-at HasStationRanges w.plan.stations other station accepted.ranges at.there).terminal.delay.0

  pub heard-of : (other : ℕ) (station : StationData) → IsPresentAt w other station → other ≢ place → other ≢ rested.before →
      HeardCommand w.lag station (starts w.plan station) w.loads w.outside past (x ∷ ticks) c (burst_shown (length past) hits words)
  heard-of other station at apart aside =
      heard-command w past x ticks c hits words lag some fits many alone.leg whole.shown quiet stays-here other station at
      (rested.others other station at apart aside) (prompt other station at)

  soon-so : suc (length (shown_at w t)) < doubt_from + doubting
  soon-so = soon w now place holder stations offer doubt_from entry lag rested begins stays-here

  pub offerer-course : course_of w rested.offerer later ≡ course_yielded w past rested.offerer offer
  offerer-course =
      end-course w past rested.offerer offer doubt_from rested.doubt lag soon-so
      (offerer-stays w now place holder stations offer doubt_from entry lag rested begins stays-here) c x ticks hits words some fits many alone whole.shown quiet
      (prompt rested.before rested.offerer rested.offerer_at)

  pub offerer-ticks : course_of w rested.offerer (ticks ++ past) ≡ course_yielded w past rested.offerer offer
  offerer-ticks =
      (hears-ticks w past rested.offerer offer doubt_from rested.doubt lag soon-so
      (offerer-stays w now place holder stations offer doubt_from entry lag rested begins stays-here) c x ticks hits words some fits many alone whole.shown quiet
      (prompt rested.before rested.offerer rested.offerer_at) ticks (omega (arith, many, some)) alone).course

  offerer-serves : Serves (course_of w rested.offerer later)
  offerer-serves =
      end-serves w past rested.offerer offer doubt_from rested.doubt lag soon-so
      (offerer-stays w now place holder stations offer doubt_from entry lag rested begins stays-here) c x ticks hits words some fits many alone whole.shown quiet
      (prompt rested.before rested.offerer rested.offerer_at)

  -- a station as the table has it: the one in control is as it was; another one obeyed the command, or passed over it
  abbrev pub Told : StationData → Present → Type 0
  Told station y =
      ((station ≡ holder) × (present_of w holder past ≡ loaded_at w.loads (length past) y) × (after_command w.lag w.loads command y ≡ unmoved y))
      ⊎ ((other : ℕ) × (other ≢ place) × IsPresentAt w other station × YieldedTold w later station c command y)

  holder-unmoved : (y : Present) → present_of w holder past ≡ loaded_at w.loads (length past) y → after_command w.lag w.loads command y ≡ unmoved y
  holder-unmoved y same = let off : y.serves ≡ false = sym (ap (λ (q : Present). q.serves) same) ∙ ap not rested.holds in rw off refl

  told-server : (other : ℕ) (station : StationData) (y : Present) → IsPresentAt w other station → other ≢ place → other ≢ rested.before →
      present_of w station past ≡ loaded_at w.loads (length past) y → YieldedTold w later station c command y
  told-server other station y at apart aside same =
      let serves = (rested.others other station at apart aside).serves.serves in
      let d = course_of w station past in
      let is : y ≡ serving_with station (course_of w station past) y.memory =
      serving-is station d y.memory y serves (ap (λ (q : Present). record q { memory = y.memory }) same) in
      let told : CommandTold w.lag w.plan w.loads w.outside w.absent past (x ∷ ticks) command station y =
      subst (CommandTold w.lag w.plan w.loads w.outside w.absent past (x ∷ ticks) command station) (sym is)
      (command-told w.lag w.plan w.loads w.outside w.absent past (x ∷ ticks) command station (burst_shown (length past) hits words)
      (heard-of other station at apart aside) serves refl (let none : part_ticks hits words % 40 ≡ 0 = omega arith in none) same-end (ap suc known)
      (omega (arith, same-end)) y.memory
      (ap (λ (q : Present). with_loads q.plan.terminal.address (length past) w.loads y.memory) (sym is) ∙ sym (ap (λ (q : Present). q.memory) same))) in record {
        server = server-after w past x ticks c hits words lag some fits many alone.leg whole.shown quiet stays-here other station at
            (rested.others other station at apart aside) (prompt other station at) y told;
        took = told.took;
      }

  told-offerer : (y : Present) → yielded_station offer (present_of w rested.offerer past) ≡ loaded_at w.loads (length past) y →
      YieldedTold w later rested.offerer c command y
  told-offerer y same =
      yielded-told w past rested.offerer offer doubt_from rested.doubt lag soon-so
      (offerer-stays w now place holder stations offer doubt_from entry lag rested begins stays-here) c x ticks hits words some fits many alone whole.shown quiet
      (prompt rested.before rested.offerer rested.offerer_at) y same

  not-before : place ≢ rested.before
  not-before same = rested.apart (sym same)

  told-one : (other : ℕ) (station : StationData) (y : Present) → IsPresentAt w other station →
      present_in_doubt w past rested.offerer.terminal.address offer station ≡ loaded_at w.loads (length past) y → Told station y
  told-one other station y at same = elim (cases_eq other place) [
    | inl own ↦ (let here : slice_get w.plan.stations place ≡ Some station = ap (slice_get w.plan.stations) (sym own) ∙ at.there in
        let is : station ≡ holder = sym (same_Some holder station (sym rested.at.there ∙ here)) in
        let so : present_of w holder past ≡ loaded_at w.loads (length past) y =
        sym (other-seen w now place holder stations offer doubt_from accepted rested place holder rested.at not-before)
        ∙ ap (present_in_doubt w past rested.offerer.terminal.address offer) (sym is) ∙ same in
        inl (is, so, holder-unmoved y so))
    | inr apart ↦ elim (cases_eq other rested.before) [
      | inl own ↦ (let here : slice_get w.plan.stations rested.before ≡ Some station = ap (slice_get w.plan.stations) (sym own) ∙ at.there in
          let is : rested.offerer ≡ station = same_Some rested.offerer station (sym rested.offerer_at.there ∙ here) in
          let so : yielded_station offer (present_of w rested.offerer past) ≡ loaded_at w.loads (length past) y =
          sym (seen-own w past offer rested.offerer) ∙ ap (present_in_doubt w past rested.offerer.terminal.address offer) is ∙ same in
          inr (other, apart, at, subst (λ st. YieldedTold w later st c command y) is (told-offerer y so)))
      | inr aside ↦ inr (
        other,
        apart,
        at,
        told-server other station y at apart aside (sym (other-seen w now place holder stations offer doubt_from accepted rested other station at aside) ∙ same),
      )
    ]
  ]

  pub told : lists.Beside Told (present_stations w.lag w.plan w.loads w.outside w.absent) stations
  told = seen-beside w now place holder stations offer doubt_from accepted rested Told told-one

  abbrev pub afters : List After
  afters = map (after_command w.lag w.loads command) stations

  after-one : (station : StationData) (y : Present) → Told station y →
      IsAfter w later place holder c (burst_end command) First station (after_command w.lag w.loads command y)
  after-one station y is = elim is [
    | inl own ↦ inl (
      own.0,
      subst (IsHolder w later station) (sym own.2) (subst (λ st. IsHolder w later st (unmoved y)) (sym own.0)
          (holder-left w past (x ∷ ticks) holder rested.holds kept (unmoved y) record {
            plan = sym (ap (λ (p : Present). p.plan) own.1);
            memory = ap (λ (p : Present). p.memory) own.1;
            serves = sym (ap (λ (p : Present). p.serves) own.1) ∙ ap not rested.holds;
            duty = refl;
          })),
    )
    | inr other ↦ inr (other.0, other.1, other.2, other.3.server)
  ]

  pub serves-later : (other : ℕ) (station : StationData) → IsPresentAt w other station → other ≢ place → Serves (course_of w station later)
  serves-later other station at apart = elim (cases_eq other rested.before) [
    | inl own ↦ (let here : slice_get w.plan.stations rested.before ≡ Some station = ap (slice_get w.plan.stations) (sym own) ∙ at.there in
        let is : rested.offerer ≡ station = same_Some rested.offerer station (sym rested.offerer_at.there ∙ here) in
        subst (λ st. Serves (course_of w st later)) is offerer-serves)
    | inr aside ↦ subst Serves (sym (heard-of other station at apart aside).course) (rested.others other station at apart aside).serves
  ]

  pub moment-then : Underway w record { shown = later; driven = (driven ∷ sent) ++ driven_at w t } place holder c (burst_end command) First afters
  moment-then =
      let over = quiet-after w now s hits lag rested.spent rested.rests (rested.fresh (other_of c)) some x ticks driven sent whole in record {
        rests = over.rests;
        fresh = fresh-after w now s hits lag rested.spent rested.rests (rested.fresh (other_of c)) some x ticks driven sent whole;
        spent = over.spent;
        at = rested.at;
        holds = holds-later;
        serves = serves-later;
        stations = beside-into Told (IsAfter w later place holder c (burst_end command) First) (after_command w.lag w.loads command)
            (present_stations w.lag w.plan w.loads w.outside w.absent) stations told after-one;
        one = one-owes-at-most w.lag w.loads c (length past) hits entry.item stations of.ranges.kind separate;
      }
