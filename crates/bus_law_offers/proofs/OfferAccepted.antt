-- An offer of control that was accepted, its answer over: what is so whether the offerer read that or doubts it.
use Rattle.std.proofs.Common.{◌≡◌, ◌≢◌, inl, inr, ℕ, suc, ◌+◌, ◌≤◌, true, List, [], ◌∷◌, ◌++◌, length, map, Some, None, refl, sym, ap, ◌∙◌, subst, arith, All}
use Rattle.std.specs.Prelude.{find}
use Rattle.bus_base.specs.declared.samples.Part.TheVariants.{Second}
use Rattle.bus_formats.specs.Plans.{StationData}
use Rattle.bus_formats.specs.Times.{taking_over}
use Rattle.bus_formats.specs.declared.log.Attempt.{Attempt}
use Rattle.bus_retry.specs.Retries.{next_of}
use Rattle.bus_model.specs.Attempts.{Begun, is_offer}
use Rattle.bus_model.specs.Course.{Course, quiet_from}
use Rattle.bus_model.specs.Endings.{Ending, ending_of}
use Rattle.bus_model.specs.Message.{Present, After, Delivered, after_answer, blocks_taken}
use Rattle.bus_model.specs.Orders.{free}
use Rattle.bus_model.specs.Run.{is_at, with_station, after_attempt, left_at, quiet_after}
use Rattle.bus_model.specs.Starts.{Entry, Opening, starts, taking, planned_at, start_of}
use Rattle.bus_model.specs.Strikes.{ShownBurst, burst_end, ShownAnswer}
use Rattle.bus_model.specs.World.{is_present}
use Rattle.bus_law_messages.specs.Settled.{IsServing, NoneStarts}
use Rattle.bus_law_moments.specs.Begun.{MessageBegan}
use Rattle.bus_law_moments.specs.Told.{message_at, stations_after, HasTaken, WaitsFor}
use Rattle.bus_law_offers.specs.Passing.{HoldsToEnd, IsLeft, AcceptOver}
use Rattle.bus_law_offers.proofs.AcceptPasses.{AcceptBegins, IsAcceptedBy, accept-passes}
use Rattle.bus_law_offers.proofs.OfferDue.{start, opened, cmd, obeyed, attempt, before, numbered, shows-so, shown-so, came-first, goes-first, shows-now}
use Rattle.bus_law_offers.proofs.OfferTable.{OfferIs, offer-free, offer-is}
use Rattle.bus_law_offers.proofs.PassedStations.{taker-left}
use Rattle.bus_law_phases.specs.Answers.{burst_read, attempts_ended}
use Rattle.bus_law_phases.specs.Closings.{HasItemsOf}
use Rattle.bus_law_phases.specs.Moments.{HasDuty}
use Rattle.bus_law_phases.specs.Passages.{Passage}
use Rattle.bus_law_phases.specs.Scenarios.{Scenario, shown_at, course_of, IsPresentAt, StaysFrom}
use Rattle.bus_law_phases.proofs.AnswerBegun.{addresses-apart}
use Rattle.bus_law_phases.proofs.Pairs.{each-of, beside-at}
use Rattle.bus_law_phases.proofs.Passing.{joined}
use Rattle.bus_law_phases.proofs.SilencedItems.{items-answer}
use Rattle.bus_law_stations.specs.Turns.{Serves}
use Rattle.bus_law_told.specs.Tables.{this_message}
use Rattle.bus_law_told.specs.Told.{answer_shown}
use Rattle.bus_law_told.proofs.TablesQuiet.{quiet-more}
use Rattle.bus_law_phases.proofs.Staying.{stays-later, long-later}

module _ (w : Scenario) (t place : ℕ) (holder : StationData) (stations : List Present) (entry : Entry) (ended : List Attempt) (found : List ShownBurst)
    (began : MessageBegan w t holder entry place stations ended found) (first : ShownAnswer)
    (shows : answer_shown w t holder stations entry ≡ Some first) (offers : is_offer entry.item.kind ≡ true) where
  abbrev pub opens : Begun
  opens = opened w t place holder stations entry ended found began first shows

  abbrev pub command : ShownBurst
  command = cmd w t place holder stations entry ended found began first shows

  abbrev pub ordered : List After
  ordered = obeyed w t place holder stations entry ended found began first shows

  abbrev pub from_start : Course
  from_start = start w t place holder stations entry ended found began first shows

  abbrev pub n : ℕ
  n = attempt w t place holder stations entry ended found began first shows

  -- the tick in which its answer begins, and its end
  abbrev pub d : ℕ
  d = first.sent.start

  abbrev pub x : ℕ
  x = burst_end first.burst

  -- the tick after that in which this is known
  abbrev pub over_at : ℕ
  over_at = burst_end first.burst + suc w.lag

  abbrev pub settled : List After
  settled = map (after_answer w.lag w.loads first.burst) ordered

  abbrev pub blocks : List Delivered
  blocks = blocks_taken w.lag w.loads command ordered ++ blocks_taken w.lag w.loads first.burst settled

  -- nobody owes or promises anything after it
  pub all-free : All (λ (after : After). after.duty ≡ free) settled
  all-free =
      offer-free w.lag w.loads w.plan.faults n entry.item opens.state.channel t stations first
      (shows-so w t place holder stations entry ended found began first shows) began.entry_of.ranges.kind offers

  -- the items of the one that offered control are those that it had
  pub items : All (HasItemsOf holder from_start) settled
  items =
      items-answer holder from_start w.lag w.loads first.burst ordered (came-first w t place holder stations entry ended found began first shows).items

  -- the message of the table, by its ending
  pub message-is : (ending : Ending) → ending_of w.lag entry.item (burst_end command) (Some first) None ≡ ending → ending.runs_on ≡ None →
      OfferIs (message_at w t holder stations entry) ending settled blocks (command ∷ first.burst ∷ [])
  message-is ending is none =
      subst (λ i. OfferIs (this_message w.lag w.loads w.plan.faults i entry.item opens.state.channel t stations) ending settled blocks (command ∷ first.burst ∷ []))
      (numbered w t place holder stations entry ended found began first shows)
      (offer-is w.lag w.loads w.plan.faults n entry.item opens.state.channel t stations first
      (shows-so w t place holder stations entry ended found began first shows) began.entry_of.ranges.kind offers ending is none)

  -- .. and the stations after it
  pub after-is : (ending : Ending) → OfferIs (message_at w t holder stations entry) ending settled blocks (command ∷ first.burst ∷ []) →
      stations_after w t holder stations entry ≡ with_station holder.terminal.address
      (after_attempt opens ending.ended.outcome (next_of opens.entry.item opens.state ending.ended.outcome)) (map (λ (a : After). a.station) settled)
  after-is ending is =
      ap (λ ss. with_station holder.terminal.address
      (after_attempt opens (message_at w t holder stations entry).ending.ended.outcome
      (next_of opens.entry.item opens.state (message_at w t holder stations entry).ending.ended.outcome)) ss) is.stations
      ∙ ap (λ (e : Ending). with_station holder.terminal.address (after_attempt opens e.ended.outcome (next_of opens.entry.item opens.state e.ended.outcome))
      (map (λ (a : After). a.station) settled)) is.ending_is

  -- both channels are quiet from the end of the answer on
  follows : burst_end command ≤ first.burst.start
  follows =
      let so = shown-so w t place holder stations entry ended found began first shows in
      let same = so.start in let after = so.sent.after in omega (arith, same, after)

  pub quiet-last : quiet_after (found ++ first.burst ∷ []) ≡ x
  quiet-last = quiet-more found (burst_end command) first.burst began.known.last follows

  pub later-on : t ≤ d
  later-on = (came-first w t place holder stations entry ended found began first shows).passage.later

  pub over-later : suc t ≤ over_at
  over-later =
      let so = shown-so w t place holder stations entry ended found began first shows in
      let same = so.start in let up = later-on in omega (arith, same, up)

  -- nobody takes control by itself
  pub none-from : StaysFrom w d
  none-from = stays-later w t d later-on began.none

  -- ---- it is accepted

  module _ (accepts : first.sent.acceptance ≡ true) (later : Course)
      (controls : HoldsToEnd w (shown_at w first.sent.start) holder opens.state.channel first.hits first.sent.words (burst_read first.burst) later) where
    begins : AcceptBegins w d place holder command ordered first
    begins = record {
      moment = (came-first w t place holder stations entry ended found began first shows).moment;
      shown = shows-now w t place holder stations entry ended found began first shows;
      words = (shown-so w t place holder stations entry ended found began first shows).sent.words;
      due = refl;
      accepts = accepts;
      goes = goes-first w t place holder stations entry ended found began first shows;
    }

    pub by : IsAcceptedBy w first.sent.start place holder command ordered first later
    by = accept-passes w d place holder command ordered first later began.lag began.accepted none-from begins controls

    abbrev pub taker : StationData
    taker = by.answering

    abbrev pub to : ℕ
    to = by.answerer

    abbrev pub done : AcceptOver w first.sent.start over_at place holder by.answerer by.answering command ordered first.hits first.sent.words first.burst later
    done = by.over

    pub holder-at : IsPresentAt w place holder
    holder-at = (came-first w t place holder stations entry ended found began first shows).moment.at

    taker-serves : Serves (course_of w taker (shown_at w d))
    taker-serves = (came-first w t place holder stations entry ended found began first shows).moment.serves to taker by.at by.apart

    -- ---- what came to pass

    pub passage-with : (attempts : List Attempt) → attempts_ended w holder (x + w.lag) later ≡ attempts →
        Passage w t over_at record { blocks = blocks; bursts = found ++ first.burst ∷ []; attempts = ended ++ attempts; commands = 1 }
    passage-with attempts is =
        subst (λ atts. Passage w t over_at record { blocks = blocks; bursts = found ++ first.burst ∷ []; attempts = ended ++ atts; commands = 1 }) is
        (joined w t d over_at (before w t place holder stations entry ended found began first shows) record {
          blocks = blocks_taken w.lag w.loads first.burst settled;
          bursts = first.burst ∷ [];
          attempts = attempts_ended w holder (x + w.lag) later;
          commands = 0;
        } (came-first w t place holder stations entry ended found began first shows).passage done.passed)

    -- ---- the other stations

    pub other-serving : (other : ℕ) (station : StationData) → IsPresentAt w other station → other ≢ place → other ≢ by.answerer →
        IsServing w.lag station (starts w.plan station) w.loads w.outside (shown_at w over_at)
    other-serving other station at away aside =
        let pair = beside-at (IsLeft w (shown_at w over_at) place holder to taker command.channel x) (λ (a : After). a.duty ≡ free) (is_present w.absent)
        w.plan.stations settled other station done.stations (each-of (λ (a : After). a.duty ≡ free) settled all-free) at.there at.present in
        elim pair.1 [
          | inl own ↦ absurd (addresses-apart w.plan other place station holder began.accepted at.there holder-at.there away
              (ap (λ (st : StationData). st.terminal.address) own.0))
          | inr rest ↦ elim rest [
            | inl own ↦ absurd (addresses-apart w.plan other to station taker began.accepted at.there by.at.there aside
                (ap (λ (st : StationData). st.terminal.address) own.0))
            | inr server ↦ subst (HasDuty w (shown_at w over_at) station command.channel x Second) pair.2 server.4.duty
          ]
        ]

    -- ---- the one that took control

    pub taker-holds : (course_of w by.answering (shown_at w over_at)).holds ≡ true
    taker-holds = ap (λ (c : Course). c.holds) done.took.course

    pub taker-idle : (course_of w by.answering (shown_at w over_at)).runs ≡ None
    taker-idle = ap (λ (c : Course). c.runs) done.took.course ∙ taker-serves.idle

    pub taker-opens : (course_of w by.answering (shown_at w over_at)).opening ≡ taking (x + taking_over)
    taker-opens = ap (λ (c : Course). c.opening) done.took.course

    taker-left-is : (course_of w by.answering (shown_at w over_at)).left ≡ (course_of w by.answering (shown_at w d)).left
    taker-left-is = ap (λ (c : Course). c.left) done.took.course

    pub taken-so : (ending : Ending) → OfferIs (message_at w t holder stations entry) ending settled blocks (command ∷ first.burst ∷ []) →
        HasTaken w over_at by.answering (stations_after w t holder stations entry) (x + taking_over)
    taken-so ending is = record {
      opens = taker-opens;
      retry = ap (λ (c : Course). c.retry) done.took.course;
      origin = ap (λ (c : Course). c.origin) done.took.course
          ∙ ap (planned_at (x + taking_over))
          (sym (ap (λ ss. left_at (find (is_at taker.terminal.address) ss)) (after-is ending is)
          ∙ taker-left w (shown_at w over_at) place holder to taker command.channel x settled began.accepted holder-at by.at by.apart from_start items done.stations
          opens ending.ended.outcome (course_of w by.answering (shown_at w d)).left taker-left-is));
    }

    pub waits-so : WaitsFor w t holder stations entry over_at by.answering (found ++ first.burst ∷ [])
    waits-so =
        let lag = began.lag in record {
          quiet = done.quiet ∙ sym quiet-last;
          soon = (let last = quiet-last in omega (arith, last, lag));
          early = none-yet;
        } where
          none-yet : NoneStarts (course_of w by.answering (shown_at w over_at)) (shown_at w over_at) 0
          none-yet next rest left =
              let c : Course = course_of w by.answering (shown_at w over_at) in
              let long : length (shown_at w over_at) ≡ over_at = long-later w d over_at done.passed.later none-from in
              let lag = began.lag in
              subst (λ (o : Opening). length (shown_at w over_at) + 0 ≤ start_of o c.retry c.origin next (quiet_from (shown_at w over_at))) (sym taker-opens)
              (omega (arith, long, lag))
