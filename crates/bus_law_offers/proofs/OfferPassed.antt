-- An offer of control that was accepted, and read so: control passes; or read badly: the offerer doubts, and will yield.
use Rattle.std.proofs.Common.{◌≡◌, inl, inr, ℕ, suc, ◌+◌, true, List, [], ◌∷◌, ◌++◌, length, map, Option, Some, None, refl, sym, ap, ◌∙◌, subst}
use Rattle.std.proofs.lemmas.Bool.{cases_eq}
use Rattle.std.proofs.lemmas.List.{append-nil}
use Rattle.std.proofs.lemmas.Option.{same_Some}
use Rattle.std.specs.Prelude.{not, slice_get}
use Rattle.bus_base.specs.declared.samples.Part.{Part}
use Rattle.bus_base.specs.declared.samples.Part.TheVariants.{First}
use Rattle.bus_formats.specs.Plans.{StationData}
use Rattle.bus_formats.specs.Readings.{read_answer}
use Rattle.bus_formats.specs.Times.{taking_over}
use Rattle.bus_formats.specs.declared.form.Outcome.{Outcome}
use Rattle.bus_formats.specs.declared.form.Outcome.TheVariants.{Passed, BadReply, Yielded}
use Rattle.bus_formats.specs.declared.form.Reading.TheVariants.{Ends}
use Rattle.bus_formats.specs.declared.log.Attempt.{Attempt}
use Rattle.bus_model.specs.Attempts.{Begun, Ended, without_words, is_offer}
use Rattle.bus_model.specs.Course.{Course, close}
use Rattle.bus_model.specs.Endings.{Ending, passed, doubt_ending, abandoned_at}
use Rattle.bus_model.specs.Message.{Present, After, Delivered, Message}
use Rattle.bus_model.specs.Starts.{Entry, starts}
use Rattle.bus_model.specs.Strikes.{ShownBurst, burst_end, ShownAnswer}
use Rattle.bus_model.specs.WorldLog.{present_stations}
use Rattle.bus_law_control.proofs.Passing.{closed-serves}
use Rattle.bus_law_messages.specs.Settled.{IsServing}
use Rattle.bus_law_moments.specs.Begun.{MessageBegan}
use Rattle.bus_law_moments.specs.Doubts.{IsInDoubt, present_in_doubt, yielded_station, RestedInDoubt}
use Rattle.bus_law_moments.specs.Told.{message_at, attempt_at, stations_after, stations_passed, MessageShows, ControlPassed, ControlYielded}
use Rattle.bus_law_offers.specs.Passing.{HoldsToEnd, AcceptOver}
use Rattle.bus_law_offers.proofs.DoubtStations.{seen-own, seen-other}
use Rattle.bus_law_offers.proofs.AcceptPasses.{IsAcceptedBy}
use Rattle.bus_law_offers.proofs.OfferAccepted as accepted
use Rattle.bus_law_offers.proofs.OfferAccepted.{opens, command, ordered, from_start, d, x, over_at, settled, blocks, items, message-is, after-is, over-later}
use Rattle.bus_law_offers.proofs.OfferDue.{expects-so, course-first, waits-first, awaits-first, begins-first}
use Rattle.bus_law_offers.proofs.OfferDoubting.{read-by-controller, due-early, doubts-longer, left-running, in-doubt}
use Rattle.bus_law_offers.proofs.OfferHolding.{holds-passing, holds-doubting}
use Rattle.bus_law_offers.proofs.OfferTable.{OfferIs, ends-passed, ends-badly}
use Rattle.bus_law_offers.proofs.PassedStations.{passed-are}
use Rattle.bus_law_offers.proofs.UnheardFree.{unheard-serving}
use Rattle.bus_law_phases.specs.Answers.{burst_read}
use Rattle.bus_law_phases.specs.Commands.{attempt_recorded}
use Rattle.bus_law_phases.specs.Passages.{Passage}
use Rattle.bus_law_phases.specs.Rests.{Rested}
use Rattle.bus_law_phases.specs.Scenarios.{Scenario, trace_at, shown_at, course_of, present_of}
use Rattle.bus_law_phases.proofs.AnswerBegun.{addresses-apart}
use Rattle.bus_law_phases.proofs.AnswerHolders.{closed-attempts, no-attempts}
use Rattle.bus_law_stations.specs.Messages.{with_running}
use Rattle.bus_law_stations.specs.Turns.{Serves}
use Rattle.bus_law_table.specs.Stations.{loaded_at}
use Rattle.bus_law_told.specs.Told.{answer_shown}

module _ (w : Scenario) (t place : ℕ) (holder : StationData) (stations : List Present) (entry : Entry) (ended : List Attempt) (found : List ShownBurst)
    (began : MessageBegan w t holder entry place stations ended found) (first : ShownAnswer)
    (shows : answer_shown w t holder stations entry ≡ Some first) (offers : is_offer entry.item.kind ≡ true)
    (stays : abandoned_at w.lag entry.item.kind entry.item.abandon (burst_end (command w t place holder stations entry ended found began first shows offers)) first ≡ None)
    (accepts : first.sent.acceptance ≡ true) where
  abbrev begun : Begun
  begun = opens w t place holder stations entry ended found began first shows offers

  abbrev cmd : ShownBurst
  cmd = command w t place holder stations entry ended found began first shows offers

  abbrev obeyed : List After
  obeyed = ordered w t place holder stations entry ended found began first shows offers

  abbrev start : Course
  start = from_start w t place holder stations entry ended found began first shows offers

  abbrev due : ℕ
  due = first.sent.start

  abbrev e : ℕ
  e = burst_end first.burst

  abbrev over : ℕ
  over = burst_end first.burst + suc w.lag

  abbrev afters : List After
  afters = settled w t place holder stations entry ended found began first shows offers

  abbrev taken : List Delivered
  taken = blocks w t place holder stations entry ended found began first shows offers

  abbrev m : Message
  m = message_at w t holder stations entry

  abbrev Is : Ending → Type 0
  Is ending = OfferIs (message_at w t holder stations entry) ending afters taken (cmd ∷ first.burst ∷ [])

  course-due : course_of w holder (shown_at w first.sent.start) ≡ with_running start begun
  course-due = course-first w t place holder stations entry ended found began first shows

  -- control passes to the one that accepted
  passes-so : (later : Course) (controls : HoldsToEnd w (shown_at w first.sent.start) holder begun.state.channel first.hits first.sent.words (burst_read first.burst) later)
      (outcome : Outcome) (status : Option ℕ) (tick : ℕ) → Is (passed outcome status tick first) →
      m.ending.passes ≡ Some record {
        address = (accepted.by w t place holder stations entry ended found began first shows offers accepts later controls).answering.terminal.address;
        tick = e + taking_over;
      }
  passes-so later controls outcome status tick is =
      ap (λ (en : Ending). en.passes) is.ending_is
      ∙ ap (λ a. Some (record { address = a; tick = e + taking_over }))
      (sym (accepted.by w t place holder stations entry ended found began first shows offers accepts later controls).address)

  -- what comes to pass by the message
  shows-with : (ending : Ending) → Is ending → (attempts : List Attempt) →
      Passage w t over record { blocks = taken; bursts = found ++ first.burst ∷ []; attempts = attempts; commands = 1 } →
      MessageShows w t holder stations entry over found attempts
  shows-with ending is attempts passage = record {
    later = over-later w t place holder stations entry ended found began first shows offers;
    answers = first.burst ∷ [];
    bursts_are = is.bursts_are;
    passage = subst (λ bs. Passage w t over record { blocks = bs; bursts = found ++ first.burst ∷ []; attempts = attempts; commands = 1 }) (sym is.blocks_are) passage;
  }

  -- ---- it reads that

  module _ (status : Option ℕ) (reading : read_answer entry.item.kind First first.burst.slots first.burst.rest ≡ Ends Passed status) where
    abbrev ended_so : Ended
    ended_so = without_words Passed status None

    abbrev later : Course
    later = close (course_of w holder (shown_at w due)) begun ended_so (e + w.lag)

    controls : HoldsToEnd w (shown_at w first.sent.start) holder begun.state.channel first.hits first.sent.words (burst_read first.burst) later
    controls =
        holds-passing w (shown_at w due) holder begun (burst_end cmd) first (awaits-first w t place holder stations entry ended found began first shows)
        (begins-first w t place holder stations entry ended found began first shows) stays
        (waits-first w t place holder stations entry ended found began first shows) status (read-by-controller w t place holder stations entry ended found began first shows offers (Ends Passed status) reading)

    is : Is (passed Passed status (e + w.lag) first)
    is =
        message-is w t place holder stations entry ended found began first shows offers (passed Passed status (e + w.lag) first)
        (ends-passed w.lag entry.item (burst_end cmd) (expects-so w t place holder stations entry ended found began first shows).0 first status stays
        (expects-so w t place holder stations entry ended found began first shows).1 reading) refl

    abbrev by : IsAcceptedBy w first.sent.start place holder cmd obeyed first later
    by = accepted.by w t place holder stations entry ended found began first shows offers accepts later controls

    attempts-so : ended ++ attempt_recorded holder.terminal.address begun ended_so (e + w.lag) ∷ [] ≡ ended ++ attempt_at w t holder stations entry ∷ []
    attempts-so = ap (λ (en : Ending). ended ++ attempt_recorded holder.terminal.address begun en.ended en.tick ∷ []) (sym is.ending_is)

    left-so : course_of w holder (shown_at w over) ≡ close (with_running start begun) begun ended_so (e + w.lag)
    left-so = by.over.left.course ∙ ap (λ (c : Course). close c begun ended_so (e + w.lag)) course-due

    -- the one that offered it serves
    holder-serving : IsServing w.lag holder (starts w.plan holder) w.loads w.outside (shown_at w over)
    holder-serving =
        unheard-serving w (shown_at w over) holder
        (subst Serves (sym by.over.left.course) (closed-serves (course_of w holder (shown_at w due)) begun ended_so (e + w.lag) refl)) by.over.left.nothing

    are-so : map (λ st. present_of w st (shown_at w over)) (present_stations w.lag w.plan w.loads w.outside w.absent)
        ≡ map (loaded_at w.loads (length (shown_at w over)))
        (stations_passed holder.terminal.address by.answering.terminal.address (stations_after w t holder stations entry))
    are-so =
        passed-are w (shown_at w over) place holder by.answerer by.answering cmd.channel e afters began.accepted
        (accepted.holder-at w t place holder stations entry ended found began first shows offers accepts later controls) by.at by.apart start
        (items w t place holder stations entry ended found began first shows offers) by.over.stations begun Passed (λ st. present_of w st (shown_at w over))
        (ap (λ (c : Course). record { plan = holder; memory = (present_of w holder (shown_at w over)).memory; left = c.left; live = c.live; serves = not c.holds }) left-so)
        (λ other station at away. refl)
        ∙ ap (λ ss. map (loaded_at w.loads (length (shown_at w over))) (stations_passed holder.terminal.address by.answering.terminal.address ss))
        (sym (after-is w t place holder stations entry ended found began first shows offers (passed Passed status (e + w.lag) first) is))

    rested-so : Rested w (trace_at w over) by.answerer by.answering
        (stations_passed holder.terminal.address by.answering.terminal.address (stations_after w t holder stations entry))
    rested-so = record {
      rests = by.over.quiet_then.rests;
      fresh = by.over.fresh;
      spent = by.over.quiet_then.spent;
      at = by.at;
      holds = accepted.taker-holds w t place holder stations entry ended found began first shows offers accepts later controls;
      idle = accepted.taker-idle w t place holder stations entry ended found began first shows offers accepts later controls;
      others = λ other station at aside. elim (cases_eq other place) [
        | inl same ↦ (let there = accepted.holder-at w t place holder stations entry ended found began first shows offers accepts later controls in
            let here : slice_get w.plan.stations place ≡ Some station = ap (slice_get w.plan.stations) (sym same) ∙ at.there in
            let own : holder ≡ station = same_Some holder station (sym there.there ∙ here) in
            subst (λ st. IsServing w.lag st (starts w.plan st) w.loads w.outside (shown_at w over)) own holder-serving)
        | inr away ↦ accepted.other-serving w t place holder stations entry ended found began first shows offers accepts later controls other station at away aside
      ];
      are = are-so;
    }

    pub control-passed : ControlPassed w t holder stations entry place ended found
    unfolding shows-with
    control-passed = record {
      over = over;
      to = by.answerer;
      taker = by.answering;
      tick = e + taking_over;
      passes = passes-so later controls Passed status (e + w.lag) is;
      runs_on = ap (λ (en : Ending). en.runs_on) is.ending_is;
      shows = shows-with (passed Passed status (e + w.lag) first) is (ended ++ attempt_at w t holder stations entry ∷ [])
          (subst (λ atts. Passage w t over record { blocks = taken; bursts = found ++ first.burst ∷ []; attempts = atts; commands = 1 }) attempts-so
          (accepted.passage-with w t place holder stations entry ended found began first shows offers accepts later controls
          (attempt_recorded holder.terminal.address begun ended_so (e + w.lag) ∷ [])
          (closed-attempts w holder (course_of w holder (shown_at w due)) begun ended_so (e + w.lag))));
      taken = accepted.taken-so w t place holder stations entry ended found began first shows offers accepts later controls
          (passed Passed status (e + w.lag) first) is;
      rested = rested-so;
      waits = accepted.waits-so w t place holder stations entry ended found began first shows offers accepts later controls;
    }

  -- ---- it reads it badly

  module _ (part : Part) (status : Option ℕ)
      (reading : read_answer entry.item.kind First first.burst.slots first.burst.rest ≡ Ends (BadReply part) status) where
    abbrev course : Course
    course = course_of w holder (shown_at w due)

    doubting-to : HoldsToEnd w (shown_at w first.sent.start) holder begun.state.channel first.hits first.sent.words (burst_read first.burst) course
    doubting-to =
        holds-doubting w (shown_at w due) holder begun (burst_end cmd) first (awaits-first w t place holder stations entry ended found began first shows)
        (begins-first w t place holder stations entry ended found began first shows) stays
        (waits-first w t place holder stations entry ended found began first shows) part status offers (read-by-controller w t place holder stations entry ended found began first shows offers (Ends (BadReply part) status) reading) (doubts-longer w t place holder stations entry ended found began first shows offers)

    abbrev yields : Ending
    yields = passed Yielded None (e + taking_over) first

    is_yielded : Is (passed Yielded None (e + taking_over) first)
    is_yielded =
        message-is w t place holder stations entry ended found began first shows offers (passed Yielded None (e + taking_over) first)
        (ends-badly w.lag entry.item (burst_end cmd) (expects-so w t place holder stations entry ended found began first shows).0 first part status offers stays
        (expects-so w t place holder stations entry ended found began first shows).1 reading
        ∙ ap (doubt_ending w.lag entry.item.kind first) accepts) refl

    abbrev taker : IsAcceptedBy w first.sent.start place holder cmd obeyed first course
    taker = accepted.by w t place holder stations entry ended found began first shows offers accepts course doubting-to

    abbrev left : AcceptOver w first.sent.start over place holder taker.answerer taker.answering cmd obeyed first.hits first.sent.words first.burst course
    left = taker.over

    left-same : course_of w holder (shown_at w over) ≡ with_running start begun
    left-same =
        left-running w t place holder stations entry ended found began first shows offers stays part status reading left.newest left.ticks left.left.course
        left.shown left.whole left.quiet

    doubts-so : IsInDoubt w (shown_at w over) holder begun e
    doubts-so =
        in-doubt w t place holder stations entry ended found began first shows offers stays part status reading left.newest left.ticks left.left.course left.shown
        left.whole left.quiet

    abbrev seen : StationData → Present
    seen = present_in_doubt w (shown_at w over) holder.terminal.address begun

    are-yielded : map seen (present_stations w.lag w.plan w.loads w.outside w.absent) ≡ map (loaded_at w.loads (length (shown_at w over)))
        (stations_passed holder.terminal.address taker.answering.terminal.address (stations_after w t holder stations entry))
    are-yielded =
        let there = accepted.holder-at w t place holder stations entry ended found began first shows offers accepts course doubting-to in
        passed-are w (shown_at w over) place holder taker.answerer taker.answering cmd.channel e afters began.accepted there taker.at taker.apart start
        (items w t place holder stations entry ended found began first shows offers) taker.over.stations begun Yielded seen
        (seen-own w (shown_at w over) begun holder
        ∙ ap (λ (c : Course). yielded_station begun (record {
          plan = holder;
          memory = (present_of w holder (shown_at w over)).memory;
          left = c.left;
          live = c.live;
          serves = not c.holds;
        })) left-same)
        (λ other station at away. seen-other w (shown_at w over) begun holder.terminal.address station
        (addresses-apart w.plan other place station holder began.accepted at.there there.there away))
        ∙ ap (λ ss. map (loaded_at w.loads (length (shown_at w over))) (stations_passed holder.terminal.address taker.answering.terminal.address ss))
        (sym (after-is w t place holder stations entry ended found began first shows offers (passed Yielded None (e + taking_over) first) is_yielded))

    rested-in-doubt : RestedInDoubt w (trace_at w over) taker.answerer taker.answering
        (stations_passed holder.terminal.address taker.answering.terminal.address (stations_after w t holder stations entry)) begun e
    rested-in-doubt = record {
      rests = taker.over.quiet_then.rests;
      fresh = taker.over.fresh;
      spent = taker.over.quiet_then.spent;
      at = taker.at;
      holds = accepted.taker-holds w t place holder stations entry ended found began first shows offers accepts course doubting-to;
      idle = accepted.taker-idle w t place holder stations entry ended found began first shows offers accepts course doubting-to;
      takes = accepted.taker-opens w t place holder stations entry ended found began first shows offers accepts course doubting-to;
      before = place;
      offerer = holder;
      offerer_at = accepted.holder-at w t place holder stations entry ended found began first shows offers accepts course doubting-to;
      apart = λ same. taker.apart (sym same);
      doubt = doubts-so;
      others = λ other station at aside away.
          accepted.other-serving w t place holder stations entry ended found began first shows offers accepts course doubting-to other station at away aside;
      are = are-yielded;
    }

    pub control-yielded : ControlYielded w t holder stations entry place ended found
    unfolding rested-in-doubt shows-with
    control-yielded = record {
      over = over;
      to = taker.answerer;
      taker = taker.answering;
      x = e;
      passes = passes-so course doubting-to Yielded None (e + taking_over) is_yielded;
      runs_on = ap (λ (en : Ending). en.runs_on) is_yielded.ending_is;
      ended_is = ap (λ (en : Ending). en.ended) is_yielded.ending_is;
      tick_is = ap (λ (en : Ending). en.tick) is_yielded.ending_is;
      shows = shows-with (passed Yielded None (e + taking_over) first) is_yielded ended
          (subst (λ atts. Passage w t over record { blocks = taken; bursts = found ++ first.burst ∷ []; attempts = atts; commands = 1 }) (append-nil ended)
          (accepted.passage-with w t place holder stations entry ended found began first shows offers accepts course doubting-to []
          (no-attempts w holder (shown_at w due) (e + w.lag) (due-early w t place holder stations entry ended found began first shows offers))));
      taken = accepted.taken-so w t place holder stations entry ended found began first shows offers accepts course doubting-to
          (passed Yielded None (e + taking_over) first) is_yielded;
      rested = rested-in-doubt;
      offerer_is = refl;
      waits = accepted.waits-so w t place holder stations entry ended found began first shows offers accepts course doubting-to;
    }
