-- An offer of control that nobody accepted, and of which the answer was read badly: the doubt runs out, and control stays.
use Rattle.std.proofs.Common.{◌≡◌, inl, ℕ, suc, ◌+◌, ◌-◌, ◌≤◌, true, false, List, [], ◌∷◌, ◌++◌, Option, Some, None, refl, ap, ◌∙◌, subst, arith}
use Rattle.std.proofs.lemmas.List.{append-nil}
use Rattle.bus_base.specs.declared.samples.Part.{Part}
use Rattle.bus_base.specs.declared.samples.Part.TheVariants.{First, Second}
use Rattle.bus_formats.specs.Plans.{StationData}
use Rattle.bus_formats.specs.Readings.{read_answer}
use Rattle.bus_formats.specs.Times.{doubting, ending_quiet}
use Rattle.bus_formats.specs.declared.form.Outcome.TheVariants.{BadReply}
use Rattle.bus_formats.specs.declared.form.Reading.TheVariants.{Ends}
use Rattle.bus_formats.specs.declared.log.Attempt.{Attempt}
use Rattle.bus_model.specs.Attempts.{Begun, is_offer}
use Rattle.bus_model.specs.Course.{Course, close, quiet_from}
use Rattle.bus_model.specs.Endings.{Ending, ends, doubt_ending, abandoned_at}
use Rattle.bus_model.specs.Message.{Present, After, Delivered, blocks_taken}
use Rattle.bus_model.specs.Starts.{Entry}
use Rattle.bus_model.specs.Strikes.{ShownBurst, burst_end, ShownAnswer}
use Rattle.bus_law_moments.specs.Begun.{MessageBegan}
use Rattle.bus_law_moments.specs.Doubts.{IsInDoubt}
use Rattle.bus_law_moments.specs.Told.{message_at, MessageTold}
use Rattle.bus_law_offers.proofs.DoubtEnd.{doubt_end}
use Rattle.bus_law_offers.proofs.DoubtOver.{doubt_happens, doubt-ends}
use Rattle.bus_law_offers.proofs.OfferAccepted.{opens, command, ordered, from_start, settled, blocks, all-free, items, message-is, quiet-last, later-on, none-from}
use Rattle.bus_law_offers.proofs.OfferDoubting.{read-by-controller, due-early, doubts-longer, left-running, in-doubt}
use Rattle.bus_law_offers.proofs.OfferDue.{before, shown-so, expects-so, came-first, waits-first, goes-first, awaits-first, begins-first, shows-now}
use Rattle.bus_law_offers.proofs.OfferHolding.{beside-doubting}
use Rattle.bus_law_offers.proofs.OfferTable.{OfferIs, ends-badly}
use Rattle.bus_law_phases.specs.Answers.{AnswerBegins, attempts_ended, AnswerOver}
use Rattle.bus_law_phases.specs.Commands.{attempt_recorded}
use Rattle.bus_law_phases.specs.Moments.{Underway}
use Rattle.bus_law_phases.specs.Passages.{Passage}
use Rattle.bus_law_phases.specs.Scenarios.{Scenario, trace_at, shown_at, course_of}
use Rattle.bus_law_phases.proofs.AnswerHolders.{no-attempts}
use Rattle.bus_law_phases.proofs.AnswerPasses.{answer-passes-shown}
use Rattle.bus_law_phases.proofs.Passing.{joined}
use Rattle.bus_law_stations.specs.Messages.{with_running}
use Rattle.bus_law_told.specs.Tables.{MessageIs}
use Rattle.bus_law_told.specs.Told.{answer_shown}
use Rattle.bus_law_told.proofs.Coming.{Came}
use Rattle.bus_law_told.proofs.Ending.{EndsPlainly, told-then}
use Rattle.bus_law_told.proofs.TablesFree.{free-one}
use Rattle.bus_law_phases.proofs.Staying.{stays-later}

module _ (w : Scenario) (t place : ℕ) (holder : StationData) (stations : List Present) (entry : Entry) (ended : List Attempt) (found : List ShownBurst)
    (began : MessageBegan w t holder entry place stations ended found) (first : ShownAnswer)
    (shows : answer_shown w t holder stations entry ≡ Some first) (offers : is_offer entry.item.kind ≡ true)
    (stays : abandoned_at w.lag entry.item.kind entry.item.abandon (burst_end (command w t place holder stations entry ended found began first shows offers)) first ≡ None)
    (declines : first.sent.acceptance ≡ false) (part : Part) (status : Option ℕ)
    (reading : read_answer entry.item.kind First first.burst.slots first.burst.rest ≡ Ends (BadReply part) status) where
  abbrev begun : Begun
  begun = opens w t place holder stations entry ended found began first shows offers

  abbrev cmd : ShownBurst
  cmd = command w t place holder stations entry ended found began first shows offers

  abbrev start : Course
  start = from_start w t place holder stations entry ended found began first shows offers

  abbrev due : ℕ
  due = first.sent.start

  abbrev x : ℕ
  x = burst_end first.burst

  abbrev over : ℕ
  over = burst_end first.burst + suc w.lag

  -- the tick in which the doubt runs out
  abbrev last : ℕ
  last = burst_end first.burst + suc w.lag + 75

  abbrev afters : List After
  afters = settled w t place holder stations entry ended found began first shows offers

  abbrev taken : List Delivered
  taken = blocks w t place holder stations entry ended found began first shows offers

  -- ---- the answer

  begins : AnswerBegins w first.sent.start place holder First cmd (ordered w t place holder stations entry ended found began first shows offers) first
  begins = record {
    moment = (came-first w t place holder stations entry ended found began first shows).moment;
    part_is = λ same. absurd (cc);
    shown = shows-now w t place holder stations entry ended found began first shows;
    words = (shown-so w t place holder stations entry ended found began first shows).sent.words;
    due = refl;
    declines = declines;
    goes = goes-first w t place holder stations entry ended found began first shows;
    one = free-one afters (all-free w t place holder stations entry ended found began first shows offers);
  }

  abbrev course : Course
  course = course_of w holder (shown_at w first.sent.start)

  answered : AnswerOver w first.sent.start (burst_end first.burst + suc w.lag) place holder cmd
      (ordered w t place holder stations entry ended found began first shows offers) first.burst (course_of w holder (shown_at w first.sent.start))
  answered =
      answer-passes-shown w due place holder First cmd (ordered w t place holder stations entry ended found began first shows offers) first course began.lag
      began.accepted (none-from w t place holder stations entry ended found began first shows offers) begins
      (beside-doubting w (shown_at w due) holder begun (burst_end cmd) first (awaits-first w t place holder stations entry ended found began first shows)
      (begins-first w t place holder stations entry ended found began first shows) stays
      (waits-first w t place holder stations entry ended found began first shows) part status offers
      (read-by-controller w t place holder stations entry ended found began first shows offers (Ends (BadReply part) status) reading)
      (doubts-longer w t place holder stations entry ended found began first shows offers))

  passage-answered : Passage w t over record { blocks = taken; bursts = found ++ first.burst ∷ []; attempts = ended; commands = 1 }
  passage-answered =
      subst (λ atts. Passage w t over record { blocks = taken; bursts = found ++ first.burst ∷ []; attempts = atts; commands = 1 }) (append-nil ended)
      (subst (λ atts. Passage w t over record { blocks = taken; bursts = found ++ first.burst ∷ []; attempts = ended ++ atts; commands = 1 })
      (no-attempts w holder (shown_at w due) (x + w.lag) (due-early w t place holder stations entry ended found began first shows offers))
      (joined w t due over (before w t place holder stations entry ended found began first shows) record {
        blocks = blocks_taken w.lag w.loads first.burst afters;
        bursts = first.burst ∷ [];
        attempts = attempts_ended w holder (x + w.lag) course;
        commands = 0;
      } (came-first w t place holder stations entry ended found began first shows).passage answered.passed))

  -- ---- it doubts

  left-same : course_of w holder (shown_at w (burst_end first.burst + suc w.lag)) ≡ with_running start begun
  left-same =
      left-running w t place holder stations entry ended found began first shows offers stays part status reading answered.newest answered.ticks answered.course
      answered.shown answered.whole answered.quiet

  doubts-so : IsInDoubt w (shown_at w (burst_end first.burst + suc w.lag)) holder begun (burst_end first.burst)
  doubts-so =
      in-doubt w t place holder stations entry ended found began first shows offers stays part status reading answered.newest answered.ticks answered.course
      answered.shown answered.whole answered.quiet

  due-then : t ≤ due
  due-then = later-on w t place holder stations entry ended found began first shows offers

  over-later : t ≤ over
  over-later =
      let so = shown-so w t place holder stations entry ended found began first shows in
      let same = so.start in
      let up = due-then in omega (arith, same, up)

  at-last : suc (burst_end first.burst + suc w.lag + 75) ≡ burst_end first.burst + doubting
  at-last = let lag = began.lag in omega (arith, lag)

  -- ---- the doubt runs out

  out : Underway w (trace_at w (suc (burst_end first.burst + suc w.lag + 75))) place holder cmd.channel (burst_end first.burst) Second afters
      × (course_of w holder (shown_at w (suc last)) ≡ close (course_of w holder (shown_at w over)) begun doubt_end last)
      × (quiet_from (shown_at w (suc last)) ≡ quiet_from (shown_at w over)) × Passage w over (suc last) (doubt_happens holder begun last)
  out =
      doubt-ends w over 75 place holder cmd.channel x Second afters begun x answered.moment
      (all-free w t place holder stations entry ended found began first shows offers) doubts-so at-last (stays-later w t over over-later began.none)

  abbrev answers : List ShownBurst
  answers = first.burst ∷ []

  abbrev attempts : List Attempt
  attempts = attempt_recorded holder.terminal.address begun doubt_end last ∷ []

  passage-out : Passage w t (suc (burst_end first.burst + suc w.lag + 75)) record {
    blocks = taken;
    bursts = found ++ first.burst ∷ [];
    attempts = ended ++ attempt_recorded holder.terminal.address begun doubt_end (burst_end first.burst + suc w.lag + 75) ∷ [];
    commands = 1;
  }
  passage-out =
      subst (λ bs. Passage w t (suc last) record { blocks = bs; bursts = found ++ answers; attempts = ended ++ attempts; commands = 1 }) (append-nil taken)
      (subst (λ bu. Passage w t (suc last) record { blocks = taken ++ []; bursts = bu; attempts = ended ++ attempts; commands = 1 })
      (append-nil (found ++ answers))
      (joined w t over (suc last) record { blocks = taken; bursts = found ++ answers; attempts = ended; commands = 1 } (doubt_happens holder begun last)
      passage-answered out.3))

  came : Came w t place holder start (suc (burst_end first.burst + suc w.lag + 75)) cmd.channel (burst_end first.burst) Second afters record {
    blocks = taken;
    bursts = found ++ first.burst ∷ [];
    attempts = ended ++ attempt_recorded holder.terminal.address begun doubt_end (burst_end first.burst + suc w.lag + 75) ∷ [];
    commands = 1;
  }
  came = record {
    moment = out.0;
    passage = passage-out;
    quiet = out.2 ∙ answered.quiet;
    items = items w t place holder stations entry ended found began first shows offers;
  }

  -- ---- the message of the table

  abbrev ending : Ending
  ending = ends (BadReply First) None None (burst_end first.burst + doubting - 1)

  is-so : OfferIs (message_at w t holder stations entry) ending afters taken (cmd ∷ first.burst ∷ [])
  is-so =
      message-is w t place holder stations entry ended found began first shows offers ending
      (ends-badly w.lag entry.item (burst_end cmd) (expects-so w t place holder stations entry ended found began first shows).0 first part status offers stays
      (expects-so w t place holder stations entry ended found began first shows).1 reading
      ∙ ap (doubt_ending w.lag entry.item.kind first) declines) refl

  same-tick : burst_end first.burst + doubting - 1 ≡ burst_end first.burst + suc w.lag + 75
  same-tick = let lag = began.lag in omega (arith, lag)

  is : MessageIs (message_at w t holder stations entry) doubt_end (burst_end first.burst + suc w.lag + 75) afters taken (cmd ∷ first.burst ∷ [])
  is = record {
    ended_is = ap (λ (en : Ending). en.ended) is-so.ending_is;
    tick_is = ap (λ (en : Ending). en.tick) is-so.ending_is ∙ same-tick;
    passes = ap (λ (en : Ending). en.passes) is-so.ending_is;
    runs_on = ap (λ (en : Ending). en.runs_on) is-so.ending_is;
    stations = is-so.stations;
    blocks_are = is-so.blocks_are;
    bursts_are = is-so.bursts_are;
  }

  closes-so : course_of w holder (shown_at w (suc (burst_end first.burst + suc w.lag + 75)))
      ≡ close (course_of w holder (shown_at w t)) begun doubt_end (burst_end first.burst + suc w.lag + 75)
  closes-so = out.1 ∙ ap (λ (c : Course). close c begun doubt_end last) left-same

  plainly : EndsPlainly begun doubt_end (burst_end first.burst + suc w.lag + 75)
  plainly = record { keeps = refl; opens = refl }

  within : suc (burst_end first.burst + suc w.lag + 75) ≤ burst_end first.burst + ending_quiet
  within = let lag = began.lag in omega (arith, lag)

  pub doubt-told : MessageTold w t holder stations entry place ended found
  doubt-told =
      told-then w t place holder stations entry began.accepted began.none ended found (suc last) cmd.channel x Second afters taken answers doubt_end last came
      (all-free w t place holder stations entry ended found began first shows offers) closes-so began.held is
      (quiet-last w t place holder stations entry ended found began first shows offers) (omega (arith, over-later)) plainly (inl (omega arith)) within
