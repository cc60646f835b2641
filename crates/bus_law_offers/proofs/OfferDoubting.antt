-- An offer of control that was answered badly, its answer over: its station doubts, whoever accepted.
use Rattle.std.proofs.Common.{◌≡◌, ℕ, suc, ◌+◌, ◌<◌, ◌≤◌, true, List, ◌∷◌, ◌++◌, length, Option, Some, None, sym, ap, ◌∙◌, subst, arith}
use Rattle.bus_base.specs.declared.samples.Pair.{Pair}
use Rattle.bus_base.specs.declared.samples.Part.{Part}
use Rattle.bus_base.specs.declared.samples.Part.TheVariants.{First}
use Rattle.bus_line.specs.Past.{rest_of}
use Rattle.bus_line.specs.Channels.{on_channel}
use Rattle.bus_formats.specs.Plans.{StationData}
use Rattle.bus_formats.specs.Readings.{read_answer}
use Rattle.bus_formats.specs.Times.{doubting}
use Rattle.bus_formats.specs.declared.form.Outcome.TheVariants.{BadReply}
use Rattle.bus_formats.specs.declared.form.Reading.{Reading}
use Rattle.bus_formats.specs.declared.form.Reading.TheVariants.{Ends}
use Rattle.bus_formats.specs.declared.log.Attempt.{Attempt}
use Rattle.bus_model.specs.Attempts.{Begun, is_offer}
use Rattle.bus_model.specs.Course.{Course, quiet_from}
use Rattle.bus_model.specs.Endings.{abandoned_at}
use Rattle.bus_model.specs.Message.{Present}
use Rattle.bus_model.specs.Starts.{Entry}
use Rattle.bus_model.specs.Strikes.{ShownBurst, burst_end, ShownAnswer}
use Rattle.bus_law_control.specs.Offers.{IsDoubting}
use Rattle.bus_law_moments.specs.Begun.{MessageBegan}
use Rattle.bus_law_moments.specs.Doubts.{IsInDoubt}
use Rattle.bus_law_offers.proofs.OfferAccepted.{opens, command, from_start, later-on, over-later}
use Rattle.bus_law_offers.proofs.OfferDue.{shown-so, course-first, waits-first, awaits-first, begins-first}
use Rattle.bus_law_offers.proofs.OfferHolding.{doubts-whole}
use Rattle.bus_law_phases.specs.Answers.{burst_read, ShowsWhole}
use Rattle.bus_law_phases.specs.Scenarios.{Scenario, shown_at, course_of}
use Rattle.bus_law_stations.specs.Messages.{with_running}
use Rattle.bus_law_told.specs.Told.{answer_shown}
use Rattle.bus_law_told.proofs.FirstShown.{same-rest}
use Rattle.bus_law_phases.proofs.Staying.{long-later}

module _ (w : Scenario) (t place : ℕ) (holder : StationData) (stations : List Present) (entry : Entry) (ended : List Attempt) (found : List ShownBurst)
    (began : MessageBegan w t holder entry place stations ended found) (first : ShownAnswer)
    (shows : answer_shown w t holder stations entry ≡ Some first) (offers : is_offer entry.item.kind ≡ true) where
  abbrev begun : Begun
  begun = opens w t place holder stations entry ended found began first shows offers

  abbrev cmd : ShownBurst
  cmd = command w t place holder stations entry ended found began first shows offers

  abbrev over : ℕ
  over = burst_end first.burst + suc w.lag

  abbrev due : ℕ
  due = first.sent.start

  -- the controller reads the slots of the table
  pub read-by-controller : (reading : Reading) → read_answer entry.item.kind First first.burst.slots first.burst.rest ≡ reading →
      read_answer entry.item.kind First first.burst.slots (rest_of (burst_read first.burst)) ≡ reading
  read-by-controller reading is =
      ap (read_answer entry.item.kind First first.burst.slots)
      (same-rest first.burst (shown-so w t place holder stations entry ended found began first shows).rest) ∙ is

  -- the answer begins before its end is known
  pub due-early : length (shown_at w first.sent.start) ≤ burst_end first.burst + w.lag
  due-early =
      let so = shown-so w t place holder stations entry ended found began first shows in
      let same = so.start in
      let long : length (shown_at w due) ≡ due = long-later w t due (later-on w t place holder stations entry ended found began first shows offers) began.none in omega (arith, same, long)

  pub doubts-longer : suc w.lag < doubting
  doubts-longer = let lag = began.lag in omega (arith, lag)

  module _ (stays : abandoned_at w.lag entry.item.kind entry.item.abandon
      (burst_end (command w t place holder stations entry ended found began first shows offers)) first ≡ None) (part : Part) (status : Option ℕ)
      (reading : read_answer entry.item.kind First first.burst.slots first.burst.rest ≡ Ends (BadReply part) status) (x : Pair) (ticks : List Pair)
      (course_is : course_of w holder (shown_at w (burst_end first.burst + suc w.lag)) ≡ course_of w holder (shown_at w first.sent.start))
      (shown : shown_at w (burst_end first.burst + suc w.lag) ≡ x ∷ (ticks ++ shown_at w first.sent.start))
      (whole : ShowsWhole w.lag (command w t place holder stations entry ended found began first shows offers).channel (burst_read first.burst)
      (shown_at w first.sent.start) x ticks) (quiet : quiet_from (shown_at w (burst_end first.burst + suc w.lag)) ≡ burst_end first.burst) where
    -- its message still runs
    pub left-running : course_of w holder (shown_at w (burst_end first.burst + suc w.lag))
        ≡ with_running (from_start w t place holder stations entry ended found began first shows offers)
        (opens w t place holder stations entry ended found began first shows offers)
    left-running = course_is ∙ course-first w t place holder stations entry ended found began first shows

    pub in-doubt : IsInDoubt w (shown_at w (burst_end first.burst + suc w.lag)) holder
        (opens w t place holder stations entry ended found began first shows offers) (burst_end first.burst)
    in-doubt =
        let lag = began.lag in
        let long : length (shown_at w over) ≡ over = long-later w t over (let up = over-later w t place holder stations entry ended found began first shows offers in omega (arith, up)) began.none in record {
          holds = ap (λ (c : Course). c.holds) left-running ∙ began.held;
          runs = ap (λ (c : Course). c.runs) left-running;
          doubts = subst (λ p. IsDoubting w.lag begun (on_channel begun.state.channel p) (burst_end first.burst)) (sym shown)
              (doubts-whole w (shown_at w due) holder begun (burst_end cmd) first (awaits-first w t place holder stations entry ended found began first shows)
              (begins-first w t place holder stations entry ended found began first shows) stays
              (waits-first w t place holder stations entry ended found began first shows) part status offers
              (read-by-controller (Ends (BadReply part) status) reading) doubts-longer x ticks whole);
          quiet = quiet;
          known = omega (arith, long);
          early = omega (arith, long, lag);
        }
