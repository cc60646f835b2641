-- The first answer ends its message, and nobody owes anything after it: the message is told.
use Rattle.std.proofs.Common.{◌≡◌, ℕ, suc, ◌+◌, ◌≤◌, List, [], ◌∷◌, ◌++◌, Some, ap, ◌∙◌, subst, arith, All}
use Rattle.bus_base.specs.declared.samples.Part.TheVariants.{Second}
use Rattle.bus_formats.specs.Forms.{answers_of}
use Rattle.bus_formats.specs.Plans.{StationData}
use Rattle.bus_formats.specs.declared.form.Shape.{Shape}
use Rattle.bus_model.specs.Attempts.{Begun, Ended}
use Rattle.bus_model.specs.Course.{Course, close}
use Rattle.bus_model.specs.Message.{Present, After, Delivered}
use Rattle.bus_model.specs.Orders.{free}
use Rattle.bus_model.specs.Starts.{Entry, needed_quiet}
use Rattle.bus_model.specs.Strikes.{ShownBurst, burst_end, ShownAnswer}
use Rattle.bus_law_stations.specs.Messages.{with_running}
use Rattle.bus_law_phases.specs.Answers.{burst_read, HoldsBesideShown}
use Rattle.bus_law_phases.specs.Commands.{attempt_recorded}
use Rattle.bus_law_phases.specs.Passages.{Happening}
use Rattle.bus_law_phases.specs.Scenarios.{Scenario, shown_at, course_of}
use Rattle.bus_law_phases.proofs.AnswerHolders.{closed-attempts}
use Rattle.bus_law_told.specs.Holders.{closed_with}
use Rattle.bus_law_told.specs.Tables.{MessageIs, first_shown, answer_blocks}
use Rattle.bus_law_moments.specs.Told.{message_at, MessageTold}
use Rattle.bus_law_told.proofs.Coming.{Came}
use Rattle.bus_law_told.proofs.Ending.{EndsPlainly, told}
use Rattle.bus_law_told.proofs.FirstShown.{settled_first, shown-so, over-first, came-after-first, found}
use Rattle.bus_law_told.proofs.FirstAnswer.{declines}
use Rattle.bus_law_told.proofs.FirstDue as due
use Rattle.bus_law_told.proofs.Known.{BeginsKept, c0, begun, command, attempt_begun}
use Rattle.bus_law_told.proofs.TablesQuiet.{quiet-more}

module _ (w : Scenario) (t place : ℕ) (holder : StationData) (stations : List Present) (entry : Entry) (b : BeginsKept w t place holder stations entry)
    (shape : Shape) (expects : (answers_of entry.item.kind).first ≡ Some shape) (first : ShownAnswer)
    (shows : first_shown w.lag w.loads w.plan.faults (attempt_begun w t holder stations entry) entry.item (begun w t holder stations entry).state.channel t
    stations ≡ Some first) where
  abbrev start : Course
  start = c0 w t holder stations entry

  abbrev opened : Begun
  opened = begun w t holder stations entry

  abbrev cmd : ShownBurst
  cmd = command w t holder stations entry

  abbrev x : ℕ
  x = burst_end first.burst

  abbrev past_due : ℕ
  past_due = first.sent.start

  abbrev pub settled_now : List After
  settled_now = settled_first w t place holder stations entry b.base shape expects first shows

  abbrev pub blocks_now : List Delivered
  blocks_now =
      answer_blocks w.lag w.loads w.plan.faults (attempt_begun w t holder stations entry) entry.item opened.state.channel t stations first

  -- the first answer follows the command
  pub after-command : burst_end cmd ≤ first.burst.start
  after-command =
      let so = shown-so w t place holder stations entry b.base shape expects first shows in
      let same = so.start in let after = so.sent.after in omega (arith, same, after)

  course-due : course_of w holder (shown_at w past_due) ≡ with_running start opened
  course-due =
      due.course-first w t place holder stations entry b.base shape expects first.sent (found w t place holder stations entry b.base shape expects first shows)
      (shown-so w t place holder stations entry b.base shape expects first shows).sent

  module _ (ended : Ended) (beside : HoldsBesideShown w (shown_at w past_due) holder cmd.channel first.hits first.sent.words (burst_read first.burst)
      (closed_with w (shown_at w past_due) holder cmd.channel opened (burst_read first.burst) ended)) where
    abbrev later_course : Course
    later_course = close (course_of w holder (shown_at w past_due)) opened ended (x + w.lag)

    abbrev pub happened : Happening
    happened = record {
      blocks = blocks_now;
      bursts = b.base.found ++ first.burst ∷ [];
      attempts = b.base.ended ++ attempt_recorded holder.terminal.address opened ended (x + w.lag) ∷ [];
      commands = 1;
    }

    pub came-closed : Came w t place holder start (x + suc w.lag) cmd.channel x Second settled_now happened
    came-closed =
        subst (λ atts. Came w t place holder start (x + suc w.lag) cmd.channel x Second settled_now record {
          blocks = blocks_now;
          bursts = b.base.found ++ first.burst ∷ [];
          attempts = b.base.ended ++ atts;
          commands = 1;
        }) (closed-attempts w holder (course_of w holder (shown_at w past_due)) opened ended (x + w.lag))
        (came-after-first w t place holder stations entry b.base shape expects first shows
        (declines w t place holder stations entry b shape expects first shows) later_course beside)

    pub course-closed : course_of w holder (shown_at w (x + suc w.lag)) ≡ close start opened ended (x + w.lag)
    course-closed =
        (over-first w t place holder stations entry b.base shape expects first shows
        (declines w t place holder stations entry b shape expects first shows) later_course beside).course
        ∙ ap (λ c. close c opened ended (x + w.lag)) course-due

    pub free-told : All (λ after. after.duty ≡ free) settled_now →
        MessageIs (message_at w t holder stations entry) ended (x + w.lag) settled_now blocks_now (cmd ∷ first.burst ∷ []) →
        suc w.lag ≤ needed_quiet ended.outcome → EndsPlainly (begun w t holder stations entry) ended (x + w.lag) →
        MessageTold w t holder stations entry place b.base.ended b.base.found
    free-told free-all is soon plainly =
        let after = after-command in
        told w t place holder stations entry b.base.began.accepted b.base.began.none b.base.ended b.base.found (x + suc w.lag) cmd.channel x Second settled_now blocks_now
        (first.burst ∷ []) ended (x + w.lag)
        came-closed free-all course-closed b.base.began.held is (quiet-more b.base.found (burst_end cmd) first.burst b.base.began.known.last after-command)
        (omega (arith, after)) (omega (arith, soon))
        plainly
