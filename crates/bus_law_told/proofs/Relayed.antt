-- The first answer of a relay is good, and its second one is awaited.
use Rattle.std.proofs.Common.{◌≡◌, inr, ℕ, suc, ◌+◌, ◌≤◌, false, List, [], ◌∷◌, ◌++◌, length, map, Some, None, refl, sym, ap, ◌∙◌, subst, arith, All}
use Rattle.std.proofs.lemmas.List.{append-nil}
use Rattle.bus_base.specs.Samples.{quiet_pairs}
use Rattle.bus_base.specs.declared.samples.Pair.{Pair}
use Rattle.bus_base.specs.declared.samples.Part.TheVariants.{First, Second}
use Rattle.bus_line.specs.Channels.{on_channel}
use Rattle.bus_formats.specs.Forms.{answers_of}
use Rattle.bus_formats.specs.Plans.{StationData}
use Rattle.bus_formats.specs.Readings.{read_answer}
use Rattle.bus_formats.specs.Times.{no_response, relay_wait}
use Rattle.bus_formats.specs.declared.form.Outcome.TheVariants.{NoResponse}
use Rattle.bus_formats.specs.declared.form.Reading.TheVariants.{Good}
use Rattle.bus_formats.specs.declared.form.Shape.{Shape}
use Rattle.bus_model.specs.Attempts.{Begun, Ended, without_words, is_offer}
use Rattle.bus_model.specs.Course.{Course}
use Rattle.bus_model.specs.Message.{Present, After, Delivered, after_silence}
use Rattle.bus_model.specs.Standing.{is_owed}
use Rattle.bus_model.specs.Starts.{Entry}
use Rattle.bus_model.specs.Strikes.{ShownBurst, burst_end, ShownAnswer}
use Rattle.bus_law_control.proofs.OwnChannel.{second-own}
use Rattle.bus_law_stations.specs.Messages.{with_running}
use Rattle.bus_law_stations.specs.Silence.{AwaitsSecond}
use Rattle.bus_law_phases.specs.Answers.{burst_read, HoldsBesideShown, ShowsWhole, AnswerOver}
use Rattle.bus_law_phases.specs.Commands.{attempt_recorded}
use Rattle.bus_law_phases.specs.Passages.{Happening}
use Rattle.bus_law_phases.specs.Scenarios.{Scenario, shown_at, course_of}
use Rattle.bus_law_phases.proofs.AnswerHolders.{no-attempts}
use Rattle.bus_law_phases.proofs.AnswerKept.{kept-relayed}
use Rattle.bus_law_told.specs.Tables.{MessageIs, first_shown, IsShownTo}
use Rattle.bus_law_moments.specs.Told.{message_at, MessageTold}
use Rattle.bus_law_told.proofs.Coming.{Came}
use Rattle.bus_law_told.proofs.Ending.{told}
use Rattle.bus_law_told.proofs.FirstShown.{shown-so, found, came-first, begins-first, over-first, came-after-first, waits-due, may-abandon, read-alike}
use Rattle.bus_law_told.proofs.FirstAnswer.{stays, declines}
use Rattle.bus_law_told.proofs.FirstClosed.{settled_now, blocks_now, after-command}
use Rattle.bus_law_told.proofs.FirstDue as due
use Rattle.bus_law_told.proofs.Known.{BeginsKept, c0, begun, command, ordered, attempt_begun}
use Rattle.bus_law_told.proofs.TablesQuiet.{quiet-more}
use Rattle.bus_law_told.proofs.Unanswered.{quiet-many, unanswered-came, unanswered-free, unanswered-course}
use Rattle.bus_law_phases.proofs.Staying.{long-later}

-- a second answer is awaited, after a first one with this status
abbrev pub AwaitsAfter : Scenario → List Pair → Begun → ℕ → ℕ → Type 0
AwaitsAfter w past begun e status =
    (v : AwaitsSecond w.lag begun (on_channel begun.state.channel past) e) × (v.status ≡ status)

-- it is awaited on in silence
pub after-silence : (w : Scenario) (past : List Pair) (begun : Begun) (e status n : ℕ) → AwaitsAfter w past begun e status →
    AwaitsAfter w (quiet_pairs n ++ past) begun e status
after-silence w past begun e status n awaits =
    let later = second-own w.lag begun past (quiet_pairs n) e (quiet-many begun.state.channel n) awaits.0 in (later.0, later.1 ∙ awaits.1)

module _ (w : Scenario) (t place : ℕ) (holder : StationData) (stations : List Present) (entry : Entry) (b : BeginsKept w t place holder stations entry)
    (shape : Shape) (expects : (answers_of entry.item.kind).first ≡ Some shape) (first : ShownAnswer)
    (shows : first_shown w.lag w.loads w.plan.faults (attempt_begun w t holder stations entry) entry.item (begun w t holder stations entry).state.channel t
    stations ≡ Some first) (other : Shape) (nexts : (answers_of entry.item.kind).second ≡ Some other) (status : ℕ)
    (reading : read_answer entry.item.kind First first.burst.slots first.burst.rest ≡ Good status) where
  abbrev start : Course
  start = c0 w t holder stations entry

  abbrev opened : Begun
  opened = begun w t holder stations entry

  abbrev cmd : ShownBurst
  cmd = command w t holder stations entry

  abbrev x : ℕ
  x = burst_end first.burst

  abbrev d : ℕ
  d = first.sent.start

  abbrev u : ℕ
  u = x + suc w.lag

  abbrev settled : List After
  settled = settled_now w t place holder stations entry b shape expects first shows

  abbrev blocks : List Delivered
  blocks = blocks_now w t place holder stations entry b shape expects first shows

  pub so : IsShownTo cmd (is_offer entry.item.kind) first
  so = shown-so w t place holder stations entry b.base shape expects first shows

  relayed : HoldsBesideShown w (shown_at w d) holder cmd.channel first.hits first.sent.words (burst_read first.burst) (course_of w holder (shown_at w d))
      × ((now : Pair) (ticks : List Pair) → ShowsWhole w.lag cmd.channel (burst_read first.burst) (shown_at w d) now ticks →
      AwaitsAfter w (now ∷ (ticks ++ shown_at w d)) opened x status)
  relayed =
      let lag = b.base.began.lag in
      kept-relayed w (shown_at w d) holder opened (burst_end cmd) First first (may-abandon w t place holder stations entry b.base shape expects first shows)
      (begins-first w t place holder stations entry b.base shape expects first shows) (stays w t place holder stations entry b shape expects first shows)
      (waits-due w t place holder stations entry b.base shape expects first shows) other status (omega (arith, lag))
      (read-alike w t place holder stations entry b.base shape expects first shows (Good status) reading) nexts

  over : AnswerOver w d u place holder cmd (ordered w t holder stations entry) first.burst (course_of w holder (shown_at w d))
  over = over-first w t place holder stations entry b.base shape expects first shows
      (declines w t place holder stations entry b shape expects first shows) (course_of w holder (shown_at w d)) relayed.0

  -- what happened so far
  abbrev pub relay_happens : Happening
  relay_happens = record { blocks = blocks; bursts = b.base.found ++ first.burst ∷ []; attempts = b.base.ended; commands = 1 }

  pub came-relayed : Came w t place holder start u first.burst.channel x Second settled relay_happens
  came-relayed =
      let many : length (shown_at w d) ≡ d = long-later w t d (came-first w t place holder stations entry b.base shape expects first shows).passage.later b.base.began.none in
      let same = so.start in
      subst (λ c. Came w t place holder start u c x Second settled relay_happens) (sym so.channel)
      (subst (λ atts. Came w t place holder start u cmd.channel x Second settled record {
        blocks = blocks;
        bursts = b.base.found ++ first.burst ∷ [];
        attempts = atts;
        commands = 1;
      }) (ap (λ atts. b.base.ended ++ atts) (no-attempts w holder (shown_at w d) (x + w.lag) (omega (arith, many, same))) ∙ append-nil b.base.ended)
      (came-after-first w t place holder stations entry b.base shape expects first shows
      (declines w t place holder stations entry b shape expects first shows) (course_of w holder (shown_at w d)) relayed.0))

  pub course-relayed : course_of w holder (shown_at w u) ≡ with_running start opened
  course-relayed =
      over.course
      ∙ due.course-first w t place holder stations entry b.base shape expects first.sent (found w t place holder stations entry b.base shape expects first
      shows) so.sent

  pub awaits-relayed : AwaitsAfter w (shown_at w u) opened x status
  awaits-relayed = subst (λ p. AwaitsAfter w p opened x status) (sym over.shown) (relayed.1 over.newest over.ticks over.whole)

  -- ---- nothing is shown of the second one, and by tick v nobody owes it any longer

  module _ (v : ℕ) (afters : List After) (came : Came w t place holder start v first.burst.channel x Second afters relay_happens)
      (runs : course_of w holder (shown_at w v) ≡ with_running start opened) (awaits : AwaitsAfter w (shown_at w v) opened x status)
      (unowed : All (λ after. is_owed after.duty ≡ false) afters) (soon : v ≤ x + no_response) where
    abbrev ended : Ended
    ended = without_words (NoResponse Second) (Some status) None

    abbrev then_settled : List After
    then_settled = map (after_silence w.lag w.loads first.burst) afters

    -- by now, with these blocks and bursts
    abbrev CameWith : List Delivered → List ShownBurst → Type 0
    CameWith taken bursts = Came w t place holder start (suc (x + relay_wait)) first.burst.channel x Second then_settled record {
      blocks = taken;
      bursts = bursts;
      attempts = b.base.ended ++ attempt_recorded holder.terminal.address opened ended (x + no_response) ∷ [];
      commands = 1;
    }

    came-then : CameWith blocks (b.base.found ++ first.burst ∷ [])
    came-then =
        subst (λ bs. CameWith bs (b.base.found ++ first.burst ∷ [])) (append-nil blocks)
        (subst (CameWith (blocks ++ [])) (append-nil (b.base.found ++ first.burst ∷ []))
        (unanswered-came w t place holder start b.base.began.none v first.burst Second afters relay_happens opened came runs (inr awaits.0) unowed soon ended
        (ap (λ st. without_words (NoResponse Second) (Some st) None) awaits.1) refl (omega arith)))

    pub no-second-told : MessageIs (message_at w t holder stations entry) ended (x + no_response) then_settled blocks (cmd ∷ first.burst ∷ []) →
        MessageTold w t holder stations entry place b.base.ended b.base.found
    no-second-told is =
        let follows : burst_end cmd ≤ first.burst.start = after-command w t place holder stations entry b shape expects first shows in
        told w t place holder stations entry b.base.began.accepted b.base.began.none b.base.ended b.base.found (suc (x + relay_wait)) first.burst.channel x Second then_settled
        blocks (first.burst ∷ [])
        ended (x + no_response) came-then
        (unanswered-free w t place holder start b.base.began.none v first.burst Second afters relay_happens opened came runs (inr awaits.0) unowed soon ended
        (ap (λ st. without_words (NoResponse Second) (Some st) None) awaits.1) refl (omega arith))
        (unanswered-course w t place holder start b.base.began.none v first.burst Second afters relay_happens opened came runs (inr awaits.0) unowed soon ended
        (ap (λ st. without_words (NoResponse Second) (Some st) None) awaits.1) refl (omega arith)) b.base.began.held is
        (quiet-more b.base.found (burst_end cmd) first.burst b.base.began.known.last follows)
        (omega (arith, follows)) (omega arith) record { keeps = refl; opens = refl }
