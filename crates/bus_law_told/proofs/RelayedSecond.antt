-- The second answer of a relay is shown, after a good first one: the relay is told.
use Rattle.std.proofs.Common.{◌≡◌, inl, ℕ, suc, ◌+◌, ◌≤◌, false, List, [], ◌∷◌, ◌++◌, length, map, Option, Some, refl, sym, ap, ◌∙◌, subst, arith, append_assoc}
use Rattle.std.proofs.lemmas.List.{append-nil}
use Rattle.bus_base.specs.declared.samples.Channel.{Channel}
use Rattle.bus_base.specs.declared.samples.Part.TheVariants.{First, Second}
use Rattle.bus_line.specs.Channels.{on_channel}
use Rattle.bus_formats.specs.Forms.{answers_of}
use Rattle.bus_formats.specs.Plans.{StationData}
use Rattle.bus_formats.specs.Readings.{read_answer}
use Rattle.bus_formats.specs.Times.{settling_quiet}
use Rattle.bus_formats.specs.declared.form.Outcome.{Outcome}
use Rattle.bus_formats.specs.declared.form.Outcome.TheVariants.{Clear}
use Rattle.bus_formats.specs.declared.form.Reading.{Reading}
use Rattle.bus_formats.specs.declared.form.Reading.TheVariants.{Good, Ends}
use Rattle.bus_formats.specs.declared.form.Shape.{Shape}
use Rattle.bus_formats.specs.declared.log.Attempt.{Attempt}
use Rattle.bus_model.specs.Attempts.{Begun, Ended, without_words, is_offer}
use Rattle.bus_model.specs.Course.{Course, close}
use Rattle.bus_model.specs.Message.{Present, After, Delivered, answer_to, after_answer, blocks_taken}
use Rattle.bus_model.specs.Starts.{Entry, usual, needed_quiet}
use Rattle.bus_model.specs.Strikes.{hits_on, ShownBurst, burst_end, ShownAnswer, shown_answer}
use Rattle.bus_law_duties.specs.Duties.{AreFree}
use Rattle.bus_law_stations.specs.Messages.{with_running}
use Rattle.bus_law_stations.specs.Silence.{AwaitsSecond}
use Rattle.bus_law_phases.specs.Answers.{burst_read, HoldsBeside, HoldsBesideShown}
use Rattle.bus_law_phases.specs.Commands.{attempt_recorded}
use Rattle.bus_law_phases.specs.Passages.{Happening}
use Rattle.bus_law_phases.specs.Scenarios.{Scenario, shown_at, driven_at, commands_in, course_of}
use Rattle.bus_law_phases.specs.Silences.{GoesOnTo}
use Rattle.bus_law_phases.proofs.AnswerBegun.{shown-by}
use Rattle.bus_law_phases.proofs.AnswerHolders.{closed-attempts}
use Rattle.bus_law_phases.proofs.AnswerPasses.{beside-shown}
use Rattle.bus_law_told.specs.Holders.{answer_read, closed_with, IsAnsweredInTime}
use Rattle.bus_law_told.specs.Tables.{MessageIs, first_shown, second_shown, IsShownTo}
use Rattle.bus_law_moments.specs.Told.{message_at, MessageTold}
use Rattle.bus_law_told.proofs.Answered.{answered-came, answer-over}
use Rattle.bus_law_told.proofs.Coming.{Came}
use Rattle.bus_law_told.proofs.Ending.{EndsPlainly, told}
use Rattle.bus_law_told.proofs.FirstShown.{same-rest}
use Rattle.bus_law_told.proofs.FirstAnswer.{stays}
use Rattle.bus_law_told.proofs.FirstClosed.{settled_now, blocks_now, after-command}
use Rattle.bus_law_told.proofs.HoldersAnywhere.{second-ends, second-clear}
use Rattle.bus_law_told.proofs.HoldersReadings.{EndsBadly, second-ends-so}
use Rattle.bus_law_told.proofs.Known.{BeginsKept, c0, begun, command, ordered, attempt_begun, numbered, by-number, by-answers, ranged}
use Rattle.bus_law_told.proofs.Relayed.{so, relay_happens}
use Rattle.bus_law_told.proofs.RelayedTold as due
use Rattle.bus_law_told.proofs.TablesFree.{again-stations, again-blocks, again-free, free-one}
use Rattle.bus_law_told.proofs.TablesQuiet.{quiet-both}
use Rattle.bus_law_told.proofs.TablesShown.{second-shown-to}
use Rattle.bus_law_told.proofs.TablesTold.{with-stations}
use Rattle.bus_law_told.proofs.Unanswered.{waiter-busy}
use Rattle.bus_law_phases.proofs.Staying.{long-later}

module _ (w : Scenario) (t place : ℕ) (holder : StationData) (stations : List Present) (entry : Entry) (b : BeginsKept w t place holder stations entry)
    (shape : Shape) (expects : (answers_of entry.item.kind).first ≡ Some shape) (first : ShownAnswer)
    (shows : first_shown w.lag w.loads w.plan.faults (attempt_begun w t holder stations entry) entry.item (begun w t holder stations entry).state.channel t
    stations ≡ Some first) (other : Shape) (nexts : (answers_of entry.item.kind).second ≡ Some other) (status : ℕ)
    (reading : read_answer entry.item.kind First first.burst.slots first.burst.rest ≡ Good status) (second : ShownAnswer)
    (shows-second : second_shown w.lag w.loads w.plan.faults (attempt_begun w t holder stations entry) entry.item
    (begun w t holder stations entry).state.channel t stations first ≡ Some second) where
  abbrev start : Course
  start = c0 w t holder stations entry

  abbrev opened : Begun
  opened = begun w t holder stations entry

  abbrev cmd : ShownBurst
  cmd = command w t holder stations entry

  abbrev x : ℕ
  x = burst_end first.burst

  abbrev u : ℕ
  u = x + suc w.lag

  abbrev n : ℕ
  n = attempt_begun w t holder stations entry

  abbrev settled : List After
  settled = settled_now w t place holder stations entry b shape expects first shows

  abbrev blocks : List Delivered
  blocks = blocks_now w t place holder stations entry b shape expects first shows

  abbrev happens : Happening
  happens = relay_happens w t place holder stations entry b shape expects first shows other nexts status reading

  abbrev y : ℕ
  y = burst_end second.burst

  abbrev d : ℕ
  d = second.sent.start

  abbrev again : List After
  again = map (after_answer w.lag w.loads second.burst) settled

  first-so : IsShownTo cmd (is_offer entry.item.kind) first
  first-so = so w t place holder stations entry b shape expects first shows other nexts status reading

  each : IsShownTo first.burst false second
  each =
      second-shown-to w.lag w.loads w.plan.faults n entry.item opened.state.channel t stations b.base.began.entry_of.ranges.kind
      (ranged w t place holder stations entry b.base)
      first second shows-second

  found : answer_to first.burst settled ≡ Some second.sent
  found = (shown-by (hits_on w.plan.faults n Second) (answer_to first.burst settled) second shows-second).sent

  here : Came w t place holder start d first.burst.channel x Second settled happens
  here = due.here w t place holder stations entry b shape expects first shows other nexts status reading second.sent found

  runs-here : course_of w holder (shown_at w d) ≡ with_running start opened
  runs-here = due.runs-here w t place holder stations entry b shape expects first shows other nexts status reading second.sent found

  abbrev AwaitsOn : Channel → Type 0
  AwaitsOn c = (v : AwaitsSecond w.lag opened (on_channel c (shown_at w d)) x) × (v.status ≡ status)

  awaits-here : AwaitsOn first.burst.channel
  awaits-here =
      subst AwaitsOn (sym first-so.channel)
      (due.awaits-here w t place holder stations entry b shape expects first shows other nexts status reading second.sent found)

  in-time : IsAnsweredInTime w (shown_at w d) holder first.burst.channel opened x
  in-time =
      let many : length (shown_at w d) ≡ d = long-later w t d here.passage.later b.base.began.none in
      let before = each.sent.before in record {
        at = record { holds = here.moment.holds; rests = here.moment.rests first.burst.channel };
        started = ap (λ (c : Course). c.runs) runs-here;
        channel = first-so.channel;
        prompt = omega (arith, many, before);
      }

  read-alike : (reads : Reading) → read_answer entry.item.kind Second second.burst.slots second.burst.rest ≡ reads →
      answer_read opened Second (burst_read second.burst) ≡ reads
  read-alike reads is = ap (read_answer entry.item.kind Second second.burst.slots) (same-rest second.burst each.rest) ∙ is

  shows-numbered : shown_answer (hits_on w.plan.faults (suc (commands_in w (driven_at w t))) Second) (answer_to first.burst settled) ≡ Some second
  shows-numbered =
      subst (λ m. shown_answer (hits_on w.plan.faults m Second) (answer_to first.burst settled) ≡ Some second) (numbered w t place holder stations entry b.base)
      shows-second

  goes-on : GoesOnTo w (shown_at w d) (suc d)
  goes-on =
      inl (waiter-busy w t place holder start b.base.began.none d first.burst.channel x Second settled opened here.moment (ap (λ (c : Course). c.runs) runs-here))

  all-free : AreFree again
  all-free = again-free w.lag w.loads first.burst second.burst (ordered w t holder stations entry)

  -- ---- it ends the message so

  module _ (ended : Ended) (beside : HoldsBeside w (shown_at w d) holder first.burst.channel (burst_read second.burst)
      (closed_with w (shown_at w d) holder first.burst.channel opened (burst_read second.burst) ended))
      (plainly : EndsPlainly (begun w t holder stations entry) ended (y + w.lag)) (needs : suc w.lag ≤ needed_quiet ended.outcome)
      (is : MessageIs (message_at w t holder stations entry) ended (y + w.lag) settled blocks (cmd ∷ first.burst ∷ second.burst ∷ [])) where
    abbrev later_course : Course
    later_course = close (course_of w holder (shown_at w d)) opened ended (y + w.lag)

    beside-second : HoldsBesideShown w (shown_at w d) holder first.burst.channel second.hits second.sent.words (burst_read second.burst) later_course
    beside-second =
        beside-shown w (shown_at w d) holder first.burst.channel second.hits second.sent.words (burst_read second.burst) later_course beside

    -- by now, with these blocks, bursts and attempts
    abbrev CameWith : List Delivered → List ShownBurst → List Attempt → Type 0
    CameWith taken bursts attempts =
        Came w t place holder start (y + suc w.lag) first.burst.channel y Second again
        record { blocks = taken; bursts = bursts; attempts = b.base.ended ++ attempts; commands = 1 }

    abbrev attempts_then : List Attempt
    attempts_then = attempt_recorded holder.terminal.address opened ended (y + w.lag) ∷ []

    came-over : CameWith blocks (b.base.found ++ first.burst ∷ second.burst ∷ []) attempts_then
    came-over =
        subst (λ bs. CameWith bs (b.base.found ++ first.burst ∷ second.burst ∷ []) attempts_then)
        (ap (λ bs. blocks ++ bs) (again-blocks w.lag w.loads first.burst second.burst (ordered w t holder stations entry)) ∙ append-nil blocks)
        (subst (λ bs. CameWith (blocks ++ blocks_taken w.lag w.loads second.burst again) bs attempts_then)
        (append_assoc b.base.found (first.burst ∷ []) (second.burst ∷ []))
        (subst (CameWith (blocks ++ blocks_taken w.lag w.loads second.burst again) ((b.base.found ++ first.burst ∷ []) ++ second.burst ∷ []))
        (closed-attempts w holder (course_of w holder (shown_at w d)) opened ended (y + w.lag))
        (answered-came w t place holder start b.base.began.none b.base.began.lag b.base.began.accepted d first.burst Second settled happens here second refl
        shows-numbered refl
        each.sent.words (each.sent.declines refl) (λ e. absurd (cc e)) (free-one again all-free) goes-on later_course beside-second)))

    course-over : course_of w holder (shown_at w (y + suc w.lag)) ≡ close start opened ended (y + w.lag)
    course-over =
        (answer-over w t place holder start b.base.began.none b.base.began.lag b.base.began.accepted d first.burst Second settled happens here second refl
        shows-numbered refl
        each.sent.words (each.sent.declines refl) (λ e. absurd (cc e)) (free-one again all-free) goes-on later_course beside-second).course
        ∙ ap (λ c. close c opened ended (y + w.lag)) runs-here

    second-told : MessageTold w t holder stations entry place b.base.ended b.base.found
    second-told =
        let follows : burst_end cmd ≤ first.burst.start = after-command w t place holder stations entry b shape expects first shows in
        let same = each.start in
        let after = each.sent.after in
        told w t place holder stations entry b.base.began.accepted b.base.began.none b.base.ended b.base.found (y + suc w.lag) first.burst.channel y Second again blocks
        (first.burst ∷ second.burst ∷ []) ended
        (y + w.lag) came-over all-free course-over b.base.began.held
        (with-stations (message_at w t holder stations entry) ended (y + w.lag) settled again blocks (cmd ∷ first.burst ∷ second.burst ∷ [])
        (sym (again-stations w.lag w.loads first.burst second.burst (ordered w t holder stations entry))) is)
        (quiet-both b.base.found (burst_end cmd) first.burst second.burst b.base.began.known.last follows (omega (arith, same, after)))
        (omega (arith, follows, same, after)) (omega (arith, needs))
        plainly

  -- ---- as it is read

  good-told : (later : ℕ) → read_answer entry.item.kind Second second.burst.slots second.burst.rest ≡ Good later →
      MessageTold w t holder stations entry place b.base.ended b.base.found
  good-told later reads =
      let lag = b.base.began.lag in
      second-told (without_words Clear (Some status) (Some later))
      (subst (λ st. HoldsBeside w (shown_at w d) holder first.burst.channel (burst_read second.burst)
      (closed_with w (shown_at w d) holder first.burst.channel opened (burst_read second.burst) (without_words Clear (Some st) (Some later)))) awaits-here.1
      (second-clear w (shown_at w d) holder first.burst.channel opened x (burst_read second.burst) in-time awaits-here.0 later (read-alike (Good later) reads)))
      record { keeps = refl; opens = refl } (omega (arith, lag))
      (by-number w t place holder stations entry b.base (without_words Clear (Some status) (Some later)) (y + w.lag) settled blocks
      (cmd ∷ first.burst ∷ second.burst ∷ [])
      ((by-answers w t place holder stations entry b.base).clear_second shape other first second status later expects shows
      (stays w t place holder stations entry b shape expects first shows) reading nexts shows-second reads))

  ends-told : (outcome : Outcome) (later : Option ℕ) → read_answer entry.item.kind Second second.burst.slots second.burst.rest ≡ Ends outcome later →
      MessageTold w t holder stations entry place b.base.ended b.base.found
  ends-told outcome later reads =
      let lag = b.base.began.lag in
      let bad : EndsBadly outcome = second-ends-so entry.item.kind second.burst.slots second.burst.rest outcome later reads in
      let needs : needed_quiet outcome ≡ settling_quiet = bad.needs in
      second-told (without_words outcome (Some status) later)
      (subst (λ st. HoldsBeside w (shown_at w d) holder first.burst.channel (burst_read second.burst)
      (closed_with w (shown_at w d) holder first.burst.channel opened (burst_read second.burst) (without_words outcome (Some st) later))) awaits-here.1
      (second-ends w (shown_at w d) holder first.burst.channel opened x (burst_read second.burst) in-time awaits-here.0 outcome later
      (read-alike (Ends outcome later) reads)))
      record { keeps = bad.keeps; opens = bad.opens opened.state.channel (y + w.lag) ∙ ap (λ q. usual q (suc (y + w.lag))) (sym bad.needs) }
      (omega (arith, lag, needs))
      (by-number w t place holder stations entry b.base (without_words outcome (Some status) later) (y + w.lag) settled blocks
      (cmd ∷ first.burst ∷ second.burst ∷ [])
      ((by-answers w t place holder stations entry b.base).ends_second shape other first second status outcome later expects shows
      (stays w t place holder stations entry b shape expects first shows) reading nexts shows-second reads))

  by-reading : (reads : Reading) → read_answer entry.item.kind Second second.burst.slots second.burst.rest ≡ reads →
      MessageTold w t holder stations entry place b.base.ended b.base.found
  by-reading (Good later) is = good-told later is
  by-reading (Ends outcome later) is = ends-told outcome later is

  pub shown-told : MessageTold w t holder stations entry place b.base.ended b.base.found
  shown-told = by-reading (read_answer entry.item.kind Second second.burst.slots second.burst.rest) refl
