-- A second answer comes though the first one ended its message: a relay's receiver answers beside a station in control that has closed it.
use Rattle.std.proofs.Common.{◌≡◌, inr, ℕ, suc, ◌+◌, ◌-◌, ◌≤◌, false, List, [], ◌∷◌, ◌++◌, length, map, Some, None, refl, sym, ap, ◌∙◌, subst, arith, append_assoc}
use Rattle.std.proofs.lemmas.List.{append-nil}
use Rattle.bus_base.specs.declared.samples.Part.TheVariants.{Second}
use Rattle.bus_formats.specs.Forms.{answers_of}
use Rattle.bus_formats.specs.Plans.{StationData}
use Rattle.bus_formats.specs.Times.{settling_quiet}
use Rattle.bus_formats.specs.declared.form.Shape.{Shape}
use Rattle.bus_formats.specs.declared.log.Attempt.{Attempt}
use Rattle.bus_model.specs.Attempts.{Begun, Ended, is_offer}
use Rattle.bus_model.specs.Course.{Course, close, quiet_from}
use Rattle.bus_model.specs.Message.{Present, After, Delivered, answer_to, after_answer, blocks_taken}
use Rattle.bus_model.specs.Starts.{Entry, needed_quiet}
use Rattle.bus_model.specs.Strikes.{hits_on, ShownBurst, burst_end, Answer, ShownAnswer, shown_answer}
use Rattle.bus_law_duties.specs.Duties.{AreFree}
use Rattle.bus_law_stations.specs.Silence.{NothingStarts}
use Rattle.bus_law_phases.specs.Answers.{burst_read, HoldsBeside, HoldsBesideShown}
use Rattle.bus_law_phases.specs.Commands.{attempt_recorded}
use Rattle.bus_law_phases.specs.Mutes.{answered}
use Rattle.bus_law_phases.specs.Passages.{Happening}
use Rattle.bus_law_phases.specs.Scenarios.{Scenario, shown_at, driven_at, commands_in, course_of}
use Rattle.bus_law_phases.specs.Silences.{GoesOnTo}
use Rattle.bus_law_phases.proofs.AnswerBegun.{shown-by}
use Rattle.bus_law_phases.proofs.AnswerHolders.{no-attempts}
use Rattle.bus_law_phases.proofs.AnswerPasses.{beside-shown}
use Rattle.bus_law_told.specs.Holders.{closed_with}
use Rattle.bus_law_told.specs.Tables.{MessageIs, first_shown, second_shown, IsAnswerTo, IsShownTo}
use Rattle.bus_law_moments.specs.Told.{message_at, MessageTold}
use Rattle.bus_law_told.proofs.Answered.{came-due, course-due, answered-came, answer-over}
use Rattle.bus_law_told.proofs.Coming.{Came}
use Rattle.bus_law_told.proofs.Ending.{EndsPlainly, told}
use Rattle.bus_law_told.proofs.FirstShown.{shown-so}
use Rattle.bus_law_told.proofs.FirstClosed.{settled_now, blocks_now, after-command, happened, came-closed, course-closed}
use Rattle.bus_law_told.proofs.HoldersBeside.{closed-holds}
use Rattle.bus_law_told.proofs.HoldersClosed as quiet
use Rattle.bus_law_told.proofs.HoldersReadings.{EndsBadly}
use Rattle.bus_law_told.proofs.Known.{BeginsKept, c0, begun, command, ordered, attempt_begun, numbered}
use Rattle.bus_law_told.proofs.Muted.{answered-stations, all-answered-free, muted-came, muted-course}
use Rattle.bus_law_told.proofs.TablesFree.{settled-promise, again-stations, again-blocks, again-free, free-one}
use Rattle.bus_law_told.proofs.TablesQuiet.{quiet-more, quiet-both}
use Rattle.bus_law_told.proofs.TablesTold.{with-stations}
use Rattle.bus_law_told.proofs.Unanswered.{closed-waits}
use Rattle.bus_law_phases.proofs.Staying.{long-later}

module _ (w : Scenario) (t place : ℕ) (holder : StationData) (stations : List Present) (entry : Entry) (b : BeginsKept w t place holder stations entry)
    (shape : Shape) (expects : (answers_of entry.item.kind).first ≡ Some shape) (first : ShownAnswer)
    (shows : first_shown w.lag w.loads w.plan.faults (attempt_begun w t holder stations entry) entry.item (begun w t holder stations entry).state.channel t
    stations ≡ Some first) (ended : Ended)
    (beside : HoldsBesideShown w (shown_at w first.sent.start) holder (command w t holder stations entry).channel first.hits first.sent.words
    (burst_read first.burst)
    (closed_with w (shown_at w first.sent.start) holder (command w t holder stations entry).channel (begun w t holder stations entry)
    (burst_read first.burst) ended)) (bad : EndsBadly ended.outcome) where
  abbrev start : Course
  start = c0 w t holder stations entry

  abbrev opened : Begun
  opened = begun w t holder stations entry

  abbrev cmd : ShownBurst
  cmd = command w t holder stations entry

  abbrev x : ℕ
  x = burst_end first.burst

  abbrev u : ℕ
  u = x + suc w.lag

  abbrev settled : List After
  settled = settled_now w t place holder stations entry b shape expects first shows

  abbrev happens : Happening
  happens = happened w t place holder stations entry b shape expects first shows ended beside

  so : IsShownTo cmd (is_offer entry.item.kind) first
  so = shown-so w t place holder stations entry b.base shape expects first shows

  pub came-there : Came w t place holder start u first.burst.channel x Second settled happens
  came-there =
      subst (λ c. Came w t place holder start u c x Second settled happens) (sym so.channel)
      (came-closed w t place holder stations entry b shape expects first shows ended beside)

  closed-there : course_of w holder (shown_at w u) ≡ close start opened ended (x + w.lag)
  closed-there = course-closed w t place holder stations entry b shape expects first shows ended beside

  -- ---- an answer to it comes due

  module _ (answer : Answer) (found : answer_to first.burst settled ≡ Some answer) (is : IsAnswerTo first.burst false answer) where
    late : u ≤ answer.start
    late = let lag = b.base.began.lag in let after = is.after in omega (arith, lag, after)

    idle : NothingStarts w.lag (course_of w holder (shown_at w u)) (shown_at w u) (answer.start - u)
    idle =
        let before = is.before in
        closed-waits w t place holder start b.base.began.none u (answer.start - u) x (suc (x + w.lag)) settling_quiet came-there.passage.later (ap (λ (d : Course). d.runs) closed-there)
        (ap (λ (d : Course). d.opening) closed-there ∙ bad.opens opened.state.channel (x + w.lag)) came-there.quiet (omega (arith, late, before))

    goes : GoesOnTo w (shown_at w u) answer.start
    goes = let hush : quiet_from (shown_at w u) ≡ x = came-there.quiet in let before = is.before in inr (omega (arith, hush, before))

    in-time : answer.start ≤ x + 30
    in-time = let before = is.before in omega (arith, before)

    pub came-second : Came w t place holder start answer.start first.burst.channel x Second settled happens
    came-second =
        came-due w t place holder start b.base.began.none b.base.began.lag b.base.began.accepted u first.burst Second settled happens came-there answer found
        late in-time idle goes

    pub course-second : course_of w holder (shown_at w answer.start) ≡ close start opened ended (x + w.lag)
    course-second =
        course-due w t place holder start b.base.began.none b.base.began.lag b.base.began.accepted u first.burst Second settled happens came-there answer
        found late in-time idle goes
        ∙ closed-there

    -- nothing of it is shown
    module _ (mute : second_shown w.lag w.loads w.plan.faults (attempt_begun w t holder stations entry) entry.item opened.state.channel t stations first
        ≡ None) where
      abbrev silent_from : ℕ
      silent_from = answer.start

      idle-mute : NothingStarts w.lag (course_of w holder (shown_at w silent_from)) (shown_at w silent_from) (suc w.lag)
      idle-mute =
          let lag = b.base.began.lag in
          let before = is.before in
          closed-waits w t place holder start b.base.began.none silent_from (suc w.lag) x (suc (x + w.lag)) settling_quiet came-second.passage.later
          (ap (λ (d : Course). d.runs) course-second)
          (ap (λ (d : Course). d.opening) course-second ∙ bad.opens opened.state.channel (x + w.lag)) came-second.quiet (omega (arith, lag, before))

      goes-mute : GoesOnTo w (shown_at w silent_from) (silent_from + suc w.lag)
      goes-mute =
          let lag = b.base.began.lag in
          let hush : quiet_from (shown_at w silent_from) ≡ x = came-second.quiet in
          let before = is.before in inr (omega (arith, lag, hush, before))

      mute-now : shown_answer (hits_on w.plan.faults (suc (commands_in w (driven_at w t))) Second) (answer_to first.burst settled) ≡ None
      mute-now =
          subst (λ n. shown_answer (hits_on w.plan.faults n Second) (answer_to first.burst settled) ≡ None) (numbered w t place holder stations entry b.base) mute

      came-muted : Came w t place holder start (silent_from + suc w.lag) first.burst.channel x Second (map answered settled) happens
      came-muted =
          muted-came w t place holder start b.base.began.none b.base.began.lag b.base.began.accepted silent_from first.burst Second settled happens
          came-second answer found refl mute-now refl
          is.words (λ e. absurd (cc e)) idle-mute goes-mute

      pub mute-told : EndsPlainly (begun w t holder stations entry) ended (x + w.lag) →
          MessageIs (message_at w t holder stations entry) ended (x + w.lag) settled
          (blocks_now w t place holder stations entry b shape expects first shows) (cmd ∷ first.burst ∷ []) → MessageTold w t holder stations entry place
          b.base.ended b.base.found
      mute-told plainly message =
          let lag = b.base.began.lag in
          let needs : needed_quiet ended.outcome ≡ settling_quiet = bad.needs in
          let before = is.before in
          let after = is.after in
          let follows : burst_end cmd ≤ first.burst.start = after-command w t place holder stations entry b shape expects first shows in
          told w t place holder stations entry b.base.began.accepted b.base.began.none b.base.ended b.base.found (silent_from + suc w.lag) first.burst.channel x Second
          (map answered settled)
          (blocks_now w t place holder stations entry b shape expects first shows) (first.burst ∷ []) ended (x + w.lag) came-muted
          (all-answered-free settled (settled-promise w.lag w.loads first.burst (ordered w t holder stations entry)))
          (muted-course w t place holder start b.base.began.none b.base.began.lag b.base.began.accepted silent_from first.burst Second settled happens
          came-second answer found refl mute-now
          refl is.words (λ e. absurd (cc e)) idle-mute goes-mute ∙ course-second) b.base.began.held
          (with-stations (message_at w t holder stations entry) ended (x + w.lag) settled (map answered settled)
          (blocks_now w t place holder stations entry b shape expects first shows) (cmd ∷ first.burst ∷ []) (sym (answered-stations settled)) message)
          (quiet-more b.base.found (burst_end cmd) first.burst b.base.began.known.last follows) (omega (arith, follows, after))
          (omega (arith, lag, needs, before)) plainly

  -- ---- something of it is shown

  module _ (second : ShownAnswer)
      (shows-second : second_shown w.lag w.loads w.plan.faults (attempt_begun w t holder stations entry) entry.item opened.state.channel t stations first
      ≡ Some second) (each : IsShownTo first.burst false second) where
    abbrev y : ℕ
    y = burst_end second.burst

    abbrev d : ℕ
    d = second.sent.start

    abbrev again : List After
    again = map (after_answer w.lag w.loads second.burst) settled

    found : answer_to first.burst settled ≡ Some second.sent
    found =
        (shown-by (hits_on w.plan.faults (attempt_begun w t holder stations entry) Second) (answer_to first.burst settled) second shows-second).sent

    here : Came w t place holder start d first.burst.channel x Second settled happens
    here = came-second second.sent found each.sent

    rests-here : HoldsBeside w (shown_at w d) holder first.burst.channel (burst_read second.burst) (course_of w holder (shown_at w d))
    rests-here =
        let lag = b.base.began.lag in
        let before = each.sent.before in
        let many : length (shown_at w d) ≡ d = long-later w t d here.passage.later b.base.began.none in
        closed-holds w (shown_at w d) holder first.burst.channel (burst_read second.burst) settling_quiet (suc (x + w.lag))
        (quiet.closed-waits w (shown_at w d) holder first.burst.channel start opened ended (x + w.lag) x (omega (arith, lag))
        record { holds = here.moment.holds; rests = here.moment.rests first.burst.channel } (course-second second.sent found each.sent)
        (bad.opens opened.state.channel (x + w.lag)) here.quiet (omega (arith, many, before)))

    beside-second : HoldsBesideShown w (shown_at w d) holder first.burst.channel second.hits second.sent.words (burst_read second.burst)
        (course_of w holder (shown_at w d))
    beside-second =
        beside-shown w (shown_at w d) holder first.burst.channel second.hits second.sent.words (burst_read second.burst) (course_of w holder (shown_at w d))
        rests-here

    shows-numbered : shown_answer (hits_on w.plan.faults (suc (commands_in w (driven_at w t))) Second) (answer_to first.burst settled) ≡ Some second
    shows-numbered =
        subst (λ n. shown_answer (hits_on w.plan.faults n Second) (answer_to first.burst settled) ≡ Some second) (numbered w t place holder stations entry b.base)
        shows-second

    goes-on : GoesOnTo w (shown_at w d) (suc d)
    goes-on = let hush : quiet_from (shown_at w d) ≡ x = here.quiet in let before = each.sent.before in inr (omega (arith, hush, before))

    all-free : AreFree again
    all-free = again-free w.lag w.loads first.burst second.burst (ordered w t holder stations entry)

    -- by now, with these blocks, bursts and attempts
    abbrev CameWith : List Delivered → List ShownBurst → List Attempt → Type 0
    CameWith blocks bursts attempts =
        Came w t place holder start (y + suc w.lag) first.burst.channel y Second again
        record { blocks = blocks; bursts = bursts; attempts = attempts; commands = 1 }

    abbrev blocks : List Delivered
    blocks = blocks_now w t place holder stations entry b shape expects first shows

    abbrev bursts : List ShownBurst
    bursts = b.base.found ++ first.burst ∷ []

    abbrev attempts : List Attempt
    attempts = b.base.ended ++ attempt_recorded holder.terminal.address opened ended (x + w.lag) ∷ []

    came-over : CameWith blocks (b.base.found ++ first.burst ∷ second.burst ∷ []) attempts
    came-over =
        let many : length (shown_at w d) ≡ d = long-later w t d here.passage.later b.base.began.none in
        let same = each.start in
        subst (λ bs. CameWith bs (b.base.found ++ first.burst ∷ second.burst ∷ []) attempts)
        (ap (λ bs. blocks ++ bs) (again-blocks w.lag w.loads first.burst second.burst (ordered w t holder stations entry)) ∙ append-nil blocks)
        (subst (λ bs. CameWith (blocks ++ blocks_taken w.lag w.loads second.burst again) bs attempts)
        (append_assoc b.base.found (first.burst ∷ []) (second.burst ∷ []))
        (subst (λ atts. CameWith (blocks ++ blocks_taken w.lag w.loads second.burst again) (bursts ++ second.burst ∷ []) atts)
        (ap (λ atts. attempts ++ atts) (no-attempts w holder (shown_at w d) (y + w.lag) (omega (arith, many, same))) ∙ append-nil attempts)
        (answered-came w t place holder start b.base.began.none b.base.began.lag b.base.began.accepted d first.burst Second settled happens here second refl
        shows-numbered refl
        each.sent.words (each.sent.declines refl) (λ e. absurd (cc e)) (free-one again all-free) goes-on (course_of w holder (shown_at w d)) beside-second)))

    course-over : course_of w holder (shown_at w (y + suc w.lag)) ≡ close start opened ended (x + w.lag)
    course-over =
        (answer-over w t place holder start b.base.began.none b.base.began.lag b.base.began.accepted d first.burst Second settled happens here second refl
        shows-numbered refl
        each.sent.words (each.sent.declines refl) (λ e. absurd (cc e)) (free-one again all-free) goes-on (course_of w holder (shown_at w d)) beside-second).course
        ∙ course-second second.sent found each.sent

    -- the message is told
    pub second-told : EndsPlainly (begun w t holder stations entry) ended (x + w.lag) →
        MessageIs (message_at w t holder stations entry) ended (x + w.lag) settled
        (blocks_now w t place holder stations entry b shape expects first shows) (cmd ∷ first.burst ∷ second.burst ∷ []) →
        MessageTold w t holder stations entry place b.base.ended b.base.found
    second-told plainly is =
        let lag = b.base.began.lag in
        let needs : needed_quiet ended.outcome ≡ settling_quiet = bad.needs in
        let follows : burst_end cmd ≤ first.burst.start = after-command w t place holder stations entry b shape expects first shows in
        let same = each.start in
        let after = each.sent.after in
        told w t place holder stations entry b.base.began.accepted b.base.began.none b.base.ended b.base.found (y + suc w.lag) first.burst.channel y Second again
        (blocks_now w t place holder stations entry b shape expects first shows) (first.burst ∷ second.burst ∷ []) ended (x + w.lag) came-over all-free
        course-over b.base.began.held
        (with-stations (message_at w t holder stations entry) ended (x + w.lag) settled again
        (blocks_now w t place holder stations entry b shape expects first shows) (cmd ∷ first.burst ∷ second.burst ∷ [])
        (sym (again-stations w.lag w.loads first.burst second.burst (ordered w t holder stations entry))) is)
        (quiet-both b.base.found (burst_end cmd) first.burst second.burst b.base.began.known.last follows (omega (arith, same, after)))
        (omega (arith, follows, same, after))
        (omega (arith, lag, needs)) plainly
