-- A relay whose first answer is good is told: its second answer is good, or ends it, or isn't shown.
use Rattle.std.proofs.Common.{◌≡◌, inl, inr, ℕ, suc, ◌+◌, ◌-◌, ◌≤◌, false, List, [], ◌∷◌, map, Option, Some, None, refl, sym, ap, ◌∙◌, subst, arith}
use Rattle.bus_base.specs.declared.samples.Part.TheVariants.{First, Second}
use Rattle.bus_formats.specs.Forms.{answers_of}
use Rattle.bus_formats.specs.Plans.{StationData}
use Rattle.bus_formats.specs.Readings.{read_answer}
use Rattle.bus_formats.specs.Times.{no_response}
use Rattle.bus_formats.specs.declared.form.Outcome.TheVariants.{NoResponse}
use Rattle.bus_formats.specs.declared.form.Reading.TheVariants.{Good}
use Rattle.bus_formats.specs.declared.form.Shape.{Shape}
use Rattle.bus_model.specs.Attempts.{Begun, Ended, without_words}
use Rattle.bus_model.specs.Course.{Course}
use Rattle.bus_model.specs.Message.{Present, After, Delivered, answer_to, after_silence}
use Rattle.bus_model.specs.Starts.{Entry}
use Rattle.bus_model.specs.Strikes.{hits_on, ShownBurst, burst_end, Answer, ShownAnswer, shown_answer}
use Rattle.bus_law_duties.proofs.Answering.{none-found}
use Rattle.bus_law_stations.specs.Messages.{with_running}
use Rattle.bus_law_stations.specs.Silence.{NothingStarts}
use Rattle.bus_law_phases.specs.Mutes.{answered}
use Rattle.bus_law_phases.specs.Passages.{Happening}
use Rattle.bus_law_phases.specs.Scenarios.{Scenario, shown_at, driven_at, commands_in, course_of}
use Rattle.bus_law_phases.specs.Silences.{GoesOnTo}
use Rattle.bus_law_phases.proofs.MuteDuties.{silence-answered}
use Rattle.bus_law_told.specs.Tables.{MessageIs, first_shown, second_shown, IsAnswerTo}
use Rattle.bus_law_moments.specs.Told.{message_at, MessageTold}
use Rattle.bus_law_told.proofs.Answered.{came-due, course-due, shown-due}
use Rattle.bus_law_told.proofs.Coming.{Came}
use Rattle.bus_law_told.proofs.FirstAnswer.{stays}
use Rattle.bus_law_told.proofs.FirstClosed.{settled_now, blocks_now}
use Rattle.bus_law_told.proofs.FirstEnds.{second-answer}
use Rattle.bus_law_told.proofs.Known.{BeginsKept, c0, begun, command, ordered, attempt_begun, numbered, by-number, by-answers}
use Rattle.bus_law_told.proofs.Muted.{muted-came, muted-unowed, muted-course, muted-shown}
use Rattle.bus_law_told.proofs.Relayed.{AwaitsAfter, after-silence, relay_happens, came-relayed, course-relayed, awaits-relayed, no-second-told}
use Rattle.bus_law_told.proofs.TablesFree.{settled-promise, silence-stations}
use Rattle.bus_law_told.proofs.TablesShown.{silent-or-mute}
use Rattle.bus_law_told.proofs.TablesTold.{with-stations}
use Rattle.bus_law_told.proofs.Unanswered.{waits-on, waiter-busy}

module _ (w : Scenario) (t place : ℕ) (holder : StationData) (stations : List Present) (entry : Entry) (b : BeginsKept w t place holder stations entry)
    (shape : Shape) (expects : (answers_of entry.item.kind).first ≡ Some shape) (first : ShownAnswer)
    (shows : first_shown w.lag w.loads w.plan.faults (attempt_begun w t holder stations entry) entry.item (begun w t holder stations entry).state.channel t
    stations ≡ Some first) (other : Shape) (nexts : (answers_of entry.item.kind).second ≡ Some other) (status : ℕ)
    (reading : read_answer entry.item.kind First first.burst.slots first.burst.rest ≡ Good status) where
  abbrev start : Course
  start = c0 w t holder stations entry

  abbrev opened : Begun
  opened = begun w t holder stations entry

  abbrev cmd : ShownBurst
  cmd = command w t holder stations entry

  abbrev x : ℕ
  x = burst_end first.burst

  abbrev u : ℕ
  u = x + suc w.lag

  abbrev n : ℕ
  n = attempt_begun w t holder stations entry

  abbrev settled : List After
  settled = settled_now w t place holder stations entry b shape expects first shows

  abbrev blocks : List Delivered
  blocks = blocks_now w t place holder stations entry b shape expects first shows

  abbrev again : Option ShownAnswer
  again = second_shown w.lag w.loads w.plan.faults n entry.item opened.state.channel t stations first

  abbrev happens : Happening
  happens = relay_happens w t place holder stations entry b shape expects first shows other nexts status reading

  came-there : Came w t place holder start u first.burst.channel x Second settled happens
  came-there = came-relayed w t place holder stations entry b shape expects first shows other nexts status reading

  runs-there : course_of w holder (shown_at w u) ≡ with_running start opened
  runs-there = course-relayed w t place holder stations entry b shape expects first shows other nexts status reading

  awaits-there : AwaitsAfter w (shown_at w u) opened x status
  awaits-there = awaits-relayed w t place holder stations entry b shape expects first shows other nexts status reading

  -- ---- nothing is shown of it

  module _ (silent : again ≡ None) where
    abbrev ended : Ended
    ended = without_words (NoResponse Second) (Some status) None

    -- the table's message, with the stations after promises ran out: nobody promised anything
    silent-is : MessageIs (message_at w t holder stations entry) ended (x + no_response) (map (after_silence w.lag w.loads first.burst) settled) blocks
        (cmd ∷ first.burst ∷ [])
    silent-is =
        with-stations (message_at w t holder stations entry) ended (x + no_response) settled (map (after_silence w.lag w.loads first.burst) settled) blocks
        (cmd ∷ first.burst ∷ [])
        (sym (silence-stations w.lag w.loads first.burst settled (settled-promise w.lag w.loads first.burst (ordered w t holder stations entry))))
        (by-number w t place holder stations entry b.base ended (x + no_response) settled blocks (cmd ∷ first.burst ∷ [])
        ((by-answers w t place holder stations entry b.base).silent_second shape other first status expects shows
        (stays w t place holder stations entry b shape expects first shows) reading nexts silent))

    unowed-told : answer_to first.burst settled ≡ None → MessageTold w t holder stations entry place b.base.ended b.base.found
    unowed-told unowed =
        let lag = b.base.began.lag in
        no-second-told w t place holder stations entry b shape expects first shows other nexts status reading u settled came-there runs-there awaits-there
        (none-found first.burst settled unowed) (omega (arith, lag)) silent-is

  -- ---- it becomes due

  module _ (answer : Answer) (found : answer_to first.burst settled ≡ Some answer) where
    is : IsAnswerTo first.burst false answer
    is = second-answer w t place holder stations entry b shape expects first shows answer found

    abbrev d : ℕ
    d = answer.start

    late : u ≤ d
    late = let lag = b.base.began.lag in let after = is.after in omega (arith, lag, after)

    in-time : d ≤ x + 30
    in-time = let before = is.before in omega (arith, before)

    idle : NothingStarts w.lag (course_of w holder (shown_at w u)) (shown_at w u) (d - u)
    idle =
        let before = is.before in
        waits-on w t place holder start b.base.began.none u (d - u) x opened came-there.passage.later (ap (λ (c : Course). c.runs) runs-there) (inr awaits-there.0)
        (omega (arith, late, before))

    goes : GoesOnTo w (shown_at w u) d
    goes =
        inl (waiter-busy w t place holder start b.base.began.none u first.burst.channel x Second settled opened came-there.moment
        (ap (λ (c : Course). c.runs) runs-there))

    pub here : Came w t place holder start d first.burst.channel x Second settled happens
    here =
        came-due w t place holder start b.base.began.none b.base.began.lag b.base.began.accepted u first.burst Second settled happens came-there answer
        found late in-time idle goes

    pub runs-here : course_of w holder (shown_at w d) ≡ with_running start opened
    runs-here =
        course-due w t place holder start b.base.began.none b.base.began.lag b.base.began.accepted u first.burst Second settled happens came-there answer
        found late in-time idle goes
        ∙ runs-there

    pub awaits-here : AwaitsAfter w (shown_at w d) opened x status
    awaits-here =
        subst (λ p. AwaitsAfter w p opened x status)
        (sym (shown-due w t place holder start b.base.began.none b.base.began.lag b.base.began.accepted u first.burst Second settled happens came-there answer
        found late in-time idle goes))
        (after-silence w (shown_at w u) opened x status (d - u) awaits-there)

    -- ---- but is mute

    module _ (silent : again ≡ None) where
      soon : d + suc w.lag ≤ x + no_response
      soon = let lag = b.base.began.lag in let before = is.before in omega (arith, lag, before)

      idle-mute : NothingStarts w.lag (course_of w holder (shown_at w d)) (shown_at w d) (suc w.lag)
      idle-mute =
          waits-on w t place holder start b.base.began.none d (suc w.lag) x opened here.passage.later (ap (λ (c : Course). c.runs) runs-here) (inr awaits-here.0) soon

      goes-mute : GoesOnTo w (shown_at w d) (d + suc w.lag)
      goes-mute =
          inl (waiter-busy w t place holder start b.base.began.none d first.burst.channel x Second settled opened here.moment
          (ap (λ (c : Course). c.runs) runs-here))

      mute-now : shown_answer (hits_on w.plan.faults (suc (commands_in w (driven_at w t))) Second) (answer_to first.burst settled) ≡ None
      mute-now =
          subst (λ m. shown_answer (hits_on w.plan.faults m Second) (answer_to first.burst settled) ≡ None) (numbered w t place holder stations entry b.base)
          silent

      mute-told : MessageTold w t holder stations entry place b.base.ended b.base.found
      mute-told =
          no-second-told w t place holder stations entry b shape expects first shows other nexts status reading (d + suc w.lag) (map answered settled)
          (muted-came w t place holder start b.base.began.none b.base.began.lag b.base.began.accepted d first.burst Second settled happens here answer found
          refl mute-now refl is.words
          (λ e. absurd (cc e)) idle-mute goes-mute)
          (muted-course w t place holder start b.base.began.none b.base.began.lag b.base.began.accepted d first.burst Second settled happens here answer found
          refl mute-now refl is.words
          (λ e. absurd (cc e)) idle-mute goes-mute ∙ runs-here)
          (subst (λ p. AwaitsAfter w p opened x status)
          (sym (muted-shown w t place holder start b.base.began.none b.base.began.lag b.base.began.accepted d first.burst Second settled happens here answer
          found refl mute-now refl is.words
          (λ e. absurd (cc e)) idle-mute goes-mute)) (after-silence w (shown_at w d) opened x status (suc w.lag) awaits-here))
          (muted-unowed w t place holder start b.base.began.none b.base.began.lag b.base.began.accepted d first.burst Second settled happens here answer found
          refl mute-now refl is.words
          (λ e. absurd (cc e)) idle-mute goes-mute) soon
          (subst (λ afters. MessageIs (message_at w t holder stations entry) (ended silent) (x + no_response) afters blocks (cmd ∷ first.burst ∷ []))
          (sym (silence-answered w.lag w.loads first.burst settled)) (silent-is silent))

  pub silent-told : again ≡ None → MessageTold w t holder stations entry place b.base.ended b.base.found
  silent-told silent = elim (silent-or-mute (hits_on w.plan.faults n Second) (answer_to first.burst settled) silent) [
    | inl unowed ↦ unowed-told silent unowed
    | inr mute ↦ mute-told mute.0 mute.1 silent
  ]
