-- Nothing is shown of the first answer of a message: nobody owes one, or it is struck so that no word of it is left.
use Rattle.std.proofs.Common.{◌≡◌, inl, inr, ℕ, suc, ◌+◌, ◌≤◌, List, [], ◌∷◌, map, Some, None, refl, sym, ap, ◌∙◌, subst, arith}
use Rattle.bus_base.specs.Samples.{quiet_pairs}
use Rattle.bus_base.specs.declared.samples.Part.TheVariants.{Command, First}
use Rattle.bus_line.specs.Channels.{on_channel}
use Rattle.bus_formats.specs.Forms.{answers_of}
use Rattle.bus_formats.specs.Plans.{StationData}
use Rattle.bus_formats.specs.Times.{no_response}
use Rattle.bus_formats.specs.declared.form.Outcome.TheVariants.{NoResponse}
use Rattle.bus_formats.specs.declared.form.Shape.{Shape}
use Rattle.bus_model.specs.Attempts.{Begun, Ended, without_words, is_offer}
use Rattle.bus_model.specs.Course.{Course}
use Rattle.bus_model.specs.Message.{Present, After, answer_to, after_silence}
use Rattle.bus_model.specs.Starts.{Entry}
use Rattle.bus_model.specs.Strikes.{hits_on, ShownBurst, burst_end, Answer, shown_answer}
use Rattle.bus_law_control.proofs.OwnChannel.{first-own}
use Rattle.bus_law_duties.proofs.Answering.{none-found}
use Rattle.bus_law_stations.specs.Messages.{with_running}
use Rattle.bus_law_stations.specs.Silence.{AwaitsFirst, NothingStarts}
use Rattle.bus_law_phases.specs.Mutes.{answered}
use Rattle.bus_law_phases.specs.Passages.{Happening}
use Rattle.bus_law_phases.specs.Scenarios.{Scenario, shown_at, driven_at, commands_in, course_of}
use Rattle.bus_law_phases.specs.Silences.{GoesOnTo}
use Rattle.bus_law_phases.proofs.MuteDuties.{silence-answered}
use Rattle.bus_law_told.specs.Tables.{MessageIs, first_shown, IsAnswerTo}
use Rattle.bus_law_moments.specs.Told.{message_at, MessageTold}
use Rattle.bus_law_told.proofs.Coming.{Came}
use Rattle.bus_law_told.proofs.FirstDue as due
use Rattle.bus_law_told.proofs.Known.{Begins, c0, begun, command, known, ordered, attempt_begun, command_blocks, command_happens, passed, came-known, numbered, by-number, by-answers, ranged}
use Rattle.bus_law_told.proofs.Muted.{muted-came, muted-unowed, muted-course, muted-shown}
use Rattle.bus_law_told.proofs.NoResponse.{no-response-told}
use Rattle.bus_law_told.proofs.TablesDue.{first-due, loads-fit}
use Rattle.bus_law_told.proofs.TablesShown.{silent-or-mute}
use Rattle.bus_law_told.proofs.Unanswered.{quiet-many, waits-on, waiter-busy}

module _ (w : Scenario) (t place : ℕ) (holder : StationData) (stations : List Present) (entry : Entry) (b : Begins w t place holder stations entry)
    (shape : Shape) (expects : (answers_of entry.item.kind).first ≡ Some shape)
    (unshown : first_shown w.lag w.loads w.plan.faults (attempt_begun w t holder stations entry) entry.item (begun w t holder stations entry).state.channel
    t stations ≡ None) where
  abbrev start : Course
  start = c0 w t holder stations entry

  abbrev opened : Begun
  opened = begun w t holder stations entry

  abbrev cmd : ShownBurst
  cmd = command w t holder stations entry

  abbrev e : ℕ
  e = burst_end cmd

  abbrev obeyed : List After
  obeyed = ordered w t holder stations entry

  abbrev before : Happening
  before = command_happens w t place holder stations entry b

  abbrev ended : Ended
  ended = without_words (NoResponse First) None None

  is-silent : MessageIs (message_at w t holder stations entry) ended (e + no_response) (map (after_silence w.lag w.loads cmd) obeyed)
      (command_blocks w t holder stations entry) (cmd ∷ [])
  is-silent =
      by-number w t place holder stations entry b ended (e + no_response) (map (after_silence w.lag w.loads cmd) obeyed)
      (command_blocks w t holder stations entry) (cmd ∷ []) ((by-answers w t place holder stations entry b).silent shape expects unshown)

  -- nobody owes one
  unowed-told : answer_to cmd obeyed ≡ None → MessageTold w t holder stations entry place b.ended b.found
  unowed-told silent =
      let lag = b.began.lag in
      no-response-told w t place holder stations entry b (known w t holder stations entry) obeyed
      (came-known w t place holder stations entry b shape expects) ((passed w t place holder stations entry b).waits shape expects).0
      ((passed w t place holder stations entry b).waits shape expects).1 (none-found cmd obeyed silent) (omega (arith, lag)) is-silent

  -- it is mute
  module _ (answer : Answer) (found : answer_to cmd obeyed ≡ Some answer) where
    is-answer : IsAnswerTo cmd (is_offer entry.item.kind) answer
    is-answer =
        first-due w.lag w.loads opened.state.channel t (hits_on w.plan.faults (attempt_begun w t holder stations entry) Command) entry.item
        b.began.entry_of.ranges.kind (loads-fit w.loads b.began.blocks) stations (ranged w t place holder stations entry b) answer found

    abbrev u : ℕ
    u = answer.start

    here : Came w t place holder start u cmd.channel e First obeyed before
    here = due.came-first w t place holder stations entry b shape expects answer found is-answer

    runs-here : course_of w holder (shown_at w u) ≡ with_running start opened
    runs-here = due.course-first w t place holder stations entry b shape expects answer found is-answer

    waits-here : AwaitsFirst w.lag opened (on_channel cmd.channel (shown_at w u)) e
    waits-here = due.waits-first w t place holder stations entry b shape expects answer found is-answer

    soon : u + suc w.lag ≤ e + no_response
    soon = let lag = b.began.lag in let early = is-answer.before in omega (arith, lag, early)

    idle : NothingStarts w.lag (course_of w holder (shown_at w u)) (shown_at w u) (suc w.lag)
    idle =
        waits-on w t place holder start b.began.none u (suc w.lag) e opened here.passage.later (ap (λ (d : Course). d.runs) runs-here) (inl waits-here) soon

    goes : GoesOnTo w (shown_at w u) (u + suc w.lag)
    goes =
        inl (waiter-busy w t place holder start b.began.none u cmd.channel e First obeyed opened here.moment (ap (λ (d : Course). d.runs) runs-here))

    mute-now : shown_answer (hits_on w.plan.faults (suc (commands_in w (driven_at w t))) First) (answer_to cmd obeyed) ≡ None
    mute-now =
        subst (λ n. shown_answer (hits_on w.plan.faults n First) (answer_to cmd obeyed) ≡ None) (numbered w t place holder stations entry b) unshown

    later : Came w t place holder start (u + suc w.lag) cmd.channel e First (map answered obeyed) before
    later =
        muted-came w t place holder start b.began.none b.began.lag b.began.accepted u cmd First obeyed before here answer found refl mute-now refl is-answer.words
        (λ c. absurd (cc c)) idle goes

    mute-told : MessageTold w t holder stations entry place b.ended b.found
    mute-told =
        no-response-told w t place holder stations entry b (u + suc w.lag) (map answered obeyed) later
        (muted-course w t place holder start b.began.none b.began.lag b.began.accepted u cmd First obeyed before here answer found refl mute-now refl
        is-answer.words
        (λ c. absurd (cc c)) idle goes ∙ runs-here)
        (subst (λ p. AwaitsFirst w.lag opened (on_channel opened.state.channel p) e)
        (sym (muted-shown w t place holder start b.began.none b.began.lag b.began.accepted u cmd First obeyed before here answer found refl mute-now refl
        is-answer.words
        (λ c. absurd (cc c)) idle goes))
        (first-own w.lag opened (shown_at w u) (quiet_pairs (suc w.lag)) e (quiet-many opened.state.channel (suc w.lag)) waits-here))
        (muted-unowed w t place holder start b.began.none b.began.lag b.began.accepted u cmd First obeyed before here answer found refl mute-now refl
        is-answer.words
        (λ c. absurd (cc c)) idle goes) soon
        (subst (λ afters. MessageIs (message_at w t holder stations entry) ended (e + no_response) afters (command_blocks w t holder stations entry) (cmd ∷ []))
        (sym (silence-answered w.lag w.loads cmd obeyed)) is-silent)

  pub first-silent-told : MessageTold w t holder stations entry place b.ended b.found
  first-silent-told = elim (silent-or-mute (hits_on w.plan.faults (attempt_begun w t holder stations entry) First) (answer_to cmd obeyed) unshown) [
    | inl silent ↦ unowed-told silent
    | inr mute ↦ mute-told mute.0 mute.1
  ]
