-- An offer of control of which an answer is shown, from the end of its command to the tick in which that answer begins.
use Rattle.std.proofs.Common.{◌≡◌, inl, inr, ℕ, suc, ◌+◌, ◌-◌, ◌≤◌, List, ◌++◌, length, map, Option, Some, None, sym, ap, ◌∙◌, subst, arith}
use Rattle.std.proofs.lemmas.List.{append-nil}
use Rattle.std.proofs.lemmas.Option.{none-some}
use Rattle.bus_base.specs.Samples.{quiet_pairs}
use Rattle.bus_base.specs.declared.samples.Part.TheVariants.{Command, First}
use Rattle.bus_line.specs.Channels.{on_channel}
use Rattle.bus_formats.specs.Forms.{answers_of}
use Rattle.bus_formats.specs.Plans.{StationData}
use Rattle.bus_formats.specs.Readings.{read_answer}
use Rattle.bus_formats.specs.declared.form.Reading.{Reading}
use Rattle.bus_formats.specs.declared.form.Shape.{Shape}
use Rattle.bus_formats.specs.declared.log.Attempt.{Attempt}
use Rattle.bus_model.specs.Attempts.{Begun, is_offer}
use Rattle.bus_model.specs.Course.{Course}
use Rattle.bus_model.specs.Message.{Present, After, answer_to, after_command, blocks_taken}
use Rattle.bus_model.specs.Starts.{Entry}
use Rattle.bus_model.specs.Strikes.{hits_on, struck, ShownBurst, burst_end, Answer, ShownAnswer, shown_answer}
use Rattle.bus_formats.specs.declared.fault.Hit.{Hit}
use Rattle.bus_law_control.proofs.OwnChannel.{first-own}
use Rattle.bus_law_duties.proofs.OneOwes.{none-owes}
use Rattle.bus_law_line.specs.Senders.{attempt_to_come}
use Rattle.bus_law_moments.specs.Begun.{MessageBegan}
use Rattle.bus_law_parts.specs.Parts.{HitsFit}
use Rattle.bus_law_phases.specs.Answers.{BeginsAt, MayAbandon}
use Rattle.bus_law_phases.specs.Commands.{begun_at, command_at, command_known, ended_with_command}
use Rattle.bus_law_phases.specs.Passages.{Happening, Passage}
use Rattle.bus_law_phases.specs.Scenarios.{Scenario, shown_at, driven_at, commands_in, course_of}
use Rattle.bus_law_phases.specs.Silences.{GoesOnTo}
use Rattle.bus_law_phases.proofs.AnswerBegun.{IsShownBy, shown-by, answer-fits}
use Rattle.bus_law_stations.specs.Messages.{with_running}
use Rattle.bus_law_stations.specs.Silence.{AwaitsFirst, NothingStarts}
use Rattle.bus_law_stations.proofs.Resting.{cases-option}
use Rattle.bus_law_told.specs.Tables.{first_shown, IsShownTo}
use Rattle.bus_law_told.specs.Told.{answer_shown}
use Rattle.bus_law_told.proofs.Answered.{came-due, course-due, shown-due}
use Rattle.bus_law_told.proofs.Coming.{Came}
use Rattle.bus_law_told.proofs.TablesDue.{loads-fit}
use Rattle.bus_law_told.proofs.TablesFree.{free-unanswered}
use Rattle.bus_law_told.proofs.TablesShown.{first-shown-to}
use Rattle.bus_law_told.proofs.Unanswered.{quiet-many, waits-on, waiter-busy}
use Rattle.bus_law_phases.proofs.Staying.{long-later}

-- the answer to nobody isn't shown
unanswered-shown : (hits : List Hit) (o : Option Answer) (first : ShownAnswer) → o ≡ None → shown_answer hits o ≡ Some first → ⊥
unanswered-shown hits o first none shows = none-some first (sym (ap (shown_answer hits) none) ∙ shows)

module _ (w : Scenario) (t place : ℕ) (holder : StationData) (stations : List Present) (entry : Entry) (ended : List Attempt) (found : List ShownBurst)
    (began : MessageBegan w t holder entry place stations ended found) (first : ShownAnswer)
    (shows : answer_shown w t holder stations entry ≡ Some first) where
  abbrev pub start : Course
  start = course_of w holder (shown_at w t)

  abbrev pub opened : Begun
  opened = begun_at w t t holder entry

  abbrev pub cmd : ShownBurst
  cmd = command_at w t t holder entry

  abbrev pub obeyed : List After
  obeyed = map (after_command w.lag w.loads cmd) stations

  abbrev pub since : ℕ
  since = command_known w t t holder entry

  -- the number of its attempt
  abbrev pub attempt : ℕ
  attempt = attempt_to_come w.plan.faults Command (driven_at w t)

  abbrev pub due : ℕ
  due = first.sent.start

  -- what happened until its command was known
  abbrev pub before : Happening
  before = record { blocks = blocks_taken w.lag w.loads cmd obeyed; bursts = found; attempts = ended; commands = 1 }

  pub numbered : attempt ≡ suc (commands_in w (driven_at w t))
  numbered = omega arith

  pub shows-so : first_shown w.lag w.loads w.plan.faults attempt entry.item opened.state.channel t stations ≡ Some first
  shows-so = ap (λ n. first_shown w.lag w.loads w.plan.faults n entry.item opened.state.channel t stations) numbered ∙ shows

  pub shown-so : IsShownTo cmd (is_offer entry.item.kind) first
  shown-so =
      first-shown-to w.lag w.loads w.plan.faults attempt entry.item opened.state.channel t stations began.entry_of.ranges.kind began.ranged
      (loads-fit w.loads began.blocks) first shows-so

  abbrev hits : List Hit
  hits = hits_on w.plan.faults attempt First

  is : IsShownBy hits (answer_to cmd obeyed) first
  is = shown-by hits (answer_to cmd obeyed) first shows-so

  pub owed-so : answer_to cmd obeyed ≡ Some first.sent
  owed-so = is.sent

  -- the table's burst is read as what is left of its words
  pub read-alike : (P : Reading → Type 0) → P (read_answer entry.item.kind First (struck first.hits first.sent.words) 0) →
      P (read_answer entry.item.kind First first.burst.slots first.burst.rest)
  read-alike P so = subst (λ (b : ShownBurst). P (read_answer entry.item.kind First b.slots b.rest)) (sym is.burst) so

  -- it is one of a message that expects an answer
  pub expects-so : (shape : Shape) × ((answers_of entry.item.kind).first ≡ Some shape)
  expects-so = elim (cases-option (answers_of entry.item.kind).first) [
    | inl none ↦ absurd (unanswered-shown hits (answer_to cmd obeyed) first
        (free-unanswered cmd obeyed (none-owes w.lag w.loads opened.state.channel t (hits_on w.plan.faults attempt Command) entry.item stations
        began.entry_of.ranges.kind none)) shows-so)
    | inr found_so ↦ found_so
  ]

  -- ---- the command is known

  since-runs : course_of w holder (shown_at w since) ≡ with_running start opened
  since-runs = (began.known.waits expects-so.0 expects-so.1).0

  since-waits : AwaitsFirst w.lag opened (on_channel opened.state.channel (shown_at w since)) (burst_end cmd)
  since-waits = (began.known.waits expects-so.0 expects-so.1).1

  happens-so : ended ++ ended_with_command holder.terminal.address opened (burst_end cmd + w.lag) (answers_of entry.item.kind).first ≡ ended
  happens-so =
      ap (λ o. ended ++ ended_with_command holder.terminal.address opened (burst_end cmd + w.lag) o) expects-so.1 ∙ append-nil ended

  came-since : Came w t place holder start since cmd.channel (burst_end cmd) First obeyed before
  came-since = record {
    moment = began.known.moment;
    passage = subst (λ atts. Passage w t since record { blocks = blocks_taken w.lag w.loads cmd obeyed; bursts = found; attempts = atts; commands = 1 }) happens-so
        began.known.passage;
    quiet = began.known.quiet;
    items = began.known.items;
  }

  -- ---- its answer is due

  late : since ≤ due
  late = let lag = began.lag in let after = shown-so.sent.after in omega (arith, lag, after)

  in-time : due ≤ burst_end cmd + 20
  in-time = shown-so.sent.before

  idle : NothingStarts w.lag (course_of w holder (shown_at w since)) (shown_at w since) (due - since)
  idle =
      waits-on w t place holder start began.none since (due - since) (burst_end cmd) opened came-since.passage.later (ap (λ (d : Course). d.runs) since-runs) (inl since-waits)
      (omega (arith, late, in-time))

  goes : GoesOnTo w (shown_at w since) due
  goes =
      inl (waiter-busy w t place holder start began.none since cmd.channel (burst_end cmd) First obeyed opened came-since.moment
      (ap (λ (d : Course). d.runs) since-runs))

  pub came-first : Came w t place holder start due cmd.channel (burst_end cmd) First obeyed before
  came-first =
      came-due w t place holder start began.none began.lag began.accepted since cmd First obeyed before came-since first.sent owed-so late (omega (arith, in-time))
      idle goes

  pub course-first : course_of w holder (shown_at w due) ≡ with_running start opened
  course-first =
      course-due w t place holder start began.none began.lag began.accepted since cmd First obeyed before came-since first.sent owed-so late
      (omega (arith, in-time)) idle goes
      ∙ since-runs

  pub waits-first : AwaitsFirst w.lag opened (on_channel opened.state.channel (shown_at w due)) (burst_end cmd)
  waits-first =
      subst (λ p. AwaitsFirst w.lag opened (on_channel opened.state.channel p) (burst_end cmd))
      (sym (shown-due w t place holder start began.none began.lag began.accepted since cmd First obeyed before came-since first.sent owed-so late
      (omega (arith, in-time)) idle goes))
      (first-own w.lag opened (shown_at w since) (quiet_pairs (due - since)) (burst_end cmd) (quiet-many opened.state.channel (due - since)) since-waits)

  pub goes-first : GoesOnTo w (shown_at w due) (suc due)
  goes-first =
      inl (waiter-busy w t place holder start began.none due cmd.channel (burst_end cmd) First obeyed opened came-first.moment
      (ap (λ (d : Course). d.runs) course-first))

  due-long : length (shown_at w due) ≡ due
  due-long = long-later w t due came-first.passage.later began.none

  pub awaits-first : MayAbandon w (shown_at w due) holder opened (burst_end cmd)
  awaits-first = record {
    holds = came-first.moment.holds;
    answered = record { runs = ap (λ (d : Course). d.runs) course-first; prompt = omega (arith, due-long, in-time) };
    rests = came-first.moment.rests opened.state.channel;
  }

  pub begins-first : BeginsAt (length (shown_at w due)) First first
  begins-first =
      subst (λ n. BeginsAt n First first) (sym due-long) record {
        burst = is.burst;
        fits = subst (λ hs. HitsFit First hs first.sent.words) is.hits_are (answer-fits w.plan attempt First first.sent began.accepted shown-so.sent.words);
      }

  -- as the faults of the attempt that runs strike it
  pub shows-now : shown_answer (hits_on w.plan.faults (commands_in w (driven_at w due)) First) (answer_to cmd obeyed) ≡ Some first
  shows-now =
      let grew = came-first.passage.counted in
      let same : attempt ≡ commands_in w (driven_at w due) = omega (arith, grew) in
      subst (λ n. shown_answer (hits_on w.plan.faults n First) (answer_to cmd obeyed) ≡ Some first) same shows-so
