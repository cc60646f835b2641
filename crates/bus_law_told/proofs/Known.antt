-- A message that began, up to the tick after that in which the end of its command is known.
use Rattle.std.proofs.Common.{◌≡◌, ◌⊎◌, ℕ, suc, ◌+◌, false, List, [], ◌∷◌, ◌++◌, Option, Some, None, refl, sym, ap, ◌∙◌, subst, arith}
use Rattle.std.proofs.lemmas.List.{append-nil}
use Rattle.bus_base.specs.declared.samples.Part.TheVariants.{Command, First}
use Rattle.std.specs.List.{AllByRecursion as Each}
use Rattle.std.specs.Prelude.{map}
use Rattle.bus_formats.specs.Forms.{answers_of}
use Rattle.bus_formats.specs.Plans.{StationData}
use Rattle.bus_formats.specs.declared.form.Outcome.TheVariants.{Sent}
use Rattle.bus_formats.specs.declared.form.Shape.{Shape}
use Rattle.bus_formats.specs.declared.log.Attempt.{Attempt}
use Rattle.bus_model.specs.Attempts.{Begun, Ended, without_words, is_offer}
use Rattle.bus_model.specs.Course.{Course}
use Rattle.bus_model.specs.Message.{Present, After, Delivered, after_command, blocks_taken}
use Rattle.bus_model.specs.Run.{quiet_after}
use Rattle.bus_model.specs.Starts.{Entry}
use Rattle.bus_model.specs.Strikes.{hits_on, ShownBurst, burst_end, ShownAnswer}
use Rattle.bus_law_duties.proofs.OneOwes.{none-owes}
use Rattle.bus_law_line.specs.Senders.{attempt_to_come}
use Rattle.bus_law_phases.specs.Commands.{begun_at, command_at, command_known, ended_with_command}
use Rattle.bus_law_phases.specs.Passages.{Happening, Passage}
use Rattle.bus_law_phases.specs.Scenarios.{Scenario, shown_at, driven_at, commands_in, course_of}
use Rattle.bus_law_moments.specs.Begun.{IsRanged, CommandKnown, MessageBegan}
use Rattle.bus_law_moments.specs.Told.{message_at, MessageTold}
use Rattle.bus_law_told.specs.Tables.{MessageIs, this_message, first_shown, IsHeardOut, IsToldByAnswers}
use Rattle.bus_law_told.specs.Told.{Refuses, answer_shown, IsNotAbandoned}
use Rattle.bus_law_told.proofs.TablesTold.{told-by-answers}
use Rattle.bus_law_told.proofs.Coming.{Came}
use Rattle.bus_law_told.proofs.Ending.{told}

-- a message began in tick t: before its command was known these attempts of others ended, and these bursts were found
pub record Begins (w : Scenario) (t place : ℕ) (holder : StationData) (stations : List Present) (entry : Entry) : Type 0 where
  pub ended : List Attempt
  pub found : List ShownBurst
  pub began : MessageBegan w t holder entry place stations ended found

-- the premises under which it is told: its first answer gives no control away, and it isn't abandoned
pub record BeginsKept (w : Scenario) (t place : ℕ) (holder : StationData) (stations : List Present) (entry : Entry) : Type 0 where
  pub base : Begins w t place holder stations entry
  pub keeps : (first : ShownAnswer) → answer_shown w t holder stations entry ≡ Some first → (is_offer entry.item.kind ≡ false) ⊎ Refuses entry.item.kind first
  pub stays : IsNotAbandoned w t holder stations entry

module _ (w : Scenario) (t : ℕ) (holder : StationData) (stations : List Present) (entry : Entry) where
  abbrev pub c0 : Course
  c0 = course_of w holder (shown_at w t)

  abbrev pub begun : Begun
  begun = begun_at w t t holder entry

  -- the number of its attempt
  abbrev pub attempt_begun : ℕ
  attempt_begun = attempt_to_come w.plan.faults Command (driven_at w t)

  abbrev pub command : ShownBurst
  command = command_at w t t holder entry

  abbrev pub known : ℕ
  known = command_known w t t holder entry

  -- the stations that obeyed the command
  abbrev pub ordered : List After
  ordered = map (after_command w.lag w.loads command) stations

  abbrev pub command_blocks : List Delivered
  command_blocks = blocks_taken w.lag w.loads command ordered

module _ (w : Scenario) (t place : ℕ) (holder : StationData) (stations : List Present) (entry : Entry)
    (b : Begins w t place holder stations entry) where
  abbrev pub start_course : Course
  start_course = c0 w t holder stations entry

  abbrev pub message_begins : Begun
  message_begins = begun w t holder stations entry

  abbrev pub cmd : ShownBurst
  cmd = command w t holder stations entry

  abbrev pub obeyed : List After
  obeyed = ordered w t holder stations entry

  abbrev pub passed : CommandKnown w t holder entry place stations b.ended b.found
  passed = b.began.known

  -- what happened until the command of a message was known that is answered
  abbrev pub command_happens : Happening
  command_happens = record { blocks = command_blocks w t holder stations entry; bursts = b.found; attempts = b.ended; commands = 1 }

  -- .. or isn't
  abbrev pub sent_happens : List ShownBurst → List Attempt → Happening
  sent_happens bursts attempts = record { blocks = command_blocks w t holder stations entry; bursts = bursts; attempts = attempts; commands = 1 }

  came-with : (shape : Option Shape) → (answers_of entry.item.kind).first ≡ shape →
      Came w t place holder start_course (known w t holder stations entry) cmd.channel (burst_end cmd) First obeyed
      (sent_happens b.found (b.ended ++ ended_with_command holder.terminal.address message_begins (burst_end cmd + w.lag) shape))
  came-with shape expects = record {
    moment = b.began.known.moment;
    passage = subst (λ s. Passage w t (known w t holder stations entry)
        (sent_happens b.found (b.ended ++ ended_with_command holder.terminal.address message_begins (burst_end cmd + w.lag) s))) expects b.began.known.passage;
    quiet = b.began.known.quiet;
    items = b.began.known.items;
  }

  pub came-known : (shape : Shape) → (answers_of entry.item.kind).first ≡ Some shape →
      Came w t place holder start_course (known w t holder stations entry) cmd.channel (burst_end cmd) First obeyed command_happens
  came-known shape expects =
      subst (λ atts. Came w t place holder start_course (known w t holder stations entry) cmd.channel (burst_end cmd) First obeyed (sent_happens b.found atts))
      (append-nil b.ended) (came-with (Some shape) expects)

  -- commands are counted as attempts are
  pub numbered : attempt_begun w t holder stations entry ≡ suc (commands_in w (driven_at w t))
  numbered = omega arith

  -- the table's message with that number
  pub by-number : (ended : Ended) (tick : ℕ) (afters : List After) (blocks : List Delivered) (bursts : List ShownBurst) →
      MessageIs (this_message w.lag w.loads w.plan.faults (attempt_begun w t holder stations entry) entry.item message_begins.state.channel t stations) ended
      tick afters blocks bursts → MessageIs (message_at w t holder stations entry) ended tick afters blocks bursts
  by-number ended tick afters blocks bursts is =
      subst (λ n. MessageIs (this_message w.lag w.loads w.plan.faults n entry.item message_begins.state.channel t stations) ended tick afters blocks bursts)
      numbered is

  -- what is shown of its first answer
  abbrev pub first_answer : ℕ → Option ShownAnswer
  first_answer n = first_shown w.lag w.loads w.plan.faults n entry.item message_begins.state.channel t stations

  -- it is what its answers make of it
  pub by-answers : IsToldByAnswers w.lag w.loads w.plan.faults (attempt_begun w t holder stations entry) entry.item message_begins.state.channel t stations
  by-answers =
      told-by-answers w.lag w.loads w.plan.faults (attempt_begun w t holder stations entry) entry.item message_begins.state.channel t stations
      b.began.entry_of.ranges.kind

  pub ranged : Each IsRanged stations
  ranged = b.began.ranged

  -- the message expects no answer
  pub sent-told : (answers_of entry.item.kind).first ≡ None → MessageTold w t holder stations entry place b.ended b.found
  sent-told expects =
      let lag = b.began.lag in
      told w t place holder stations entry b.began.accepted b.began.none b.ended b.found (known w t holder stations entry) cmd.channel (burst_end cmd) First obeyed
      (command_blocks w t holder stations entry) [] (without_words Sent None None) (burst_end cmd + w.lag)
      (subst (λ bs. Came w t place holder start_course (known w t holder stations entry) cmd.channel (burst_end cmd) First obeyed
      (sent_happens bs (b.ended ++ ended_with_command holder.terminal.address message_begins (burst_end cmd + w.lag) None))) (sym (append-nil b.found))
      (came-with None expects))
      (none-owes w.lag w.loads message_begins.state.channel t (hits_on w.plan.faults (attempt_begun w t holder stations entry) Command) entry.item stations
      b.began.entry_of.ranges.kind expects) (b.began.known.sent expects) b.began.held
      (by-number (without_words Sent None None) (burst_end cmd + w.lag) obeyed (command_blocks w t holder stations entry) (cmd ∷ []) (by-answers.sent expects))
      (ap quiet_after (append-nil b.found) ∙ b.began.known.last) (omega (arith, lag)) (omega (arith, lag)) record { keeps = refl; opens = refl }

module _ (w : Scenario) (t place : ℕ) (holder : StationData) (stations : List Present) (entry : Entry)
    (b : BeginsKept w t place holder stations entry) where
  abbrev attempt : ℕ
  attempt = attempt_begun w t holder stations entry

  abbrev answer_by : ℕ → Option ShownAnswer
  answer_by n = first_answer w t place holder stations entry b.base n

  same-number : attempt ≡ suc (commands_in w (driven_at w t))
  same-number = numbered w t place holder stations entry b.base

  -- the message offers no control, or its answer refuses the offer
  pub control-kept : (first : ShownAnswer) → answer_by attempt ≡ Some first → (is_offer entry.item.kind ≡ false) ⊎ Refuses entry.item.kind first
  control-kept first shows = b.keeps first (ap answer_by (sym same-number) ∙ shows)

  -- and it isn't abandoned
  pub heard-out : (first : ShownAnswer) → answer_by attempt ≡ Some first →
      IsHeardOut w.lag w.loads w.plan.faults attempt entry.item (begun w t holder stations entry).state.channel t stations first
  heard-out first shows = b.stays first (ap answer_by (sym same-number) ∙ shows)
