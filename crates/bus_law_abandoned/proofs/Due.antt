-- A message that began comes to the tick in which its first answer begins.
use Rattle.std.proofs.Common.{◌≡◌, inl, ℕ, suc, ◌+◌, ◌-◌, ◌≤◌, List, [], ◌++◌, length, map, Some, refl, sym, ap, ◌∙◌, subst, arith, All}
use Rattle.std.proofs.lemmas.Option.{none-some, same_Some}
use Rattle.bus_base.specs.Samples.{quiet_pairs}
use Rattle.bus_base.specs.declared.samples.Part.TheVariants.{Command, First}
use Rattle.bus_line.specs.Past.{quiet_ticks}
use Rattle.bus_line.specs.Channels.{on_channel}
use Rattle.bus_formats.specs.Plans.{StationData}
use Rattle.bus_formats.specs.declared.log.Attempt.{Attempt}
use Rattle.bus_model.specs.Attempts.{Begun, is_offer}
use Rattle.bus_model.specs.Course.{Course}
use Rattle.bus_model.specs.Message.{Present, After, Delivered, after_command, answer_to, blocks_taken}
use Rattle.bus_model.specs.Starts.{Entry}
use Rattle.bus_model.specs.Strikes.{hits_on, ShownBurst, burst_end, ShownAnswer, shown_answer}
use Rattle.bus_law_control.proofs.OwnChannel.{first-own}
use Rattle.bus_law_duties.proofs.Settled.{one-owes-answer}
use Rattle.bus_law_line.specs.Senders.{attempt_to_come}
use Rattle.bus_law_stations.specs.Messages.{with_running}
use Rattle.bus_law_stations.specs.Silence.{AwaitsFirst, NothingStarts}
use Rattle.bus_law_table.proofs.Quiet.{pairs-quiet, pairs-many}
use Rattle.bus_law_phases.specs.Answers.{AnswerBegins}
use Rattle.bus_law_phases.specs.Commands.{begun_at, command_at, command_known, ended_with_command}
use Rattle.bus_law_phases.specs.Moments.{Underway, LastsTo}
use Rattle.bus_law_phases.specs.Passages.{Passage, followed_by, nothing_happens}
use Rattle.bus_law_phases.specs.Scenarios.{Scenario, trace_at, shown_at, driven_at, commands_in, course_of, StaysFrom}
use Rattle.bus_law_phases.specs.Silences.{GoesOnTo, SomeoneIsBusy}
use Rattle.bus_law_phases.proofs.AnswerBegun.{shown-by}
use Rattle.bus_law_phases.proofs.Lasting.{lasting}
use Rattle.bus_law_phases.proofs.Passing.{joined}
use Rattle.bus_law_told.specs.Tables.{first_shown, IsShownTo}
use Rattle.bus_law_told.specs.Told.{answer_shown}
use Rattle.bus_law_told.proofs.Answered.{all-last-to}
use Rattle.bus_law_told.proofs.TablesDue.{loads-fit}
use Rattle.bus_law_told.proofs.TablesShown.{first-shown-to}
use Rattle.bus_law_moments.specs.Begun.{MessageBegan}
use Rattle.bus_law_abandoned.proofs.Table.{IsAnsweredAlone}
use Rattle.bus_law_phases.proofs.Staying.{long-later, stays-later}

-- a station with a message that runs is busy
busy-with : (w : Scenario) (u place : ℕ) (holder : StationData) (begun : Begun) (c : Course) (burst : ShownBurst) (afters : List After) →
    Underway w (trace_at w u) place holder burst.channel (burst_end burst) First afters →
    course_of w holder (shown_at w u) ≡ with_running c begun → SomeoneIsBusy w (shown_at w u)
busy-with w u place holder begun c burst afters moment is =
    let holds = moment.holds in
    let runs : (course_of w holder (shown_at w u)).runs ≡ Some begun = ap (λ (d : Course). d.runs) is in
    record { place = place; station = holder; at = moment.at; busy = rw (holds, runs) refl }

module _ (w : Scenario) (t place : ℕ) (holder : StationData) (stations : List Present) (entry : Entry) (ended : List Attempt) (found : List ShownBurst)
    (b : MessageBegan w t holder entry place stations ended found) (alone : IsAnsweredAlone entry.item.kind) (first : ShownAnswer)
    (shows : answer_shown w t holder stations entry ≡ Some first) where
  abbrev pub start_course : Course
  start_course = course_of w holder (shown_at w t)

  abbrev pub begun : Begun
  begun = begun_at w t t holder entry

  abbrev pub cmd : ShownBurst
  cmd = command_at w t t holder entry

  abbrev e : ℕ
  e = burst_end cmd

  abbrev known : ℕ
  known = command_known w t t holder entry

  abbrev pub obeyed : List After
  obeyed = map (after_command w.lag w.loads cmd) stations

  -- the number of its attempt: attempts are counted as commands are
  abbrev pub number : ℕ
  number = attempt_to_come w.plan.faults Command (driven_at w t)

  pub numbered : attempt_to_come w.plan.faults Command (driven_at w t) ≡ suc (commands_in w (driven_at w t))
  numbered = omega arith

  -- ---- its first answer

  pub shows-here : first_shown w.lag w.loads w.plan.faults (attempt_to_come w.plan.faults Command (driven_at w t)) entry.item
      (begun_at w t t holder entry).state.channel t stations ≡ Some first
  shows-here =
      subst (λ n. first_shown w.lag w.loads w.plan.faults n entry.item (begun_at w t t holder entry).state.channel t stations ≡ Some first) (sym numbered)
      shows

  pub shown-so : IsShownTo (command_at w t t holder entry) (is_offer entry.item.kind) first
  shown-so =
      first-shown-to w.lag w.loads w.plan.faults number entry.item begun.state.channel t stations b.entry_of.ranges.kind b.ranged
      (loads-fit w.loads b.blocks) first shows-here

  answers-it : answer_to cmd obeyed ≡ Some first.sent
  answers-it = (shown-by (hits_on w.plan.faults number First) (answer_to cmd obeyed) first shows-here).sent

  abbrev due : ℕ
  due = first.sent.start

  late : known ≤ due
  late = let lag = b.lag in let after = shown-so.sent.after in omega (arith, lag, after)

  in-time : due ≤ e + 20
  in-time = shown-so.sent.before

  -- ---- until it is due

  since-runs : course_of w holder (shown_at w known) ≡ with_running start_course begun
  since-runs = (b.known.waits alone.shape alone.expects).0

  since-waits : AwaitsFirst w.lag begun (on_channel begun.state.channel (shown_at w known)) e
  since-waits = (b.known.waits alone.shape alone.expects).1

  idle : NothingStarts w.lag (course_of w holder (shown_at w known)) (shown_at w known) (due - known)
  idle =
      let runs : (course_of w holder (shown_at w known)).runs ≡ Some begun = ap (λ (d : Course). d.runs) since-runs in
      let many : length (shown_at w known) ≡ known = long-later w t known b.known.passage.later b.none in record {
        waits = λ other is. (
          e,
          inl (subst (λ (x : Begun). AwaitsFirst w.lag x (on_channel x.state.channel (shown_at w known)) e) (same_Some begun other (sym runs ∙ is))
              since-waits),
          omega (arith, many, late, in-time),
        );
        starts = λ none holds next later left. absurd (none-some begun (sym none ∙ runs));
      }

  due-at : known + (due - known) ≡ due
  due-at = omega (arith, late)

  lasts : All (LastsTo (known + (due - known)) e) obeyed
  lasts =
      subst (λ v. All (LastsTo v e) obeyed) (sym due-at)
      (all-last-to cmd obeyed first.sent b.known.moment.one answers-it (omega (arith, in-time)))

  none-since : StaysFrom w known
  none-since = stays-later w t known b.known.passage.later b.none

  goes-since : GoesOnTo w (shown_at w known) (known + (due - known))
  goes-since = inl (busy-with w known place holder begun start_course cmd obeyed b.known.moment since-runs)

  abbrev in_silence : (shown_at w (known + (due - known)) ≡ quiet_pairs (due - known) ++ shown_at w known)
      × Underway w (trace_at w (known + (due - known))) place holder cmd.channel e First obeyed
      × (course_of w holder (shown_at w (known + (due - known))) ≡ course_of w holder (shown_at w known))
      × Passage w known (known + (due - known)) nothing_happens
  in_silence = lasting w known (due - known) place holder cmd.channel e First obeyed b.known.moment idle lasts none-since goes-since

  -- ---- it is due

  moment-due : Underway w (trace_at w due) place holder cmd.channel e First obeyed
  moment-due = subst (λ v. Underway w (trace_at w v) place holder cmd.channel e First obeyed) due-at in_silence.1

  pub course-due : course_of w holder (shown_at w first.sent.start) ≡ with_running (course_of w holder (shown_at w t)) (begun_at w t t holder entry)
  course-due = subst (λ v. course_of w holder (shown_at w v) ≡ course_of w holder (shown_at w known)) due-at in_silence.2 ∙ since-runs

  pub waits-due : AwaitsFirst w.lag (begun_at w t t holder entry) (on_channel (begun_at w t t holder entry).state.channel (shown_at w first.sent.start))
      (burst_end (command_at w t t holder entry))
  waits-due =
      let d = begun.state.channel in
      let quiet : on_channel begun.state.channel (quiet_pairs (due - known)) ≡ quiet_ticks (length (quiet_pairs (due - known))) =
      pairs-quiet d (due - known) ∙ ap quiet_ticks (sym (pairs-many (due - known))) in
      subst (λ p. AwaitsFirst w.lag begun (on_channel begun.state.channel p) e)
      (sym (subst (λ v. shown_at w v ≡ quiet_pairs (due - known) ++ shown_at w known) due-at in_silence.0))
      (first-own w.lag begun (shown_at w known) (quiet_pairs (due - known)) e quiet since-waits)

  abbrev taken : List Delivered
  taken = blocks_taken w.lag w.loads cmd obeyed

  pub passage-due : Passage w t first.sent.start record {
    blocks = blocks_taken w.lag w.loads (command_at w t t holder entry) (map (after_command w.lag w.loads (command_at w t t holder entry)) stations) ++ [];
    bursts = found ++ [];
    attempts = (ended ++ []) ++ [];
    commands = 1 + 0;
  }
  passage-due =
      subst (λ v. Passage w t v (followed_by record { blocks = taken; bursts = found; attempts = ended ++ []; commands = 1 } nothing_happens)) due-at
      (joined w t known (known + (due - known)) (record { blocks = taken; bursts = found; attempts = ended ++ []; commands = 1 }) nothing_happens
      (subst (λ shape. Passage w t known record {
        blocks = taken;
        bursts = found;
        attempts = ended ++ ended_with_command holder.terminal.address begun (e + w.lag) shape;
        commands = 1;
      }) alone.expects b.known.passage) in_silence.3)

  pub begins-due : AnswerBegins w first.sent.start place holder First (command_at w t t holder entry)
      (map (after_command w.lag w.loads (command_at w t t holder entry)) stations) first
  begins-due =
      let grew : commands_in w (driven_at w due) ≡ commands_in w (driven_at w t) + (1 + 0) = passage-due.counted in
      let same : number ≡ commands_in w (driven_at w due) = omega (arith, grew, numbered) in
      record {
        moment = moment-due;
        part_is = λ c. absurd (cc c);
        shown = subst (λ n. shown_answer (hits_on w.plan.faults n First) (answer_to cmd obeyed) ≡ Some first) same shows-here;
        words = shown-so.sent.words;
        due = refl;
        declines = shown-so.sent.declines alone.plain;
        goes = inl (busy-with w due place holder begun start_course cmd obeyed moment-due course-due);
        one = one-owes-answer w.lag w.loads begun.state.channel t (hits_on w.plan.faults number Command) entry.item first.burst stations
            b.entry_of.ranges.kind b.apart;
      }
