-- The first answer of a message that is told becomes due.
use Rattle.std.proofs.Common.{◌≡◌, inl, ℕ, suc, ◌+◌, ◌-◌, ◌≤◌, List, length, Some, refl, sym, ap, ◌∙◌, subst, arith}
use Rattle.bus_base.specs.Samples.{quiet_pairs}
use Rattle.bus_base.specs.declared.samples.Part.TheVariants.{First}
use Rattle.bus_line.specs.Channels.{on_channel}
use Rattle.bus_formats.specs.Forms.{answers_of}
use Rattle.bus_formats.specs.Plans.{StationData}
use Rattle.bus_formats.specs.declared.form.Shape.{Shape}
use Rattle.bus_model.specs.Attempts.{Begun, is_offer}
use Rattle.bus_model.specs.Course.{Course}
use Rattle.bus_model.specs.Message.{Present, After, answer_to}
use Rattle.bus_model.specs.Starts.{Entry}
use Rattle.bus_model.specs.Strikes.{ShownBurst, burst_end, Answer}
use Rattle.bus_law_control.proofs.OwnChannel.{first-own}
use Rattle.bus_law_stations.specs.Messages.{with_running}
use Rattle.bus_law_stations.specs.Silence.{AwaitsFirst, NothingStarts}
use Rattle.bus_law_phases.specs.Passages.{Happening}
use Rattle.bus_law_phases.specs.Scenarios.{Scenario, shown_at, course_of}
use Rattle.bus_law_phases.specs.Silences.{GoesOnTo}
use Rattle.bus_law_told.specs.Holders.{IsAnsweredInTime}
use Rattle.bus_law_told.specs.Tables.{IsAnswerTo}
use Rattle.bus_law_told.proofs.Answered.{came-due, course-due, shown-due}
use Rattle.bus_law_told.proofs.Coming.{Came}
use Rattle.bus_law_told.proofs.Known.{Begins, c0, begun, command, known, ordered, command_happens, passed, came-known}
use Rattle.bus_law_told.proofs.Unanswered.{quiet-many, waits-on, waiter-busy}
use Rattle.bus_law_phases.proofs.Staying.{long-later}

module _ (w : Scenario) (t place : ℕ) (holder : StationData) (stations : List Present) (entry : Entry) (b : Begins w t place holder stations entry)
    (shape : Shape) (expects : (answers_of entry.item.kind).first ≡ Some shape) (answer : Answer)
    (found : answer_to (command w t holder stations entry) (ordered w t holder stations entry) ≡ Some answer)
    (is : IsAnswerTo (command w t holder stations entry) (is_offer entry.item.kind) answer) where
  abbrev start : Course
  start = c0 w t holder stations entry

  abbrev opened : Begun
  opened = begun w t holder stations entry

  abbrev cmd : ShownBurst
  cmd = command w t holder stations entry

  abbrev obeyed : List After
  obeyed = ordered w t holder stations entry

  abbrev since : ℕ
  since = known w t holder stations entry

  abbrev pub due : ℕ
  due = answer.start

  abbrev before : Happening
  before = command_happens w t place holder stations entry b

  since-runs : course_of w holder (shown_at w since) ≡ with_running start opened
  since-runs = ((passed w t place holder stations entry b).waits shape expects).0

  since-waits : AwaitsFirst w.lag opened (on_channel opened.state.channel (shown_at w since)) (burst_end cmd)
  since-waits = ((passed w t place holder stations entry b).waits shape expects).1

  came-since : Came w t place holder start since cmd.channel (burst_end cmd) First obeyed before
  came-since = came-known w t place holder stations entry b shape expects

  late : since ≤ due
  late = let lag = b.began.lag in let after = is.after in omega (arith, lag, after)

  in-time : due ≤ burst_end cmd + 20
  in-time = is.before

  idle : NothingStarts w.lag (course_of w holder (shown_at w since)) (shown_at w since) (due - since)
  idle =
      waits-on w t place holder start b.began.none since (due - since) (burst_end cmd) opened came-since.passage.later (ap (λ (d : Course). d.runs) since-runs) (inl since-waits)
      (omega (arith, late, in-time))

  goes : GoesOnTo w (shown_at w since) due
  goes =
      inl (waiter-busy w t place holder start b.began.none since cmd.channel (burst_end cmd) First obeyed opened came-since.moment
      (ap (λ (d : Course). d.runs) since-runs))

  pub came-first : Came w t place holder start due cmd.channel (burst_end cmd) First obeyed before
  came-first =
      came-due w t place holder start b.began.none b.began.lag b.began.accepted since cmd First obeyed before came-since answer found late
      (omega (arith, in-time)) idle goes

  pub course-first : course_of w holder (shown_at w due) ≡ with_running start opened
  course-first =
      course-due w t place holder start b.began.none b.began.lag b.began.accepted since cmd First obeyed before came-since answer found late
      (omega (arith, in-time)) idle goes
      ∙ since-runs

  pub waits-first : AwaitsFirst w.lag opened (on_channel cmd.channel (shown_at w due)) (burst_end cmd)
  waits-first =
      subst (λ p. AwaitsFirst w.lag opened (on_channel cmd.channel p) (burst_end cmd))
      (sym (shown-due w t place holder start b.began.none b.began.lag b.began.accepted since cmd First obeyed before came-since answer found late
      (omega (arith, in-time)) idle
      goes))
      (first-own w.lag opened (shown_at w since) (quiet_pairs (due - since)) (burst_end cmd) (quiet-many opened.state.channel (due - since)) since-waits)

  pub in-time-first : IsAnsweredInTime w (shown_at w due) holder cmd.channel opened (burst_end cmd)
  in-time-first =
      let many : length (shown_at w due) ≡ due = long-later w t due came-first.passage.later b.began.none in record {
        at = record { holds = came-first.moment.holds; rests = came-first.moment.rests cmd.channel };
        started = ap (λ (d : Course). d.runs) course-first;
        channel = refl;
        prompt = omega (arith, many, in-time);
      }

  pub goes-first : GoesOnTo w (shown_at w due) (suc due)
  goes-first =
      inl (waiter-busy w t place holder start b.began.none due cmd.channel (burst_end cmd) First obeyed opened came-first.moment
      (ap (λ (d : Course). d.runs) course-first))
