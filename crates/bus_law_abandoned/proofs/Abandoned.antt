-- A message that began, and whose first answer is abandoned, by what the message table says of that answer.
use Rattle.std.proofs.Common.{◌≡◌, ℕ, suc, ◌+◌, ◌<◌, ◌≤◌, false, List, ◌∷◌, ◌++◌, length, map, Some, None, refl, sym, ap, ◌∙◌, subst, arith, length-append}
use Rattle.std.specs.Prelude.{◌-◌, ◌*◌, IsSome}
use Rattle.bus_base.specs.Positions.{IsBetween}
use Rattle.bus_base.specs.declared.samples.Channel.{Channel}
use Rattle.bus_base.specs.declared.samples.Pair.{Pair}
use Rattle.bus_base.specs.declared.samples.Part.TheVariants.{Command, First}
use Rattle.bus_formats.specs.Accepted.{HasSuperseding}
use Rattle.bus_formats.specs.Plans.{ItemData, StationData}
use Rattle.bus_formats.specs.declared.form.Outcome.TheVariants.{Abandoned}
use Rattle.bus_formats.specs.declared.log.Attempt.{Attempt}
use Rattle.bus_model.specs.Attempts.{Begun, without_words}
use Rattle.bus_model.specs.Course.{Course, close}
use Rattle.bus_model.specs.Endings.{abandoned_at}
use Rattle.bus_model.specs.Message.{Present, After, after_command, answer_to}
use Rattle.bus_model.specs.Starts.{Entry}
use Rattle.bus_model.specs.Strikes.{hits_on, struck, ShownBurst, burst_end, ShownAnswer, is_faded}
use Rattle.bus_law_line.specs.Senders.{attempt_to_come}
use Rattle.bus_law_parts.specs.Parts.{part_ticks}
use Rattle.bus_law_phases.specs.Answers.{AnswerBegins, BeginsAt, MayAbandon}
use Rattle.bus_law_phases.specs.Commands.{begun_at, command_at}
use Rattle.bus_law_phases.specs.Scenarios.{Scenario, shown_at, driven_at, commands_in, course_of, StaysFrom}
use Rattle.bus_law_phases.proofs.AnswerBegun.{shown-by}
use Rattle.bus_law_phases.proofs.AnswerPasses.{begins-at}
use Rattle.bus_law_moments.specs.Begun.{MessageBegan}
use Rattle.bus_law_moments.specs.Told.{AnswerAbandoned}
use Rattle.bus_law_told.specs.Told.{answer_shown}
use Rattle.bus_law_abandoned.specs.Abandoned.{IsAbandoned}
use Rattle.bus_law_abandoned.proofs.Due.{shown-so, course-due, waits-due, passage-due, begins-due}
use Rattle.bus_law_abandoned.proofs.Holders.{waiting-same, waiting-silent, waiting-closes}
use Rattle.bus_law_abandoned.proofs.Message.{abandoned-ran}
use Rattle.bus_law_abandoned.proofs.Running.{RunsFor, ran}
use Rattle.bus_law_abandoned.proofs.Speaker.{HasSpeaker, speaker}
use Rattle.bus_law_abandoned.proofs.Table.{IsAnsweredAlone, NonePromises, answered-alone, none-promise}
use Rattle.bus_law_abandoned.proofs.Ticks.{IsAbandonedIn, abandoned-when, within-range}
use Rattle.bus_law_phases.proofs.Staying.{long-at, stays-later}

module _ (w : Scenario) (t place : ℕ) (holder : StationData) (stations : List Present) (entry : Entry) (ended : List Attempt) (found : List ShownBurst)
    (b : MessageBegan w t holder entry place stations ended found) (alone : IsAnsweredAlone entry.item.kind) (first : ShownAnswer)
    (shows : answer_shown w t holder stations entry ≡ Some first) (tick : ℕ)
    (gone : abandoned_at w.lag entry.item.kind entry.item.abandon (burst_end (command_at w t t holder entry)) first ≡ Some tick)
    (when : IsAbandonedIn entry.item.abandon (burst_end (command_at w t t holder entry)) first tick) (late : 25 ≤ when.n) where
  abbrev begun : Begun
  begun = begun_at w t t holder entry

  abbrev cmd : ShownBurst
  cmd = command_at w t t holder entry

  abbrev e : ℕ
  e = burst_end cmd

  abbrev c : Channel
  c = begun.state.channel

  abbrev u : ℕ
  u = first.sent.start

  abbrev past : List Pair
  past = shown_at w u

  abbrev obeyed : List After
  obeyed = map (after_command w.lag w.loads cmd) stations

  -- its place in the answer of the tick in which it is abandoned
  abbrev i : ℕ
  i = e + when.n - 1 - u

  none-now : StaysFrom w u
  none-now = stays-later w t u (passage-due w t place holder stations entry ended found b alone first shows).later b.none

  long : length (shown_at w u) ≡ u
  long = long-at w u none-now

  begins : AnswerBegins w u place holder First cmd obeyed first
  begins = begins-due w t place holder stations entry ended found b alone first shows

  begins-here : BeginsAt (length (shown_at w u)) First first
  begins-here = subst (λ n. BeginsAt n First first) (sym long) (begins-at w u place holder First cmd obeyed first b.accepted begins)

  -- ---- the ticks

  soon : u ≤ e + 20
  soon = (shown-so w t place holder stations entry ended found b alone first shows).sent.before

  number-at : suc (e + when.n - 1 - u) + u ≡ e + when.n
  number-at = omega (arith, late, soon)

  number : tick ≡ u + i
  number = let is = when.tick_is in omega (arith, is, number-at)

  some : 0 < e + when.n - 1 - u
  some = omega (arith, late, soon)

  start-is : first.burst.start ≡ u
  start-is = ap (λ (x : ShownBurst). x.start) begins-here.burst ∙ long

  end-is : burst_end first.burst ≡ u + part_ticks first.hits first.sent.words
  end-is =
      let end : burst_end first.burst ≡ length (shown_at w u) + (40 * length (struck first.hits first.sent.words) + 0) = ap burst_end begins-here.burst in
      omega (arith, end, long)

  heard : is_faded first (e + when.n - 1 - u) ≡ false
  heard = ap (λ n. is_faded first (e + when.n - 1 - n)) (sym start-is) ∙ when.heard

  inside : suc (e + when.n - 1 - u) ≤ part_ticks first.hits first.sent.words
  inside = let within = when.within in omega (arith, within, end-is, number-at)

  -- ---- the station in control

  awaits : MayAbandon w past holder begun e
  awaits = record {
    holds = begins.moment.holds;
    answered = record {
      runs = ap (λ (d : Course). d.runs) (course-due w t place holder stations entry ended found b alone first shows);
      prompt = omega (arith, long, soon);
    };
    rests = begins.moment.rests c;
  }

  when-at : suc (e + when.n - 1 - u) + length (shown_at w u) ≡ e + when.n
  when-at = omega (arith, number-at, long)

  abbrev closed : Course
  closed = close (course_of w holder past) begun (without_words Abandoned None None) (u + i)

  -- ---- the others

  none : NonePromises obeyed
  none =
      none-promise w.lag w.loads c t (hits_on w.plan.faults (attempt_to_come w.plan.faults Command (driven_at w t)) Command) entry.item stations
      b.entry_of.ranges.kind alone

  spoken : HasSpeaker w (shown_at w u) place cmd.channel first.sent.words first.sent.address
  spoken = speaker w u place holder cmd obeyed first b.accepted begins none none-now

  named : hits_on w.plan.faults (attempt_to_come w.plan.faults First (driven_at w u)) First ≡ first.hits
  named =
      let same : attempt_to_come w.plan.faults First (driven_at w u) ≡ commands_in w (driven_at w u) = omega arith in
      ap (λ n. hits_on w.plan.faults n First) same
      ∙ (shown-by (hits_on w.plan.faults (commands_in w (driven_at w u)) First) (answer_to cmd obeyed) first begins.shown).hits_are

  module _ (who : HasSpeaker w (shown_at w first.sent.start) place (command_at w t t holder entry).channel first.sent.words
      first.sent.address) where
    runs-for : RunsFor w u place holder c First first.sent.words first.hits who.answerer who.answering i closed
    runs-for =
        let lag = b.lag in record {
          lag = b.lag;
          stays = none-now;
          at = begins.moment.at;
          holds = begins.moment.holds;
          same = waiting-same w past holder begun e when.n i First first awaits begins-here
              (waits-due w t place holder stations entry ended found b alone first shows) when.some when-at inside heard;
          silent = waiting-silent w past holder begun e when.n i First first awaits begins-here
              (waits-due w t place holder stations entry ended found b alone first shows) when.some when-at inside heard;
          closes = λ x ticks shown many.
              let count : length (ticks ++ past) ≡ length ticks + length past = length-append ticks past in
              let at : length (ticks ++ past) ≡ u + i = omega (arith, count, many, long) in
              waiting-closes w past holder begun e when.n i First first awaits begins-here
              (waits-due w t place holder stations entry ended found b alone first shows) when.some when-at inside heard x ticks shown many
              ∙ ap (close (course_of w holder past) begun (without_words Abandoned None None)) at;
          kept = refl;
          speaks = who.speaks;
          fresh = begins.moment.fresh c who.answerer;
          spent = begins.moment.spent;
          rests = begins.moment.rests;
          no_command = begins.part_is;
          named = named;
          fits = begins-here.fits;
          inside = inside;
          goes = begins.goes;
        }

    abandoned-by : AnswerAbandoned w t holder stations entry place ended found
    abandoned-by =
        let within = when.within in
        let end : suc tick ≤ burst_end first.burst = omega (arith, within, number, number-at) in
        abandoned-ran w t place holder stations entry ended found b alone first shows tick gone i number some end heard who.answerer who.answering who.address_is runs-for
        (ran w u place holder c First first.sent.words first.hits who.answerer who.answering i closed runs-for)

  abandoned-now : AnswerAbandoned w t holder stations entry place ended found
  abandoned-now = abandoned-by spoken

pub answer-abandoned : (w : Scenario) (t place : ℕ) (holder : StationData) (stations : List Present) (entry : Entry) (ended : List Attempt)
    (found : List ShownBurst) (later : List ItemData) (first : ShownAnswer) (tick : ℕ) → MessageBegan w t holder entry place stations ended found →
    HasSuperseding (entry.item ∷ later) → IsAbandoned w t holder stations entry first tick →
    AnswerAbandoned w t holder stations entry place ended found
answer-abandoned w t place holder stations entry ended found later first tick b superseding is =
    let when : IsAbandonedIn entry.item.abandon (burst_end (command_at w t t holder entry)) first tick =
    abandoned-when w.lag entry.item.kind entry.item.abandon (burst_end (command_at w t t holder entry)) first tick is.abandoned in
    let range : IsBetween 25 1600 when.n = within-range (IsBetween 25 1600) entry.item.abandon when.n b.entry_of.ranges.abandon when.some in
    abandoned-now w t place holder stations entry ended found b
    (answered-alone entry.item.kind later b.entry_of.ranges.kind (superseding.0 (subst IsSome (sym when.some) refl))) first is.shown tick is.abandoned when range.0
