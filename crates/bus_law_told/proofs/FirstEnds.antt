-- The first answer of a message is shown, and ends it: the message is told.
use Rattle.std.proofs.Common.{◌≡◌, inl, inr, ℕ, suc, ◌+◌, false, List, [], ◌∷◌, map, Option, Some, None, refl, sym, ap, ◌∙◌, subst, arith}
use Rattle.std.specs.Prelude.{option_to_list}
use Rattle.bus_base.specs.declared.samples.Part.TheVariants.{Command, First, Second}
use Rattle.bus_line.specs.Channels.{on_channel}
use Rattle.bus_formats.specs.Forms.{answers_of}
use Rattle.bus_formats.specs.Plans.{StationData}
use Rattle.bus_formats.specs.Readings.{read_answer}
use Rattle.bus_formats.specs.Times.{settling_quiet}
use Rattle.bus_formats.specs.declared.form.Outcome.{Outcome}
use Rattle.bus_formats.specs.declared.form.Outcome.TheVariants.{Clear}
use Rattle.bus_formats.specs.declared.form.Reading.{Reading}
use Rattle.bus_formats.specs.declared.form.Reading.TheVariants.{Good, Ends}
use Rattle.bus_formats.specs.declared.form.Shape.{Shape}
use Rattle.bus_model.specs.Attempts.{Begun, Ended, without_words, is_offer, kept_words}
use Rattle.bus_model.specs.Controller.{good_ending, first_read}
use Rattle.bus_model.specs.Message.{Present, After, answer_to}
use Rattle.bus_model.specs.Starts.{Entry, usual, needed_quiet}
use Rattle.bus_model.specs.Strikes.{hits_on, ShownBurst, burst_end, Answer, ShownAnswer}
use Rattle.bus_law_duties.specs.Duties.{AreFree}
use Rattle.bus_law_duties.proofs.Settled.{none-owes-answer}
use Rattle.bus_law_control.proofs.Starting.{reads-plain}
use Rattle.bus_law_stations.specs.Silence.{AwaitsFirst}
use Rattle.bus_law_stations.proofs.Resting.{cases-option}
use Rattle.bus_law_phases.specs.Answers.{burst_read, HoldsBesideShown, MayAbandon}
use Rattle.bus_law_phases.specs.Scenarios.{Scenario, shown_at}
use Rattle.bus_law_phases.proofs.AnswerKept.{kept-first}
use Rattle.bus_law_told.specs.Holders.{answer_read, closed_with}
use Rattle.bus_law_told.specs.Tables.{MessageIs, first_shown, second_shown, IsAnswerTo, IsShownTo}
use Rattle.bus_law_told.specs.Told.{Refuses}
use Rattle.bus_law_moments.specs.Told.{message_at, MessageTold}
use Rattle.bus_law_told.proofs.Ending.{EndsPlainly}
use Rattle.bus_law_told.proofs.FirstShown.{shown-so, begins-first, waits-due, may-abandon, read-alike}
use Rattle.bus_law_told.proofs.FirstAnswer.{stays}
use Rattle.bus_law_told.proofs.FirstClosed.{settled_now, blocks_now, free-told}
use Rattle.bus_law_told.proofs.HoldersReadings.{EndsBadly, reading-ends}
use Rattle.bus_law_told.proofs.Refusals.{refusal-ends, reads-refused, offer-alone}
use Rattle.bus_law_told.proofs.TablesTold.{unanswered-again}
use Rattle.bus_law_told.proofs.Known.{BeginsKept, begun, command, ordered, attempt_begun, by-number, by-answers, ranged}
use Rattle.bus_law_told.proofs.SecondBeside.{mute-told, second-told}
use Rattle.bus_law_told.proofs.TablesDue.{second-due}
use Rattle.bus_law_told.proofs.TablesFree.{settled-unanswered}
use Rattle.bus_law_told.proofs.TablesShown.{second-shown-to, silent-or-mute}

module _ (w : Scenario) (t place : ℕ) (holder : StationData) (stations : List Present) (entry : Entry) (b : BeginsKept w t place holder stations entry)
    (shape : Shape) (expects : (answers_of entry.item.kind).first ≡ Some shape) (first : ShownAnswer)
    (shows : first_shown w.lag w.loads w.plan.faults (attempt_begun w t holder stations entry) entry.item (begun w t holder stations entry).state.channel t
    stations ≡ Some first) where
  abbrev opened : Begun
  opened = begun w t holder stations entry

  abbrev cmd : ShownBurst
  cmd = command w t holder stations entry

  abbrev x : ℕ
  x = burst_end first.burst

  abbrev settled : List After
  settled = settled_now w t place holder stations entry b shape expects first shows

  abbrev n : ℕ
  n = attempt_begun w t holder stations entry

  abbrev again : Option ShownAnswer
  again = second_shown w.lag w.loads w.plan.faults n entry.item opened.state.channel t stations first

  pub so : IsShownTo cmd (is_offer entry.item.kind) first
  so = shown-so w t place holder stations entry b.base shape expects first shows

  waits-now : AwaitsFirst w.lag opened (on_channel cmd.channel (shown_at w first.sent.start)) (burst_end cmd)
  waits-now = waits-due w t place holder stations entry b.base shape expects first shows

  might-now : MayAbandon w (shown_at w first.sent.start) holder opened (burst_end cmd)
  might-now = may-abandon w t place holder stations entry b.base shape expects first shows

  reads-now : (reading : Reading) → read_answer entry.item.kind First first.burst.slots first.burst.rest ≡ reading →
      answer_read opened First (burst_read first.burst) ≡ reading
  reads-now = read-alike w t place holder stations entry b.base shape expects first shows

  -- the second answer of the table, where a terminal owes one
  pub second-answer : (answer : Answer) → answer_to first.burst settled ≡ Some answer → IsAnswerTo first.burst false answer
  second-answer answer is =
      second-due w.lag w.loads opened.state.channel t (hits_on w.plan.faults n Command) entry.item b.base.began.entry_of.ranges.kind first.burst stations
      (ranged w t place holder stations entry b.base) answer is

  -- ---- it ends it as it is read

  module _ (off : is_offer entry.item.kind ≡ false) (outcome : Outcome) (status : Option ℕ)
      (reading : read_answer entry.item.kind First first.burst.slots first.burst.rest ≡ Ends outcome status) where
    abbrev ended : Ended
    ended = without_words outcome status None

    bad : EndsBadly outcome
    bad = reading-ends entry.item.kind First first.burst.slots first.burst.rest outcome status off reading

    beside : HoldsBesideShown w (shown_at w first.sent.start) holder cmd.channel first.hits first.sent.words (burst_read first.burst)
        (closed_with w (shown_at w first.sent.start) holder cmd.channel opened (burst_read first.burst) ended)
    beside =
        kept-first w (shown_at w first.sent.start) holder opened (burst_end cmd) First first might-now
        (begins-first w t place holder stations entry b.base shape expects first shows) (stays w t place holder stations entry b shape expects first shows)
        waits-now ended (λ shown heard.
        ap (first_read w.lag entry.item shown heard (burst_read first.burst)) (reads-now (Ends outcome status) reading)
        ∙ reads-plain w.lag entry.item shown heard (burst_read first.burst) outcome status off) bad.keeps

    plainly : EndsPlainly (begun w t holder stations entry) ended (x + w.lag)
    plainly = record { keeps = bad.keeps; opens = bad.opens opened.state.channel (x + w.lag) ∙ ap (λ q. usual q (suc (x + w.lag))) (sym bad.needs) }

    message-with : (second : Option ShownAnswer) → again ≡ second → MessageIs (message_at w t holder stations entry) ended (x + w.lag) settled
        (blocks_now w t place holder stations entry b shape expects first shows) (cmd ∷ (first.burst ∷ map (λ a. a.burst) (option_to_list second)))
    message-with second is =
        subst (λ o. MessageIs (message_at w t holder stations entry) ended (x + w.lag) settled
        (blocks_now w t place holder stations entry b shape expects first shows) (cmd ∷ (first.burst ∷ map (λ a. a.burst) (option_to_list o)))) is
        (by-number w t place holder stations entry b.base ended (x + w.lag) settled
        (blocks_now w t place holder stations entry b shape expects first shows) (cmd ∷ (first.burst ∷ map (λ a. a.burst) (option_to_list again)))
        ((by-answers w t place holder stations entry b.base).ends shape first outcome status expects shows
        (stays w t place holder stations entry b shape expects first shows) (inl off) reading))

    silent-again : again ≡ None → MessageTold w t holder stations entry place b.base.ended b.base.found
    silent-again silent = elim (silent-or-mute (hits_on w.plan.faults n Second) (answer_to first.burst settled) silent) [
      | inl unowed ↦ (let lag = b.base.began.lag in let needs : needed_quiet outcome ≡ settling_quiet = bad.needs in
          free-told w t place holder stations entry b shape expects first shows ended beside
          (settled-unanswered w.lag w.loads first.burst (ordered w t holder stations entry) unowed) (message-with None silent) (omega (arith, lag, needs)) plainly)
      | inr mute ↦ mute-told w t place holder stations entry b shape expects first shows ended beside bad mute.0 mute.1 (second-answer mute.0 mute.1) silent
          plainly (message-with None silent)
    ]

    pub first-ends-told : MessageTold w t holder stations entry place b.base.ended b.base.found
    first-ends-told = elim (cases-option again) [
      | inl silent ↦ silent-again silent
      | inr shown ↦ second-told w t place holder stations entry b shape expects first shows ended beside bad shown.0 shown.1
          (second-shown-to w.lag w.loads w.plan.faults n entry.item opened.state.channel t stations b.base.began.entry_of.ranges.kind
          (ranged w t place holder stations entry b.base) first shown.0 shown.1) plainly (message-with (Some shown.0) shown.1)
    ]

  -- ---- it is good, and the last

  module _ (status : ℕ) (reading : read_answer entry.item.kind First first.burst.slots first.burst.rest ≡ Good status)
      (alone : (answers_of entry.item.kind).second ≡ None) where
    abbrev cleared : Ended
    cleared = record (without_words Clear (Some status) None) { words = kept_words entry.item.kind first.burst.slots }

    beside-clear : HoldsBesideShown w (shown_at w first.sent.start) holder cmd.channel first.hits first.sent.words (burst_read first.burst)
        (closed_with w (shown_at w first.sent.start) holder cmd.channel opened (burst_read first.burst) cleared)
    beside-clear =
        kept-first w (shown_at w first.sent.start) holder opened (burst_end cmd) First first might-now
        (begins-first w t place holder stations entry b.base shape expects first shows) (stays w t place holder stations entry b shape expects first shows)
        waits-now cleared (λ shown heard.
        ap (first_read w.lag entry.item shown heard (burst_read first.burst)) (reads-now (Good status) reading)
        ∙ ap (good_ending w.lag entry.item shown heard status (burst_read first.burst)) alone) refl

    all-free : AreFree settled
    all-free =
        none-owes-answer w.lag w.loads opened.state.channel t (hits_on w.plan.faults n Command) entry.item first.burst stations
        b.base.began.entry_of.ranges.kind alone

    pub first-clear-told : MessageTold w t holder stations entry place b.base.ended b.base.found
    first-clear-told =
        let lag = b.base.began.lag in
        free-told w t place holder stations entry b shape expects first shows cleared beside-clear all-free
        (by-number w t place holder stations entry b.base cleared (x + w.lag) settled
        (blocks_now w t place holder stations entry b shape expects first shows) (cmd ∷ first.burst ∷ [])
        ((by-answers w t place holder stations entry b.base).clear shape first status expects shows
        (stays w t place holder stations entry b shape expects first shows) reading alone).1) (omega (arith, lag))
        record { keeps = refl; opens = refl }

  -- ---- it refuses an offer

  module _ (refused : Refuses entry.item.kind first) where
    abbrev refusal : Ended
    refusal = without_words refused.outcome refused.status None

    beside-refused : HoldsBesideShown w (shown_at w first.sent.start) holder cmd.channel first.hits first.sent.words (burst_read first.burst)
        (closed_with w (shown_at w first.sent.start) holder cmd.channel opened (burst_read first.burst) refusal)
    beside-refused =
        kept-first w (shown_at w first.sent.start) holder opened (burst_end cmd) First first might-now
        (begins-first w t place holder stations entry b.base shape expects first shows) (stays w t place holder stations entry b shape expects first shows)
        waits-now refusal (λ shown heard.
        ap (first_read w.lag entry.item shown heard (burst_read first.burst)) (reads-now (Ends refused.outcome refused.status) refused.reading)
        ∙ reads-refused w.lag entry.item shown heard (burst_read first.burst) (is_offer entry.item.kind) refused.outcome refused.status refused.refuses)
        (refusal-ends refused.outcome refused.refuses).keeps

    none-second : (answers_of entry.item.kind).second ≡ None
    none-second = offer-alone entry.item.kind refused.offers

    free-refused : AreFree settled
    free-refused =
        none-owes-answer w.lag w.loads opened.state.channel t (hits_on w.plan.faults n Command) entry.item first.burst stations b.base.began.entry_of.ranges.kind
        none-second

    silent-then : again ≡ None
    silent-then = unanswered-again w.lag w.loads w.plan.faults n entry.item opened.state.channel t stations first free-refused

    pub refused-told : MessageTold w t holder stations entry place b.base.ended b.base.found
    refused-told =
        let lag = b.base.began.lag in
        let few = (refusal-ends refused.outcome refused.refuses).needs in
        free-told w t place holder stations entry b shape expects first shows refusal beside-refused free-refused
        (subst (λ o. MessageIs (message_at w t holder stations entry) refusal (x + w.lag) settled
        (blocks_now w t place holder stations entry b shape expects first shows) (cmd ∷ (first.burst ∷ map (λ a. a.burst) (option_to_list o)))) silent-then
        (by-number w t place holder stations entry b.base refusal (x + w.lag) settled
        (blocks_now w t place holder stations entry b shape expects first shows) (cmd ∷ (first.burst ∷ map (λ a. a.burst) (option_to_list again)))
        ((by-answers w t place holder stations entry b.base).ends shape first refused.outcome refused.status expects shows
        (stays w t place holder stations entry b shape expects first shows) (inr refused.refuses) refused.reading)))
        (omega (arith, lag, few)) record {
          keeps = (refusal-ends refused.outcome refused.refuses).keeps;
          opens = (refusal-ends refused.outcome refused.refuses).opens opened.state.channel (x + w.lag);
        }
