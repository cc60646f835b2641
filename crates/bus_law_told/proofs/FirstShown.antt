-- A first answer that is shown, from the end of its command on.
use Rattle.std.proofs.Common.{◌≡◌, ℕ, suc, ◌+◌, false, List, length, map, Some, refl, sym, ap, ◌∙◌, subst, arith}
use Rattle.bus_base.specs.declared.samples.Part.TheVariants.{Command, First, Second}
use Rattle.bus_line.specs.Past.{rest_of}
use Rattle.bus_line.specs.Channels.{on_channel}
use Rattle.bus_formats.specs.Forms.{answers_of}
use Rattle.bus_formats.specs.Plans.{StationData}
use Rattle.bus_formats.specs.Readings.{read_answer}
use Rattle.bus_formats.specs.declared.form.Reading.{Reading}
use Rattle.bus_formats.specs.declared.form.Shape.{Shape}
use Rattle.bus_formats.specs.declared.fault.Hit.{Hit}
use Rattle.bus_model.specs.Attempts.{Begun, is_offer}
use Rattle.bus_model.specs.Course.{Course}
use Rattle.bus_model.specs.Message.{Present, After, answer_to, after_answer}
use Rattle.bus_model.specs.Starts.{Entry}
use Rattle.bus_model.specs.Strikes.{hits_on, ShownBurst, burst_end, ShownAnswer, shown_answer}
use Rattle.bus_law_duties.specs.Duties.{AtMostOneOwes}
use Rattle.bus_law_duties.proofs.Settled.{one-owes-answer}
use Rattle.bus_law_parts.specs.Parts.{HitsFit}
use Rattle.bus_law_stations.specs.Silence.{AwaitsFirst}
use Rattle.bus_law_phases.specs.Answers.{MayAbandon, burst_read, HoldsBesideShown, BeginsAt, AnswerOver}
use Rattle.bus_law_phases.specs.Passages.{Happening, followed_by}
use Rattle.bus_law_phases.specs.Scenarios.{Scenario, shown_at, driven_at, commands_in}
use Rattle.bus_law_phases.proofs.AnswerBegun.{IsShownBy, shown-by, answer-fits}
use Rattle.bus_law_told.specs.Holders.{answer_read, IsAnsweredInTime}
use Rattle.bus_law_told.specs.Tables.{first_shown, IsShownTo}
use Rattle.bus_law_told.proofs.Answered.{answer_happens, answer-over, answered-came}
use Rattle.bus_law_told.proofs.Coming.{Came}
use Rattle.bus_law_told.proofs.FirstDue as due
use Rattle.bus_law_told.proofs.Known.{Begins, c0, begun, command, ordered, attempt_begun, command_happens, numbered, ranged}
use Rattle.bus_law_told.proofs.TablesDue.{loads-fit}
use Rattle.bus_law_told.proofs.TablesShown.{first-shown-to}
use Rattle.bus_law_phases.proofs.Staying.{long-later}

-- no partial word stands after an answer as it is shown
pub same-rest : (burst : ShownBurst) → burst.rest ≡ 0 → rest_of (burst_read burst) ≡ burst.rest
same-rest burst none = omega (arith, none)

module _ (w : Scenario) (t place : ℕ) (holder : StationData) (stations : List Present) (entry : Entry) (b : Begins w t place holder stations entry)
    (shape : Shape) (expects : (answers_of entry.item.kind).first ≡ Some shape) (first : ShownAnswer)
    (shows : first_shown w.lag w.loads w.plan.faults (attempt_begun w t holder stations entry) entry.item (begun w t holder stations entry).state.channel t
    stations ≡ Some first) where
  abbrev start : Course
  start = c0 w t holder stations entry

  abbrev opened : Begun
  opened = begun w t holder stations entry

  abbrev cmd : ShownBurst
  cmd = command w t holder stations entry

  abbrev obeyed : List After
  obeyed = ordered w t holder stations entry

  abbrev pub before : Happening
  before = command_happens w t place holder stations entry b

  pub shown-so : IsShownTo cmd (is_offer entry.item.kind) first
  shown-so =
      first-shown-to w.lag w.loads w.plan.faults (attempt_begun w t holder stations entry) entry.item opened.state.channel t stations
      b.began.entry_of.ranges.kind (ranged w t place holder stations entry b) (loads-fit w.loads b.began.blocks) first shows

  abbrev hits : List Hit
  hits = hits_on w.plan.faults (attempt_begun w t holder stations entry) First

  is : IsShownBy hits (answer_to cmd obeyed) first
  is = shown-by hits (answer_to cmd obeyed) first shows

  pub found : answer_to cmd obeyed ≡ Some first.sent
  found = is.sent

  pub came-first : Came w t place holder start first.sent.start cmd.channel (burst_end cmd) First obeyed before
  came-first = due.came-first w t place holder stations entry b shape expects first.sent found shown-so.sent

  -- it begins where it is due
  pub begins-first : BeginsAt (length (shown_at w first.sent.start)) First first
  begins-first =
      let many : length (shown_at w first.sent.start) ≡ first.sent.start = long-later w t first.sent.start came-first.passage.later b.began.none in
      subst (λ n. BeginsAt n First first) (sym many) record {
        burst = is.burst;
        fits = subst (λ hs. HitsFit First hs first.sent.words) is.hits_are
            (answer-fits w.plan (attempt_begun w t holder stations entry) First first.sent b.began.accepted shown-so.sent.words);
      }

  abbrev pub settled_first : List After
  settled_first = map (after_answer w.lag w.loads first.burst) obeyed

  pub one-owes : AtMostOneOwes settled_first
  one-owes =
      one-owes-answer w.lag w.loads opened.state.channel t (hits_on w.plan.faults (attempt_begun w t holder stations entry) Command) entry.item first.burst
      stations b.began.entry_of.ranges.kind b.began.apart

  pub shows-numbered : shown_answer (hits_on w.plan.faults (suc (commands_in w (driven_at w t))) First) (answer_to cmd obeyed) ≡ Some first
  shows-numbered =
      subst (λ n. shown_answer (hits_on w.plan.faults n First) (answer_to cmd obeyed) ≡ Some first) (numbered w t place holder stations entry b) shows

  -- ---- the station in control waits for it

  pub waits-due : AwaitsFirst w.lag opened (on_channel cmd.channel (shown_at w first.sent.start)) (burst_end cmd)
  waits-due =
      due.waits-first w t place holder stations entry b shape expects first.sent found shown-so.sent

  pub in-time-due : IsAnsweredInTime w (shown_at w first.sent.start) holder cmd.channel opened (burst_end cmd)
  in-time-due =
      due.in-time-first w t place holder stations entry b shape expects first.sent found shown-so.sent

  -- it might abandon the message, and doesn't
  pub may-abandon : MayAbandon w (shown_at w first.sent.start) holder opened (burst_end cmd)
  may-abandon = record {
    holds = in-time-due.at.holds;
    answered = record { runs = in-time-due.started; prompt = in-time-due.prompt };
    rests = in-time-due.at.rests;
  }

  -- the controller reads the slots of the table
  pub read-alike : (reading : Reading) → read_answer entry.item.kind First first.burst.slots first.burst.rest ≡ reading →
      answer_read opened First (burst_read first.burst) ≡ reading
  read-alike reading is = ap (read_answer entry.item.kind First first.burst.slots) (same-rest first.burst shown-so.rest) ∙ is

  -- ---- the answer is sent

  module _ (declines : first.sent.acceptance ≡ false) (later : Course)
      (beside : HoldsBesideShown w (shown_at w first.sent.start) holder cmd.channel first.hits first.sent.words (burst_read first.burst) later) where
    pub over-first : AnswerOver w first.sent.start (burst_end first.burst + suc w.lag) place holder cmd obeyed first.burst later
    over-first =
        answer-over w t place holder start b.began.none b.began.lag b.began.accepted first.sent.start cmd First obeyed before came-first first refl
        shows-numbered refl shown-so.sent.words
        declines (λ e. absurd (cc e)) one-owes (due.goes-first w t place holder stations entry b shape expects first.sent found shown-so.sent) later beside

    pub came-after-first : Came w t place holder start (burst_end first.burst + suc w.lag) cmd.channel (burst_end first.burst) Second settled_first
        (followed_by before (answer_happens w holder obeyed first.burst later))
    came-after-first =
        answered-came w t place holder start b.began.none b.began.lag b.began.accepted first.sent.start cmd First obeyed before came-first first refl
        shows-numbered refl shown-so.sent.words
        declines (λ e. absurd (cc e)) one-owes (due.goes-first w t place holder stations entry b shape expects first.sent found shown-so.sent) later beside
