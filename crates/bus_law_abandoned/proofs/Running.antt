-- An answer runs to the tick in which it is abandoned: what is shown of it, and what came to pass before that tick.
use Rattle.std.proofs.Common.{◌≡◌, ◌≢◌, inl, inr, ℕ, suc, ◌+◌, ◌<◌, ◌≤◌, true, false, List, [], ◌∷◌, ◌++◌, length, Some, None, sym, ap, ◌∙◌, subst, arith}
use Rattle.std.proofs.lemmas.Bool.{cases_eq}
use Rattle.std.specs.Prelude.{slice_get}
use Rattle.bus_base.specs.declared.samples.Channel.{Channel}
use Rattle.bus_base.specs.declared.samples.Drive.{Drive}
use Rattle.bus_base.specs.declared.samples.Drive.TheVariants.{Silent}
use Rattle.bus_base.specs.declared.samples.Pair.{Pair}
use Rattle.bus_base.specs.declared.samples.Part.{Part}
use Rattle.bus_base.specs.declared.samples.Part.TheVariants.{Command}
use Rattle.bus_words.specs.declared.word.Word.{Word}
use Rattle.bus_line.specs.Past.{InLeg, quiet_ticks, runs}
use Rattle.bus_line.specs.Channels.{on_channel}
use Rattle.bus_formats.specs.Plans.{StationData}
use Rattle.bus_formats.specs.declared.fault.Hit.{Hit}
use Rattle.bus_model.specs.Control.{drives_next}
use Rattle.bus_model.specs.Course.{Course}
use Rattle.bus_model.specs.Sending.{drive_sample}
use Rattle.bus_model.specs.Starts.{starts}
use Rattle.bus_model.specs.Strikes.{hits_on}
use Rattle.bus_model.specs.Terminal.{took_now}
use Rattle.bus_model.specs.Transmissions.{drive_or, station_drive}
use Rattle.bus_model.specs.Wire.{shown}
use Rattle.bus_model.specs.World.{Trace, drives_after}
use Rattle.bus_law_control.proofs.Holding.{heard-nothing}
use Rattle.bus_law_line.specs.Senders.{Sender, IsSpent, attempt_to_come}
use Rattle.bus_law_line.specs.Shown.{first_samples}
use Rattle.bus_law_messages.proofs.Sending.{place-silent, place-drives}
use Rattle.bus_law_parts.specs.Parts.{part_ticks, part_sample, HitsFit, IsFresh}
use Rattle.bus_law_parts.proofs.Counting.{count-answer}
use Rattle.bus_law_parts.proofs.PartBursts.{leg-part}
use Rattle.bus_law_table.proofs.Takes.{unheard-takes}
use Rattle.bus_law_phases.specs.PartRuns.{IsFirstOf, PartRuns}
use Rattle.bus_law_phases.specs.Passages.{HoldsAlone, Passage}
use Rattle.bus_law_phases.specs.Scenarios.{Scenario, trace_at, shown_at, driven_at, commands_in, course_of, hearing_of, IsPresentAt, drivers_at, is_over_at, StaysFrom}
use Rattle.bus_law_phases.specs.Silences.{GoesOnTo}
use Rattle.bus_law_phases.proofs.AnswerQuiet.{answer-goes-on}
use Rattle.bus_law_phases.proofs.Commanding.{by-place}
use Rattle.bus_law_phases.proofs.Legs.{sent-ticks, first-for, trace-is, drives-one, goes-on, leg-passes}
use Rattle.bus_law_phases.proofs.PartRunning.{one-more}
use Rattle.bus_law_abandoned.proofs.Others.{Speaks, free-silent, answerer-drives, others-same, others-take, others-serve}
use Rattle.bus_law_phases.proofs.Staying.{long-at}

-- from tick t on an answer begins, as these hits strike it; the station in control only waits for i ticks more, and with the tick after them it has
-- this course
pub record RunsFor (w : Scenario) (t place : ℕ) (holder : StationData) (c : Channel) (part : Part) (words : List Word) (hits : List Hit) (answerer : ℕ)
    (answering : StationData) (i : ℕ) (later : Course) : Type 0 where
  pub lag : w.lag ≡ 3
  pub stays : StaysFrom w t
  -- the station in control
  pub at : IsPresentAt w place holder
  pub holds : (course_of w holder (shown_at w t)).holds ≡ true
  pub same : (ticks : List Pair) → IsFirstOf w.lag c hits words ticks → length ticks < suc i →
      course_of w holder (ticks ++ shown_at w t) ≡ course_of w holder (shown_at w t)
  pub silent : (ticks : List Pair) → IsFirstOf w.lag c hits words ticks → length ticks < suc i →
      drives_next w.lag holder (starts w.plan holder) w.loads w.outside (ticks ++ shown_at w t) ≡ Silent
  pub closes : (x : Pair) (ticks : List Pair) → IsFirstOf w.lag c hits words (x ∷ ticks) → length ticks ≡ i →
      course_of w holder (x ∷ (ticks ++ shown_at w t)) ≡ later
  pub kept : later.holds ≡ true
  -- the others
  pub speaks : Speaks w (shown_at w t) place c part words answerer answering
  -- nothing was left on the channels
  pub fresh : IsFresh w.plan.faults c (driven_at w t) answerer
  pub spent : (d : Channel) (station : ℕ) → IsSpent w.plan.faults d (driven_at w t) station
  pub rests : (d : Channel) → runs w.lag (on_channel d (shown_at w t)) ≡ false
  -- these hits are the plan's, and something of the answer is shown, for so long at least
  pub no_command : part ≢ Command
  pub named : hits_on w.plan.faults (attempt_to_come w.plan.faults part (driven_at w t)) part ≡ hits
  pub fits : HitsFit part hits words
  pub inside : suc i ≤ part_ticks hits words
  pub goes : GoesOnTo w (shown_at w t) (suc t)

-- it ran for so many ticks, and one tick more
pub record RanFor (w : Scenario) (t : ℕ) (s : Sender) (hits : List Hit) (i : ℕ) : Type 0 where
  -- the newest tick, and those before it
  pub newest : Pair
  pub ticks : List Pair
  pub driven : List Drive
  pub sent : List (List Drive)
  pub whole : PartRuns w (trace_at w t) s hits (suc i) (newest ∷ ticks) (driven ∷ sent)
  pub first : IsFirstOf w.lag s.channel hits s.words ticks
  pub all : IsFirstOf w.lag s.channel hits s.words (newest ∷ ticks)
  pub many : length ticks ≡ i
  pub before : shown_at w (t + i) ≡ ticks ++ shown_at w t
  pub trace : trace_at w (t + suc i) ≡ record { shown = (newest ∷ ticks) ++ shown_at w t; driven = (driven ∷ sent) ++ driven_at w t }
  -- nothing came to pass before the newest, which is in order
  pub passed : Passage w t (t + i) record { blocks = []; bursts = []; attempts = []; commands = 0 }
  pub counted : commands_in w (driven_at w (t + suc i)) ≡ commands_in w (driven_at w t) + 0
  pub drives : (d : Channel) → drivers_at w (t + i) d ≤ 1
  pub goes_on : is_over_at w (t + i) ≡ false

module _ (w : Scenario) (t place : ℕ) (holder : StationData) (c : Channel) (part : Part) (words : List Word) (hits : List Hit) (answerer : ℕ)
    (answering : StationData) (i : ℕ) (later : Course) (so : RunsFor w t place holder c part words hits answerer answering i later) where
  abbrev past : List Pair
  past = shown_at w t

  abbrev s : Sender
  s = record { station = answerer; channel = c; part = part; words = words }

  -- ---- what each station does in its ticks

  own : (ticks : List Pair) → IsFirstOf w.lag c hits words ticks → length ticks < suc i →
      slice_get (drives_after w.lag w.plan w.loads w.outside w.absent (ticks ++ past)) answerer ≡ Some (drive_sample c part words (length ticks))
  own ticks first few = answerer-drives w past place c part words answerer answering so.lag so.speaks ticks first.alone

  others : (ticks : List Pair) → IsFirstOf w.lag c hits words ticks → length ticks < suc i → (other : ℕ) → other ≢ answerer →
      station_drive other (drives_after w.lag w.plan w.loads w.outside w.absent (ticks ++ past)) ≡ Silent
  others ticks first few other aside = elim (cases_eq other place) [
    | inl same ↦ ap (λ n. station_drive n (drives_after w.lag w.plan w.loads w.outside w.absent (ticks ++ past))) same
        ∙ ap drive_or (place-drives w.lag w.plan w.loads w.outside w.absent (ticks ++ past) place holder Silent so.at.there so.at.present
        (so.silent ticks first few))
    | inr away ↦ place-silent w.lag w.plan w.loads w.outside w.absent (ticks ++ past) other (λ station there present.
        let at : IsPresentAt w other station = record { there = there; present = present } in
        free-silent w past place c part words answerer answering so.lag so.speaks other station at (so.speaks.frees other station at away aside) ticks
        first.alone)
  ]

  still : (ticks : List Pair) → IsFirstOf w.lag c hits words ticks → length ticks < suc i → (other : ℕ) (station : StationData) →
      IsPresentAt w other station → (course_of w station (ticks ++ past)).ended ≡ (course_of w station past).ended
  still ticks first few =
      by-place w (λ station. (course_of w station (ticks ++ past)).ended ≡ (course_of w station past).ended) place holder so.at
      (ap (λ (d : Course). d.ended) (so.same ticks first few))
      (λ other station at away. ap (λ (d : Course). d.ended)
      (others-same w past place c part words answerer answering so.lag so.speaks ticks first.alone other station at away))

  held : (ticks : List Pair) → IsFirstOf w.lag c hits words ticks → length ticks < suc i → (course_of w holder (ticks ++ past)).holds ≡ true
  held ticks first few = ap (λ (d : Course). d.holds) (so.same ticks first few) ∙ so.holds

  takes : (x : Pair) (ticks : List Pair) → IsFirstOf w.lag c hits words (x ∷ ticks) → length (x ∷ ticks) < suc i → (other : ℕ) (station : StationData) →
      IsPresentAt w other station → took_now w.lag station.terminal w.loads (hearing_of w station ((x ∷ ticks) ++ past)) ≡ None
  takes x ticks first few =
      by-place w (λ station. took_now w.lag station.terminal w.loads (hearing_of w station ((x ∷ ticks) ++ past)) ≡ None) place holder so.at
      (unheard-takes w.lag holder (starts w.plan holder) w.loads w.outside x (ticks ++ past)
      (heard-nothing w.lag holder (starts w.plan holder) w.loads w.outside ((x ∷ ticks) ++ past) (held (x ∷ ticks) first few)))
      (others-take w past place c part words answerer answering so.lag so.speaks x ticks first.alone)

  hands : (ticks : List Pair) → IsFirstOf w.lag c hits words ticks → length ticks < suc i → HoldsAlone w (ticks ++ past)
  hands ticks first few = record {
    place = place;
    holder = holder;
    at = so.at;
    holds = held ticks first few;
    others = others-serve w past place c part words answerer answering so.lag so.speaks ticks first.alone;
  }

  goes-for : (ticks : List Pair) → IsFirstOf w.lag c hits words ticks → length ticks < suc i → (j : ℕ) → shown_at w j ≡ ticks ++ past →
      is_over_at w j ≡ false
  goes-for ticks first few = answer-goes-on w t c past ticks so.lag (long-at w t so.stays) so.goes first.alone

  -- no command began
  counted-by : (n : ℕ) (more : List Pair) (out : List (List Drive)) → PartRuns w (trace_at w t) s hits n more out →
      commands_in w (out ++ driven_at w t) ≡ commands_in w (driven_at w t) + 0
  counted-by n more out ran =
      let same = count-answer w.plan.faults s (driven_at w t) out ran.part.ticks so.no_command ran.commands in omega (arith, same)

  -- ---- its ticks

  some : 0 < part_ticks hits words
  some = let inside = so.inside in omega (arith, inside)

  bound : suc i ≤ part_ticks hits words + 4
  bound = let inside = so.inside in omega (arith, inside)

  abbrev sent-first : (ticks : List Pair) × (sent : List (List Drive)) × PartRuns w (trace_at w t) s hits i ticks sent
  sent-first =
      sent-ticks w t s hits (suc i) so.lag so.stays so.fresh so.spent so.rests so.named so.fits some bound own others still takes hands goes-for i (omega arith)

  abbrev ticks : List Pair
  ticks = sent-first.0

  abbrev sent : List (List Drive)
  sent = sent-first.1

  abbrev driven : List Drive
  driven = drives_after w.lag w.plan w.loads w.outside w.absent (ticks ++ past)

  abbrev x : Pair
  x = shown w.plan.faults ((driven ∷ sent) ++ driven_at w t)

  whole-at : PartRuns w (trace_at w t) s hits (suc i) (x ∷ ticks) (driven ∷ sent)
  whole-at =
      one-more w (trace_at w t) s hits (suc i) so.lag so.fresh so.spent so.named so.fits some bound own others i ticks sent (omega arith) sent-first.2

  first-at : IsFirstOf w.lag c hits words ticks
  first-at =
      first-for w t s hits (suc i) so.lag so.stays so.fresh so.spent so.rests so.named so.fits some bound own others still takes hands goes-for i ticks sent
      (omega arith) sent-first.2

  -- with the newest it runs still
  all-at : IsFirstOf w.lag c hits words (x ∷ ticks)
  all-at =
      let inside = so.inside in record {
        alone = record {
          leg = subst (λ xs. InLeg w.lag xs) (sym whole-at.shown) (leg-part w.lag part hits words so.lag so.fits some (suc i) (omega (arith, inside)));
          quiet = whole-at.quiet ∙ ap quiet_ticks (sym whole-at.many);
        };
        shown = whole-at.shown ∙ ap (first_samples (part_sample hits words)) (sym whole-at.many);
      }

  then-trace : trace_at w (t + suc i) ≡ record { shown = (x ∷ ticks) ++ past; driven = (driven ∷ sent) ++ driven_at w t }
  then-trace =
      trace-is w t s hits (suc i) so.lag so.stays so.fresh so.spent so.rests so.named so.fits some bound own others still takes hands goes-for (suc i) (x ∷ ticks)
      (driven ∷ sent) whole-at

  pub ran : RanFor w t (record { station = answerer; channel = c; part = part; words = words }) hits i
  ran = record {
    newest = x;
    ticks = ticks;
    driven = driven;
    sent = sent;
    whole = whole-at;
    first = first-at;
    all = all-at;
    many = sent-first.2.many;
    before = ap (λ (tr : Trace). tr.shown)
        (trace-is w t s hits (suc i) so.lag so.stays so.fresh so.spent so.rests so.named so.fits some bound own others still takes hands goes-for i ticks sent
        sent-first.2);
    trace = then-trace;
    passed = leg-passes w t s hits (suc i) so.lag so.stays so.fresh so.spent so.rests so.named so.fits some bound own others still takes hands goes-for i (omega arith)
        0 (counted-by i);
    counted = ap (λ (tr : Trace). commands_in w tr.driven) then-trace ∙ counted-by (suc i) (x ∷ ticks) (driven ∷ sent) whole-at;
    drives = drives-one w t s hits (suc i) so.lag so.stays so.fresh so.spent so.rests so.named so.fits some bound own others still takes hands goes-for i (omega arith);
    goes_on = goes-on w t s hits (suc i) so.lag so.stays so.fresh so.spent so.rests so.named so.fits some bound own others still takes hands goes-for i (omega arith);
  }
