-- The ticks of an answer as they are sent, with the one in which its end becomes known.
use Rattle.std.proofs.Common.{◌≡◌, ◌≢◌, ℕ, suc, ◌+◌, ◌<◌, false, List, ◌∷◌, ◌++◌, length, Some, None, arith}
use Rattle.std.specs.Prelude.{slice_get}
use Rattle.bus_base.specs.declared.samples.Channel.{Channel}
use Rattle.bus_base.specs.declared.samples.Drive.{Drive}
use Rattle.bus_base.specs.declared.samples.Drive.TheVariants.{Silent}
use Rattle.bus_base.specs.declared.samples.Pair.{Pair}
use Rattle.bus_base.specs.declared.samples.Part.{Part}
use Rattle.bus_base.specs.declared.samples.Part.TheVariants.{Command}
use Rattle.bus_words.specs.declared.word.Word.{Word}
use Rattle.bus_line.specs.Past.{runs}
use Rattle.bus_line.specs.Channels.{on_channel}
use Rattle.bus_formats.specs.Plans.{StationData}
use Rattle.bus_formats.specs.declared.fault.Hit.{Hit}
use Rattle.bus_model.specs.Sending.{drive_sample}
use Rattle.bus_model.specs.Strikes.{hits_on}
use Rattle.bus_model.specs.Terminal.{took_now}
use Rattle.bus_model.specs.Transmissions.{station_drive}
use Rattle.bus_model.specs.World.{drives_after}
use Rattle.bus_law_line.specs.Senders.{Sender, IsSpent, attempt_to_come}
use Rattle.bus_law_parts.specs.Parts.{part_ticks, HitsFit, IsFresh}
use Rattle.bus_law_parts.proofs.Counting.{count-answer}
use Rattle.bus_law_phases.specs.PartRuns.{PartRuns, IsFirstOf}
use Rattle.bus_law_phases.specs.Passages.{HoldsAlone}
use Rattle.bus_law_phases.specs.Scenarios.{Scenario, trace_at, shown_at, driven_at, commands_in, course_of, hearing_of, IsPresentAt, is_over_at, StaysFrom}
use Rattle.bus_law_phases.specs.Silences.{GoesOnTo}
use Rattle.bus_law_phases.proofs.AnswerQuiet.{answer-goes-on}
use Rattle.bus_law_phases.proofs.AnswerSending.{Speaks, own-drives, others-silent, all-still, all-takes, held}
use Rattle.bus_law_phases.proofs.PartTicks.{PartTicks, all-ticks}
use Rattle.bus_law_phases.proofs.Staying.{long-at}

module _ (w : Scenario) (t place : ℕ) (holder : StationData) (c : Channel) (part : Part) (words : List Word) (answerer : ℕ) (answering : StationData)
    (hits : List Hit) (lag : w.lag ≡ 3) (stays : StaysFrom w t) (speaks : Speaks w (shown_at w t) place holder c part words hits answerer answering)
    (fresh : IsFresh w.plan.faults c (driven_at w t) answerer)
    (spent : (d : Channel) (station : ℕ) → IsSpent w.plan.faults d (driven_at w t) station)
    (rests : (d : Channel) → runs w.lag (on_channel d (shown_at w t)) ≡ false) (no_command : part ≢ Command)
    (named : hits_on w.plan.faults (attempt_to_come w.plan.faults part (driven_at w t)) part ≡ hits) (fits : HitsFit part hits words)
    (some : 0 < part_ticks hits words) (goes : GoesOnTo w (shown_at w t) (suc t)) where
  abbrev past : List Pair
  past = shown_at w t

  abbrev s : Sender
  s = record { station = answerer; channel = c; part = part; words = words }

  abbrev limit : ℕ
  limit = part_ticks hits words + suc w.lag

  own : (ticks : List Pair) → IsFirstOf w.lag c hits words ticks → length ticks < limit →
      slice_get (drives_after w.lag w.plan w.loads w.outside w.absent (ticks ++ past)) answerer ≡ Some (drive_sample c part words (length ticks))
  own ticks alone few = own-drives w past place holder c part words hits answerer answering lag speaks ticks alone

  others : (ticks : List Pair) → IsFirstOf w.lag c hits words ticks → length ticks < limit → (other : ℕ) → other ≢ answerer →
      station_drive other (drives_after w.lag w.plan w.loads w.outside w.absent (ticks ++ past)) ≡ Silent
  others ticks alone few = others-silent w past place holder c part words hits answerer answering lag speaks ticks alone

  still : (ticks : List Pair) → IsFirstOf w.lag c hits words ticks → length ticks < limit → (other : ℕ) (station : StationData) → IsPresentAt w other station →
      (course_of w station (ticks ++ past)).ended ≡ (course_of w station past).ended
  still ticks alone few = all-still w past place holder c part words hits answerer answering lag speaks ticks alone

  takes : (x : Pair) (ticks : List Pair) → IsFirstOf w.lag c hits words (x ∷ ticks) → length (x ∷ ticks) < limit → (other : ℕ) (station : StationData) →
      IsPresentAt w other station → took_now w.lag station.terminal w.loads (hearing_of w station ((x ∷ ticks) ++ past)) ≡ None
  takes x ticks alone few = all-takes w past place holder c part words hits answerer answering lag speaks x ticks alone

  hands : (ticks : List Pair) → IsFirstOf w.lag c hits words ticks → length ticks < limit → HoldsAlone w (ticks ++ past)
  hands ticks alone few = held w past place holder c part words hits answerer answering lag speaks ticks alone

  goes-for : (ticks : List Pair) → IsFirstOf w.lag c hits words ticks → length ticks < limit → (i : ℕ) → shown_at w i ≡ ticks ++ past →
      is_over_at w i ≡ false
  goes-for ticks alone few = answer-goes-on w t c past ticks lag (long-at w t stays) goes alone.alone

  -- no command began
  counted-by : (n : ℕ) → 0 < n → (more : List Pair) (out : List (List Drive)) → PartRuns w (trace_at w t) s hits n more out →
      commands_in w (out ++ driven_at w t) ≡ commands_in w (driven_at w t) + 0
  counted-by n some more out so =
      let same = count-answer w.plan.faults s (driven_at w t) out so.part.ticks no_command so.commands in omega (arith, same)

  pub answer-ticks : PartTicks w t (record { station = answerer; channel = c; part = part; words = words }) hits 0
  answer-ticks = all-ticks w t s hits lag stays fresh spent rests named fits some own others still takes hands goes-for 0 counted-by
