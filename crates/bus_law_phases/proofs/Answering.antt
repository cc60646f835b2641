-- A serving station that answers: it sends its words and hears none of them.
use Rattle.std.proofs.Common.{◌≡◌, ℕ, suc, ◌+◌, ◌<◌, ◌≤◌, Bool, false, List, [], ◌∷◌, ◌++◌, length, None, sym, ap, ◌∙◌, arith, length-append}
use Rattle.std.specs.Prelude.{drop}
use Rattle.bus_base.specs.Samples.{sample_on, other_of}
use Rattle.bus_base.specs.declared.samples.Channel.{Channel}
use Rattle.bus_base.specs.declared.samples.Pair.{Pair}
use Rattle.bus_base.specs.declared.samples.Part.{Part}
use Rattle.bus_base.specs.declared.samples.Sample.{Sample}
use Rattle.bus_words.specs.declared.word.Word.{Word}
use Rattle.bus_line.specs.Past.{quiet_ticks}
use Rattle.bus_formats.specs.Plans.{TerminalData, StationData}
use Rattle.bus_model.specs.Memory.{TimedLoad}
use Rattle.bus_model.specs.Orders.{owes}
use Rattle.bus_model.specs.Hearing.{Hearing, heard_on}
use Rattle.bus_model.specs.Sending.{drive_sample}
use Rattle.bus_model.specs.Standing.{Standing}
use Rattle.bus_model.specs.Terminal.{standing, standing_after, accepted_by, accepted_now}
use Rattle.bus_model.specs.Course.{Course}
use Rattle.bus_model.specs.Control.{OutsideTake, moment_of, course_after, hearing_after, drives_next, outside_takes}
use Rattle.bus_law_stations.specs.Legs.{HearsBurst}
use Rattle.bus_law_stations.specs.Turns.{moments_of, TakesNothing}
use Rattle.bus_law_stations.proofs.SenderTicks.{sender-drives, sender-stands}
use Rattle.bus_law_stations.proofs.Turning.{serving-sends}
use Rattle.bus_law_stations.proofs.Unheeded.{quiet-unheeded}
use Rattle.bus_law_messages.specs.Promises.{IsReplying}
use Rattle.bus_law_messages.proofs.Listening.{moments-shown, moments-many}
use Rattle.bus_law_messages.proofs.Running.{RunsAlone}

module _ (k : ℕ) (station : StationData) (starts : Bool) (loads : List TimedLoad) (outside : List OutsideTake) (past : List Pair) (c : Channel)
    (part : Part) (words : List Word) (answers : IsReplying k station starts loads outside past c part words) where
  abbrev t : TerminalData
  t = station.terminal

  abbrev course : Course
  course = course_after k station starts loads outside past

  abbrev hearing : Hearing
  hearing = hearing_after k station starts loads outside past

  abbrev s : Standing
  s = standing_after k t loads hearing

  abbrev Stays : ℕ → Type 0
  Stays n = (tick : ℕ) → length past ≤ tick → tick < length past + n → outside_takes k station starts loads outside tick outside ≡ []

  hears-answer : (ticks : List Pair) → RunsAlone k c ticks → HearsBurst k t s c hearing.ticks (moments_of course ticks)
  hears-answer ticks alone = record {
    rests = answers.rests c;
    leg = rw (moments-shown c course ticks) alone.0;
    beside = quiet-unheeded k t s (other_of c) hearing.ticks (moments_of course ticks) (answers.rests (other_of c))
        (moments-shown (other_of c) course ticks ∙ alone.1 ∙ ap quiet_ticks (sym (moments-many course ticks)));
  }

  less : (x : Pair) (ticks : List Pair) → RunsAlone k c (x ∷ ticks) → RunsAlone k c ticks
  less x ticks alone = (alone.0.2, ap (λ (xs : List Sample). drop 1 xs) alone.1)

  -- it goes on owing the answer
  still-owed : (ticks : List Pair) → RunsAlone k c ticks →
      (standing k t loads hearing.memory (moments_of course ticks ++ hearing.ticks)).duty ≡ owes words false
  still-owed [] alone = answers.duty
  still-owed (x ∷ ticks) alone =
      ap (λ (u : Standing). u.duty)
      (sender-stands k t loads hearing.memory c hearing.ticks (moments_of course ticks) (moment_of x course) answers.begins (hears-answer (x ∷ ticks) alone))
      ∙ answers.duty

  -- so it accepts no control
  accepts-none : (x : Pair) (ticks : List Pair) → RunsAlone k c ticks →
      accepted_now k t loads record { memory = hearing.memory; ticks = moment_of x course ∷ (moments_of course ticks ++ hearing.ticks) } ≡ None
  accepts-none x ticks alone =
      let u = standing k t loads hearing.memory (moments_of course ticks ++ hearing.ticks) in
      ap (accepted_by k t loads (heard_on u.channel (moments_of course ticks ++ hearing.ticks)) (sample_on x u.channel) u) (still-owed ticks alone)

  takes-more : (x : Pair) (ticks : List Pair) → RunsAlone k c ticks → Stays (length (x ∷ ticks)) → TakesNothing k station starts loads outside past (x ∷ ticks)
  takes-more x [] alone stays = (accepts-none x [] alone, stays (length past) (omega arith) (omega arith), tt)
  takes-more x (y ∷ ticks) alone stays =
      let long : length (ticks ++ past) ≡ length ticks + length past = length-append ticks past in (
        accepts-none x (y ∷ ticks) alone,
        stays (suc (length (ticks ++ past))) (omega (arith, long)) (omega (arith, long)),
        takes-more y ticks (less y ticks alone) (λ tick low high. stays tick low (omega (arith, high))),
      )

  takes-nothing : (ticks : List Pair) → RunsAlone k c ticks → Stays (length ticks) → TakesNothing k station starts loads outside past ticks
  takes-nothing [] alone stays = tt
  takes-nothing (x ∷ ticks) alone stays = takes-more x ticks (less x ticks alone) stays

  -- it sends its words
  pub answer-drives : (ticks : List Pair) → RunsAlone k c ticks → Stays (length ticks) →
      drives_next k station starts loads outside (ticks ++ past) ≡ drive_sample c part words (length ticks)
  answer-drives ticks alone stays =
      serving-sends k station starts loads outside past ticks answers.serves (takes-nothing ticks alone stays)
      ∙ sender-drives k t loads hearing.memory c hearing.ticks (moments_of course ticks) words false answers.begins (hears-answer ticks alone) answers.duty
      ∙ ap (λ p. drive_sample c p words (length (moments_of course ticks))) answers.part_is
      ∙ ap (drive_sample c part words) (moments-many course ticks)
