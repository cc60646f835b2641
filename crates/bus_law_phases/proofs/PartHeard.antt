-- A station that listens while another one sends a part, which faults may strike: with the end of its burst it obeys it, or settles its promise by it,
-- or passes it over.
use Rattle.std.proofs.Common.{◌≡◌, ℕ, suc, ◌+◌, ◌<◌, ◌≤◌, Bool, true, List, [], ◌∷◌, ◌++◌, length, Some, sym, ap, ◌∙◌, subst, arith, length-append}
use Rattle.std.specs.Prelude.{drop}
use Rattle.bus_base.specs.Samples.{other_of}
use Rattle.bus_base.specs.declared.samples.Channel.{Channel}
use Rattle.bus_base.specs.declared.samples.Pair.{Pair}
use Rattle.bus_base.specs.declared.samples.Sample.{Sample}
use Rattle.bus_words.specs.declared.word.Word.{Word}
use Rattle.bus_line.specs.Past.{Burst, InLeg, quiet_ticks, ended_now, end_of, rest_of}
use Rattle.bus_line.specs.Channels.{on_channel}
use Rattle.bus_formats.specs.Plans.{TerminalData, StationData}
use Rattle.bus_formats.specs.declared.fault.Hit.{Hit}
use Rattle.bus_model.specs.Memory.{TimedLoad}
use Rattle.bus_model.specs.Orders.{Obeyed, due_after}
use Rattle.bus_model.specs.Hearing.{Moment, Hearing, heard_on}
use Rattle.bus_model.specs.Standing.{is_owed}
use Rattle.bus_model.specs.Starts.{has_items}
use Rattle.bus_model.specs.Terminal.{standing, standing_after, took_now}
use Rattle.bus_model.specs.Course.{Course}
use Rattle.bus_model.specs.Control.{OutsideTake, StationSoFar, moment_of, course_after, hearing_after, outside_takes}
use Rattle.bus_law_line.specs.Shown.{first_samples}
use Rattle.bus_law_parts.specs.Parts.{part_ticks, part_sample, HitsFit}
use Rattle.bus_law_parts.proofs.PartBursts.{ended-part}
use Rattle.bus_law_stations.specs.Legs.{BeginsAnswer, obeyed_in, settled_in, after_command, after_promise}
use Rattle.bus_law_stations.specs.Turns.{moments_of, TakesNothing}
use Rattle.bus_law_stations.specs.Silence.{quiet_moments}
use Rattle.bus_base.specs.declared.samples.Part.{Part}
use Rattle.bus_base.specs.declared.samples.Part.TheVariants.{First, Second}
use Rattle.bus_law_stations.proofs.LegTicks.{heard-append}
use Rattle.bus_law_stations.proofs.Resting.{heard-long}
use Rattle.bus_law_stations.proofs.Turning.{serving-hears, serving-same}
use Rattle.bus_law_messages.specs.Promises.{Listens, HeardBurst}
use Rattle.bus_law_phases.specs.PartRuns.{burst_shown}
use Rattle.bus_law_messages.proofs.Listening.{moments-shown, moments-many, serving-nothing, shown-leg, shown-quiet}
use Rattle.bus_law_messages.proofs.Heard.{hearing-long, end-accepts-not, end-obeyed, end-settled, end-settled-due, end-passed, end-due}

-- ---- a serving station

module _ (k : ℕ) (station : StationData) (starts : Bool) (loads : List TimedLoad) (outside : List OutsideTake) (past : List Pair) (c : Channel)
    (small : k < 40) (serving : Listens k station starts loads outside past c) (x : Pair) (ticks : List Pair) (part : Part) (hits : List Hit) (words : List Word)
    (lag : k ≡ 3) (some : 0 < part_ticks hits words) (fits : HitsFit part hits words) (many : length ticks ≡ k + part_ticks hits words)
    (leg : InLeg k (on_channel c ticks))
    (shown : on_channel c (x ∷ ticks) ≡ first_samples (part_sample hits words) (part_ticks hits words + suc k))
    (quiet : on_channel (other_of c) (x ∷ ticks) ≡ quiet_ticks (length (x ∷ ticks)))
    (stays : (tick : ℕ) → length past ≤ tick → tick < length past + length (x ∷ ticks) → outside_takes k station starts loads outside tick outside ≡ []) where
  abbrev t : TerminalData
  t = station.terminal

  abbrev course : Course
  course = course_after k station starts loads outside past

  abbrev hearing : Hearing
  hearing = hearing_after k station starts loads outside past

  abbrev moments : List Moment
  moments = moments_of course ticks

  abbrev burst : Burst
  burst = burst_shown (length past) hits words

  end-burst : ended_now k (heard_on c (moment_of x course ∷ (moments ++ hearing.ticks))) ≡ Some burst
  end-burst =
      ap (ended_now k) (heard-append c (moments_of course (x ∷ ticks)) hearing.ticks)
      ∙ ap (λ xs. ended_now k (xs ++ heard_on c hearing.ticks)) (moments-shown c course (x ∷ ticks) ∙ shown)
      ∙ ended-part k part hits words lag fits (heard_on c hearing.ticks) some (serving.listens.rests c)
      ∙ ap (λ n. Some (burst_shown n hits words)) (heard-long c hearing.ticks ∙ hearing-long k station starts loads outside past)

  end-quiet : heard_on (other_of c) (moment_of x course ∷ moments) ≡ quiet_ticks (length (moment_of x course ∷ moments))
  end-quiet = shown-quiet k station starts loads outside past c small serving (other_of c) (x ∷ ticks) quiet

  end-leg : InLeg k (heard_on c moments)
  end-leg = shown-leg k station starts loads outside past c small serving ticks leg

  took-nothing : TakesNothing k station starts loads outside past (x ∷ ticks)
  took-nothing =
      let long : length (ticks ++ past) ≡ length ticks + length past = length-append ticks past in (
        end-accepts-not k t loads hearing.memory c hearing.ticks moments (moment_of x course) burst small serving.listens end-leg end-quiet end-burst
            (sym (hearing-long k station starts loads outside past)),
        stays (length (ticks ++ past)) (omega (arith, long)) (omega (arith, long)),
        serving-nothing k station starts loads outside past c small serving ticks leg (ap (λ (xs : List Sample). drop 1 xs) quiet)
            (λ tick low high. stays tick low (omega (arith, high))),
      )

  end-hearing : hearing_after k station starts loads outside ((x ∷ ticks) ++ past)
      ≡ record { memory = hearing.memory; ticks = moment_of x course ∷ (moments ++ hearing.ticks) }
  end-hearing = ap (λ (so : StationSoFar). so.hearing) (serving-hears k station starts loads outside past (x ∷ ticks) serving.serves took-nothing)

  handled-at : length (moments ++ hearing.ticks) ≡ end_of burst + k
  handled-at =
      let both : length (moments ++ hearing.ticks) ≡ length moments + length hearing.ticks = length-append moments hearing.ticks in
      let here : length moments ≡ length ticks = moments-many course ticks in
      let before : length hearing.ticks ≡ length past = hearing-long k station starts loads outside past in
      omega (arith, both, here, before, many)

  pub heard-burst : HeardBurst k station starts loads outside past (x ∷ ticks) c burst
  heard-burst = record {
    hears = end-hearing;
    course = serving-same k station starts loads outside past (x ∷ ticks) serving.serves took-nothing;
    obeyed = λ order last.
        let s = standing_after k t loads hearing in
        let e = end-obeyed k t loads hearing.memory c hearing.ticks moments (moment_of x course) burst small serving.listens end-leg end-quiet end-burst
        (sym (hearing-long k station starts loads outside past)) order last in (
          e.0,
          ap (standing_after k t loads) end-hearing
              ∙ e.3
              ∙ ap (λ tick. after_command s c (end_of burst) e.0 (obeyed_in t loads tick s c order (rest_of burst) (has_items course.left))) handled-at,
          ap (took_now k t loads) end-hearing
              ∙ e.4
              ∙ ap (λ tick. (obeyed_in t loads tick s c order (rest_of burst) (has_items course.left)).taken) handled-at,
        );
    due = λ order last mays.
        let s = standing_after k t loads hearing in
        let o : ℕ → Obeyed = λ tick. obeyed_in t loads tick s c order (rest_of burst) (has_items course.left) in
        let Begins : Hearing → ℕ → Type 0 = λ h tick. length (quiet_moments mays ++ h.ticks) ≡ due_after t (end_of burst) → is_owed (o tick).duty ≡ true →
        BeginsAnswer k t (standing k t loads h.memory (quiet_moments mays ++ h.ticks)) c (quiet_moments mays ++ h.ticks)
        × ((standing k t loads h.memory (quiet_moments mays ++ h.ticks)).duty ≡ (o tick).duty)
        × ((standing k t loads h.memory (quiet_moments mays ++ h.ticks)).part ≡ First) in
        subst (λ h. Begins h (end_of burst + k)) (sym end-hearing)
        (subst (λ tick. Begins record { memory = hearing.memory; ticks = moment_of x course ∷ (moments ++ hearing.ticks) } tick) handled-at
        (end-due k t loads hearing.memory c hearing.ticks moments (moment_of x course) burst small serving.listens end-leg end-quiet end-burst
        (sym (hearing-long k station starts loads outside past)) order last mays));
    settled = λ command transmitter last made.
        let s = standing_after k t loads hearing in
        let e = end-settled k t loads hearing.memory c hearing.ticks moments (moment_of x course) burst small serving.listens end-leg end-quiet end-burst
        (sym (hearing-long k station starts loads outside past)) command transmitter last made in (
          ap (standing_after k t loads) end-hearing
              ∙ e.0
              ∙ ap (λ tick. after_promise s (end_of burst) (settled_in t loads tick s c command transmitter burst)) handled-at,
          ap (took_now k t loads) end-hearing
              ∙ e.1
              ∙ ap (λ tick. (settled_in t loads tick s c command transmitter burst).taken) handled-at,
        );
    settled_due = λ command transmitter last mays made.
        let s = standing_after k t loads hearing in
        let o : ℕ → Obeyed = λ tick. settled_in t loads tick s c command transmitter burst in
        let Begins : Hearing → ℕ → Type 0 = λ h tick. length (quiet_moments mays ++ h.ticks) ≡ due_after t (end_of burst) → is_owed (o tick).duty ≡ true →
        BeginsAnswer k t (standing k t loads h.memory (quiet_moments mays ++ h.ticks)) c (quiet_moments mays ++ h.ticks)
        × ((standing k t loads h.memory (quiet_moments mays ++ h.ticks)).duty ≡ (o tick).duty)
        × ((standing k t loads h.memory (quiet_moments mays ++ h.ticks)).part ≡ Second) in
        subst (λ h. Begins h (end_of burst + k)) (sym end-hearing)
        (subst (λ tick. Begins record { memory = hearing.memory; ticks = moment_of x course ∷ (moments ++ hearing.ticks) } tick) handled-at
        (end-settled-due k t loads hearing.memory c hearing.ticks moments (moment_of x course) burst small serving.listens end-leg end-quiet end-burst
        (sym (hearing-long k station starts loads outside past)) command transmitter last mays made));
    passed = λ last none.
        let e = end-passed k t loads hearing.memory c hearing.ticks moments (moment_of x course) burst small serving.listens end-leg end-quiet end-burst
        (sym (hearing-long k station starts loads outside past)) last none in
        (ap (standing_after k t loads) end-hearing ∙ e.0, ap (took_now k t loads) end-hearing ∙ e.1);
  }
