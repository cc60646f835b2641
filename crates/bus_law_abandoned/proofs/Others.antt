-- The stations beside the one in control while an answer runs: one of them sends it, and the others are free and listen.
use Rattle.std.proofs.Common.{◌≡◌, ◌≢◌, inl, inr, ℕ, ◌+◌, ◌<◌, ◌≤◌, false, List, [], ◌∷◌, ◌++◌, length, Some, None, sym, ap, ◌∙◌, subst, arith}
use Rattle.std.proofs.lemmas.Bool.{cases_eq}
use Rattle.std.proofs.lemmas.Option.{same_Some}
use Rattle.std.specs.Prelude.{slice_get}
use Rattle.bus_base.specs.Samples.{other_of}
use Rattle.bus_base.specs.declared.samples.Channel.{Channel}
use Rattle.bus_base.specs.declared.samples.Drive.TheVariants.{Silent}
use Rattle.bus_base.specs.declared.samples.Pair.{Pair}
use Rattle.bus_base.specs.declared.samples.Part.{Part}
use Rattle.bus_words.specs.declared.word.Word.{Word}
use Rattle.bus_formats.specs.Plans.{StationData}
use Rattle.bus_model.specs.Control.{StationSoFar, outside_takes, drives_next}
use Rattle.bus_model.specs.Course.{Course}
use Rattle.bus_model.specs.Hearing.{Hearing}
use Rattle.bus_model.specs.Sending.{drive_sample}
use Rattle.bus_model.specs.Standing.{Standing}
use Rattle.bus_model.specs.Starts.{starts}
use Rattle.bus_model.specs.Terminal.{standing_after, took_now}
use Rattle.bus_model.specs.World.{drives_after}
use Rattle.bus_law_messages.specs.Promises.{Listens, IsReplying}
use Rattle.bus_law_messages.specs.Settled.{IsServing}
use Rattle.bus_law_messages.proofs.Listening.{listening-ready, listening-hears, serving-listens, serving-nothing, serving-silent, shown-leg, shown-quiet}
use Rattle.bus_law_messages.proofs.Sending.{place-drives}
use Rattle.bus_law_stations.specs.Turns.{moments_of}
use Rattle.bus_law_stations.proofs.Obeying.{running-marks}
use Rattle.bus_law_stations.proofs.Turning.{serving-hears, serving-same}
use Rattle.bus_law_table.proofs.Takes.{serving-takes}
use Rattle.bus_law_phases.specs.PartRuns.{RunsAlone}
use Rattle.bus_law_phases.specs.Scenarios.{Scenario, course_of, hearing_of, standing_of, IsPresentAt, NoneTakesFrom}
use Rattle.bus_law_phases.proofs.AnswerSpeaking.{speaking-same, speaking-takes, spoken-keeps}
use Rattle.bus_law_phases.proofs.Answering.{answer-drives}
use Rattle.bus_law_phases.proofs.Legs.{runs-less}

-- the tick in which a station begins to answer on a channel; all others but the one in control are free
pub record Speaks (w : Scenario) (past : List Pair) (place : ℕ) (c : Channel) (part : Part) (words : List Word) (answerer : ℕ) (answering : StationData) :
    Type 0 where
  pub at : IsPresentAt w answerer answering
  pub apart : answerer ≢ place
  pub replies : IsReplying w.lag answering (starts w.plan answering) w.loads w.outside past c part words
  pub frees : (other : ℕ) (station : StationData) → IsPresentAt w other station → other ≢ place → other ≢ answerer →
      IsServing w.lag station (starts w.plan station) w.loads w.outside past
  pub stays : NoneTakesFrom w (length past)

module _ (w : Scenario) (past : List Pair) (place : ℕ) (c : Channel) (part : Part) (words : List Word) (answerer : ℕ) (answering : StationData)
    (lag : w.lag ≡ 3) (so : Speaks w past place c part words answerer answering) where
  below : w.lag < 40
  below = omega (arith, lag)

  stays-for : (other : ℕ) (station : StationData) → IsPresentAt w other station → (n tick : ℕ) → length past ≤ tick → tick < length past + n →
      outside_takes w.lag station (starts w.plan station) w.loads w.outside tick w.outside ≡ []
  stays-for other station at n tick low high = so.stays other station at tick low

  -- a fact of the one that answers, and of the others
  by-two : (P : StationData → Type 0) → P answering →
      ((other : ℕ) (station : StationData) → IsPresentAt w other station → other ≢ place → other ≢ answerer → P station) →
      (other : ℕ) (station : StationData) → IsPresentAt w other station → other ≢ place → P station
  by-two P own others other station at away = elim (cases_eq other answerer) [
    | inl same ↦ (let found : slice_get w.plan.stations answerer ≡ Some station = ap (slice_get w.plan.stations) (sym same) ∙ at.there in
        let is : answering ≡ station = same_Some answering station (sym so.at.there ∙ found) in subst P is own)
    | inr aside ↦ others other station at away aside
  ]

  -- ---- one that is free

  module _ (other : ℕ) (station : StationData) (at : IsPresentAt w other station)
      (free : IsServing w.lag station (starts w.plan station) w.loads w.outside past) where
    listens : Listens w.lag station (starts w.plan station) w.loads w.outside past c
    listens = serving-listens w.lag station (starts w.plan station) w.loads w.outside past c free

    free-same : (ticks : List Pair) → RunsAlone w.lag c ticks → course_of w station (ticks ++ past) ≡ course_of w station past
    free-same ticks alone =
        serving-same w.lag station (starts w.plan station) w.loads w.outside past ticks free.serves
        (serving-nothing w.lag station (starts w.plan station) w.loads w.outside past c below listens ticks alone.leg alone.quiet
        (stays-for other station at (length ticks)))

    pub free-silent : (ticks : List Pair) → RunsAlone w.lag c ticks →
        drives_next w.lag station (starts w.plan station) w.loads w.outside (ticks ++ past) ≡ Silent
    free-silent ticks alone =
        serving-silent w.lag station (starts w.plan station) w.loads w.outside past c below listens ticks alone.leg alone.quiet
        (stays-for other station at (length ticks))

    -- it keeps what it kept
    free-keeps : (ticks : List Pair) → RunsAlone w.lag c ticks → (standing_of w station (ticks ++ past)).memory ≡ (standing_of w station past).memory
    free-keeps ticks alone =
        let course = course_of w station past in
        let hearing = hearing_of w station past in
        let s = standing_of w station past in
        let heard : hearing_of w station (ticks ++ past)
        ≡ record { memory = (hearing_of w station past).memory; ticks = moments_of (course_of w station past) ticks ++ (hearing_of w station past).ticks } =
        ap (λ (x : StationSoFar). x.hearing) (serving-hears w.lag station (starts w.plan station) w.loads w.outside past ticks free.serves
        (serving-nothing w.lag station (starts w.plan station) w.loads w.outside past c below listens ticks alone.leg alone.quiet
        (stays-for other station at (length ticks)))) in
        let marked = running-marks w.lag station.terminal w.loads hearing.memory c hearing.ticks (moments_of course ticks) below
        (listening-ready w.lag station.terminal s c hearing.ticks listens.listens)
        (listening-hears w.lag station.terminal s c hearing.ticks (moments_of course ticks) listens.listens
        (shown-leg w.lag station (starts w.plan station) w.loads w.outside past c below listens ticks alone.leg)
        (shown-quiet w.lag station (starts w.plan station) w.loads w.outside past c below listens (other_of c) ticks alone.quiet)) in
        ap (λ (h : Hearing). (standing_after w.lag station.terminal w.loads h).memory) heard ∙ ap (λ (u : Standing). u.memory) marked.1

  -- ---- each of them

  pub answerer-drives : (ticks : List Pair) → RunsAlone w.lag c ticks →
      slice_get (drives_after w.lag w.plan w.loads w.outside w.absent (ticks ++ past)) answerer ≡ Some (drive_sample c part words (length ticks))
  answerer-drives ticks alone =
      place-drives w.lag w.plan w.loads w.outside w.absent (ticks ++ past) answerer answering (drive_sample c part words (length ticks)) so.at.there
      so.at.present
      (answer-drives w.lag answering (starts w.plan answering) w.loads w.outside past c part words so.replies ticks (alone.leg, alone.quiet)
      (stays-for answerer answering so.at (length ticks)))

  pub others-same : (ticks : List Pair) → RunsAlone w.lag c ticks → (other : ℕ) (station : StationData) → IsPresentAt w other station → other ≢ place →
      course_of w station (ticks ++ past) ≡ course_of w station past
  others-same ticks alone =
      by-two (λ station. course_of w station (ticks ++ past) ≡ course_of w station past)
      (speaking-same w.lag answering (starts w.plan answering) w.loads w.outside past c part words so.replies ticks alone
      (stays-for answerer answering so.at (length ticks)))
      (λ other station at away aside. free-same other station at (so.frees other station at away aside) ticks alone)

  pub others-take : (x : Pair) (ticks : List Pair) → RunsAlone w.lag c (x ∷ ticks) → (other : ℕ) (station : StationData) → IsPresentAt w other station →
      other ≢ place → took_now w.lag station.terminal w.loads (hearing_of w station ((x ∷ ticks) ++ past)) ≡ None
  others-take x ticks alone =
      by-two (λ station. took_now w.lag station.terminal w.loads (hearing_of w station ((x ∷ ticks) ++ past)) ≡ None)
      (speaking-takes w.lag answering (starts w.plan answering) w.loads w.outside past c part words so.replies x ticks alone
      (stays-for answerer answering so.at (length (x ∷ ticks))))
      (λ other station at away aside. serving-takes w.lag station (starts w.plan station) w.loads w.outside past c (so.frees other station at away aside) x
      ticks alone.leg alone.quiet (stays-for other station at (length (x ∷ ticks))))

  keep-more : (x y : Pair) (ticks : List Pair) → RunsAlone w.lag c (x ∷ y ∷ ticks) → (other : ℕ) (station : StationData) →
      IsPresentAt w other station → other ≢ place →
      (standing_of w station ((x ∷ y ∷ ticks) ++ past)).memory ≡ (standing_of w station past).memory
  keep-more x y ticks alone =
      by-two (λ station. (standing_of w station ((x ∷ y ∷ ticks) ++ past)).memory ≡ (standing_of w station past).memory)
      (spoken-keeps w.lag answering (starts w.plan answering) w.loads w.outside past c part words so.replies x y ticks
      (runs-less w.lag c x (y ∷ ticks) alone) (stays-for answerer answering so.at (length (x ∷ y ∷ ticks))) alone.quiet)
      (λ other station at away aside. free-keeps other station at (so.frees other station at away aside) (x ∷ y ∷ ticks) alone)

  -- after two ticks at least each terminal keeps what it kept
  pub others-keep : (x : Pair) (ticks : List Pair) → 0 < length ticks → RunsAlone w.lag c (x ∷ ticks) → (other : ℕ) (station : StationData) →
      IsPresentAt w other station → other ≢ place → (standing_of w station ((x ∷ ticks) ++ past)).memory ≡ (standing_of w station past).memory
  others-keep x [] some alone other station at away = absurd (omega (arith, some))
  others-keep x (y ∷ ticks) some alone other station at away = keep-more x y ticks alone other station at away

  others-hold : (other : ℕ) (station : StationData) → IsPresentAt w other station → other ≢ place → (course_of w station past).holds ≡ false
  others-hold =
      by-two (λ station. (course_of w station past).holds ≡ false) so.replies.serves.serves
      (λ other station at away aside. (so.frees other station at away aside).serves.serves)

  -- none of them holds control meanwhile
  pub others-serve : (ticks : List Pair) → RunsAlone w.lag c ticks → (other : ℕ) (station : StationData) → IsPresentAt w other station → other ≢ place →
      (course_of w station (ticks ++ past)).holds ≡ false
  others-serve ticks alone other station at away =
      ap (λ (d : Course). d.holds) (others-same ticks alone other station at away) ∙ others-hold other station at away
