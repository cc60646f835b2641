-- An answer that accepts control is sent: what each station does in its ticks. One answers, the one in control waits, and all others listen.
use Rattle.std.proofs.Common.{◌≡◌, ◌≢◌, inl, inr, ℕ, suc, ◌+◌, ◌<◌, ◌≤◌, true, false, List, [], ◌∷◌, ◌++◌, length, Some, None, sym, ap, ◌∙◌, subst, arith}
use Rattle.std.proofs.lemmas.Bool.{cases_eq}
use Rattle.std.proofs.lemmas.Option.{same_Some}
use Rattle.std.specs.Prelude.{slice_get}
use Rattle.bus_base.specs.declared.samples.Channel.{Channel}
use Rattle.bus_base.specs.declared.samples.Drive.{Drive}
use Rattle.bus_base.specs.declared.samples.Drive.TheVariants.{Silent}
use Rattle.bus_base.specs.declared.samples.Pair.{Pair}
use Rattle.bus_base.specs.declared.samples.Part.{Part}
use Rattle.bus_base.specs.declared.samples.Part.TheVariants.{Command}
use Rattle.bus_words.specs.declared.word.Word.{Word}
use Rattle.bus_line.specs.Past.{runs}
use Rattle.bus_line.specs.Channels.{on_channel}
use Rattle.bus_formats.specs.Plans.{StationData}
use Rattle.bus_formats.specs.declared.fault.Hit.{Hit}
use Rattle.bus_model.specs.Control.{outside_takes, drives_next}
use Rattle.bus_model.specs.Course.{Course}
use Rattle.bus_model.specs.Orders.{due_after}
use Rattle.bus_model.specs.Sending.{drive_sample}
use Rattle.bus_model.specs.Starts.{starts}
use Rattle.bus_model.specs.Strikes.{hits_on}
use Rattle.bus_model.specs.Terminal.{took_now}
use Rattle.bus_model.specs.Transmissions.{drive_or, station_drive}
use Rattle.bus_model.specs.World.{drives_after}
use Rattle.bus_law_control.proofs.Holding.{heard-nothing}
use Rattle.bus_law_line.specs.Senders.{Sender, IsSpent, attempt_to_come}
use Rattle.bus_law_messages.specs.Promises.{Listens}
use Rattle.bus_law_messages.proofs.Listening.{serving-nothing, serving-silent}
use Rattle.bus_law_messages.proofs.Sending.{place-silent, place-drives}
use Rattle.bus_law_offers.proofs.Accepting.{accepting-drives, accepting-same, accepting-takes}
use Rattle.bus_law_parts.specs.Parts.{part_ticks, HitsFit, IsFresh}
use Rattle.bus_law_parts.proofs.Counting.{count-answer}
use Rattle.bus_law_phases.specs.Moments.{Owes}
use Rattle.bus_law_phases.specs.PartRuns.{IsFirstOf, PartRuns}
use Rattle.bus_law_phases.specs.Passages.{HoldsAlone}
use Rattle.bus_law_phases.specs.Scenarios.{Scenario, trace_at, shown_at, driven_at, commands_in, course_of, hearing_of, IsPresentAt, NoneTakesFrom, StaysFrom}
use Rattle.bus_law_phases.specs.Silences.{GoesOnTo}
use Rattle.bus_law_phases.proofs.AnswerQuiet.{answer-goes-on}
use Rattle.bus_law_phases.proofs.AnswerSending.{listens-takes, by-three}
use Rattle.bus_law_phases.proofs.PartTicks.{PartTicks, all-ticks}
use Rattle.bus_law_stations.proofs.Turning.{serving-same}
use Rattle.bus_law_table.proofs.Takes.{unheard-takes}
use Rattle.bus_law_phases.proofs.Staying.{long-at}

-- the tick in which a station begins an answer by which it accepts control, to a burst that ended in tick e
pub record Accepts (w : Scenario) (past : List Pair) (place : ℕ) (holder : StationData) (c : Channel) (e : ℕ) (part : Part) (words : List Word)
    (hits : List Hit) (answerer : ℕ) (answering : StationData) : Type 0 where
  -- the one in control is silent while the answer runs, and nothing changes of its controller
  pub there : IsPresentAt w place holder
  pub holds : (course_of w holder past).holds ≡ true
  pub same : (ticks : List Pair) → IsFirstOf w.lag c hits words ticks → course_of w holder (ticks ++ past) ≡ course_of w holder past
  pub silent : (ticks : List Pair) → IsFirstOf w.lag c hits words ticks →
      drives_next w.lag holder (starts w.plan holder) w.loads w.outside (ticks ++ past) ≡ Silent
  -- the one that answers
  pub at : IsPresentAt w answerer answering
  pub apart : answerer ≢ place
  pub owed : Owes w past answering c e part words true
  pub due : due_after answering.terminal e ≡ length past
  -- the others listen
  pub listens : (other : ℕ) (station : StationData) → IsPresentAt w other station → other ≢ place → other ≢ answerer →
      Listens w.lag station (starts w.plan station) w.loads w.outside past c
  pub stays : NoneTakesFrom w (length past)

module _ (w : Scenario) (past : List Pair) (place : ℕ) (holder : StationData) (c : Channel) (e : ℕ) (part : Part) (words : List Word) (hits : List Hit)
    (answerer : ℕ) (answering : StationData) (lag : w.lag ≡ 3) (so : Accepts w past place holder c e part words hits answerer answering) where
  below : w.lag < 40
  below = omega (arith, lag)

  stays-for : (other : ℕ) (station : StationData) → IsPresentAt w other station → (n tick : ℕ) → length past ≤ tick → tick < length past + n →
      outside_takes w.lag station (starts w.plan station) w.loads w.outside tick w.outside ≡ []
  stays-for other station at n tick low high = so.stays other station at tick low

  stays-own : (tick : ℕ) → length past ≤ tick → outside_takes w.lag answering (starts w.plan answering) w.loads w.outside tick w.outside ≡ []
  stays-own tick low = so.stays answerer answering so.at tick low

  holder-holds : (ticks : List Pair) → IsFirstOf w.lag c hits words ticks → (course_of w holder (ticks ++ past)).holds ≡ true
  holder-holds ticks alone = ap (λ (d : Course). d.holds) (so.same ticks alone) ∙ so.holds

  pub own-drives : (ticks : List Pair) → IsFirstOf w.lag c hits words ticks →
      slice_get (drives_after w.lag w.plan w.loads w.outside w.absent (ticks ++ past)) answerer ≡ Some (drive_sample c part words (length ticks))
  own-drives ticks alone =
      place-drives w.lag w.plan w.loads w.outside w.absent (ticks ++ past) answerer answering (drive_sample c part words (length ticks)) so.at.there
      so.at.present (accepting-drives w past answering c e part words so.owed so.due stays-own ticks alone.alone)

  -- ---- nothing changes of a controller

  listens-same : (other : ℕ) (station : StationData) → IsPresentAt w other station → other ≢ place → other ≢ answerer → (ticks : List Pair) →
      IsFirstOf w.lag c hits words ticks → course_of w station (ticks ++ past) ≡ course_of w station past
  listens-same other station at away aside ticks alone =
      let serving = so.listens other station at away aside in
      serving-same w.lag station (starts w.plan station) w.loads w.outside past ticks serving.serves
      (serving-nothing w.lag station (starts w.plan station) w.loads w.outside past c below serving ticks alone.alone.leg alone.alone.quiet
      (stays-for other station at (length ticks)))

  all-same : (ticks : List Pair) → IsFirstOf w.lag c hits words ticks → (other : ℕ) (station : StationData) → IsPresentAt w other station →
      course_of w station (ticks ++ past) ≡ course_of w station past
  all-same ticks alone =
      by-three w (λ station. course_of w station (ticks ++ past) ≡ course_of w station past) place holder answerer answering so.there so.at
      (so.same ticks alone) (accepting-same w past answering c e part words so.owed so.due stays-own ticks alone.alone)
      (λ other station at away aside. listens-same other station at away aside ticks alone)

  -- ---- no block is taken

  all-takes : (y : Pair) (ticks : List Pair) → IsFirstOf w.lag c hits words (y ∷ ticks) → (other : ℕ) (station : StationData) → IsPresentAt w other station →
      took_now w.lag station.terminal w.loads (hearing_of w station ((y ∷ ticks) ++ past)) ≡ None
  all-takes y ticks alone =
      by-three w (λ station. took_now w.lag station.terminal w.loads (hearing_of w station ((y ∷ ticks) ++ past)) ≡ None) place holder answerer answering
      so.there so.at
      (unheard-takes w.lag holder (starts w.plan holder) w.loads w.outside y (ticks ++ past)
      (heard-nothing w.lag holder (starts w.plan holder) w.loads w.outside ((y ∷ ticks) ++ past) (holder-holds (y ∷ ticks) alone)))
      (accepting-takes w past answering c e part words so.owed so.due stays-own y ticks alone.alone)
      (λ other station at away aside. listens-takes w past station c below (so.listens other station at away aside) y ticks alone.alone
      (stays-for other station at (length (y ∷ ticks))))

  -- ---- nobody else sends

  others-silent : (ticks : List Pair) → IsFirstOf w.lag c hits words ticks → (other : ℕ) → other ≢ answerer →
      station_drive other (drives_after w.lag w.plan w.loads w.outside w.absent (ticks ++ past)) ≡ Silent
  others-silent ticks alone other aside = elim (cases_eq other place) [
    | inl same ↦ ap (λ i. station_drive i (drives_after w.lag w.plan w.loads w.outside w.absent (ticks ++ past))) same
        ∙ ap drive_or (place-drives w.lag w.plan w.loads w.outside w.absent (ticks ++ past) place holder Silent so.there.there so.there.present
        (so.silent ticks alone))
    | inr away ↦ place-silent w.lag w.plan w.loads w.outside w.absent (ticks ++ past) other (λ station there present.
        let at : IsPresentAt w other station = record { there = there; present = present } in
        serving-silent w.lag station (starts w.plan station) w.loads w.outside past c below (so.listens other station at away aside) ticks alone.alone.leg
        alone.alone.quiet (stays-for other station at (length ticks)))
  ]

  others-serve : (other : ℕ) (station : StationData) → IsPresentAt w other station → other ≢ place → (course_of w station past).holds ≡ false
  others-serve other station at away = elim (cases_eq other answerer) [
    | inl same ↦ (let found : slice_get w.plan.stations answerer ≡ Some station = ap (slice_get w.plan.stations) (sym same) ∙ at.there in
        let is : answering ≡ station = same_Some answering station (sym so.at.there ∙ found) in
        subst (λ st. (course_of w st past).holds ≡ false) is so.owed.hears.serves.serves)
    | inr aside ↦ (so.listens other station at away aside).serves.serves
  ]

  held : (ticks : List Pair) → IsFirstOf w.lag c hits words ticks → HoldsAlone w (ticks ++ past)
  held ticks alone = record {
    place = place;
    holder = holder;
    at = so.there;
    holds = holder-holds ticks alone;
    others = λ other station at away. ap (λ (d : Course). d.holds) (all-same ticks alone other station at) ∙ others-serve other station at away;
  }

-- ---- the ticks of the answer

module _ (w : Scenario) (t place : ℕ) (holder : StationData) (c : Channel) (e : ℕ) (part : Part) (words : List Word) (hits : List Hit) (answerer : ℕ)
    (answering : StationData) (lag : w.lag ≡ 3) (stays : StaysFrom w t)
    (so : Accepts w (shown_at w t) place holder c e part words hits answerer answering)
    (fresh : IsFresh w.plan.faults c (driven_at w t) answerer)
    (spent : (d : Channel) (station : ℕ) → IsSpent w.plan.faults d (driven_at w t) station)
    (rests : (d : Channel) → runs w.lag (on_channel d (shown_at w t)) ≡ false) (no_command : part ≢ Command)
    (named : hits_on w.plan.faults (attempt_to_come w.plan.faults part (driven_at w t)) part ≡ hits) (fits : HitsFit part hits words)
    (some : 0 < part_ticks hits words) (goes : GoesOnTo w (shown_at w t) (suc t)) where
  abbrev past : List Pair
  past = shown_at w t

  abbrev s : Sender
  s = record { station = answerer; channel = c; part = part; words = words }

  -- no command began
  counted-by : (n : ℕ) → 0 < n → (more : List Pair) (out : List (List Drive)) → PartRuns w (trace_at w t) s hits n more out →
      commands_in w (out ++ driven_at w t) ≡ commands_in w (driven_at w t) + 0
  counted-by n any more out runs_so =
      let same = count-answer w.plan.faults s (driven_at w t) out runs_so.part.ticks no_command runs_so.commands in omega (arith, same)

  pub accept-ticks : PartTicks w t (record { station = answerer; channel = c; part = part; words = words }) hits 0
  accept-ticks =
      all-ticks w t s hits lag stays fresh spent rests named fits some
      (λ ticks alone few. own-drives w past place holder c e part words hits answerer answering lag so ticks alone)
      (λ ticks alone few. others-silent w past place holder c e part words hits answerer answering lag so ticks alone)
      (λ ticks alone few other station at. ap (λ (d : Course). d.ended) (all-same w past place holder c e part words hits answerer answering lag so ticks alone other station at))
      (λ y ticks alone few. all-takes w past place holder c e part words hits answerer answering lag so y ticks alone)
      (λ ticks alone few. held w past place holder c e part words hits answerer answering lag so ticks alone)
      (λ ticks alone few. answer-goes-on w t c past ticks lag (long-at w t stays) goes alone.alone) 0 counted-by
