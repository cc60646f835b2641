-- From a moment between two messages a command is sent: what each station does in its ticks.
use Rattle.std.proofs.Common.{◌≡◌, ◌≢◌, inl, inr, ℕ, ◌+◌, ◌<◌, ◌≤◌, true, List, [], ◌∷◌, ◌++◌, length, Some, None, refl, sym, ap, ◌∙◌, subst, arith}
use Rattle.std.proofs.lemmas.Bool.{cases_eq}
use Rattle.std.proofs.lemmas.Option.{same_Some}
use Rattle.std.specs.Prelude.{slice_get, not, ◌&&◌, ◌||◌, is_none}
use Rattle.bus_base.specs.declared.samples.Channel.{Channel}
use Rattle.bus_base.specs.declared.samples.Drive.TheVariants.{Silent}
use Rattle.bus_base.specs.declared.samples.Pair.{Pair}
use Rattle.bus_base.specs.declared.samples.Part.TheVariants.{Command}
use Rattle.bus_formats.specs.Forms.{command_words}
use Rattle.bus_formats.specs.Plans.{StationData}
use Rattle.bus_model.specs.Attempts.{Begun}
use Rattle.bus_model.specs.Control.{so_far, outside_takes, drives_next}
use Rattle.bus_model.specs.Course.{Course}
use Rattle.bus_model.specs.Message.{Present}
use Rattle.bus_model.specs.Sending.{drive_sample}
use Rattle.bus_model.specs.Starts.{Entry, starts, has_items}
use Rattle.bus_model.specs.Terminal.{took_now}
use Rattle.bus_model.specs.Transmissions.{station_drive}
use Rattle.bus_model.specs.World.{Trace, drives_after}
use Rattle.bus_law_control.proofs.Holding.{yielded-before, heard-nothing}
use Rattle.bus_law_line.specs.Senders.{Sender}
use Rattle.bus_law_messages.specs.Commands.{command_sender}
use Rattle.bus_law_messages.specs.Settled.{InControl, IsServing}
use Rattle.bus_law_messages.proofs.Holding.{keeps-control, holder-sends}
use Rattle.bus_law_messages.proofs.Listening.{serving-listens, serving-nothing, serving-silent}
use Rattle.bus_law_messages.proofs.Sending.{place-silent, place-drives}
use Rattle.bus_law_stations.specs.Messages.{BeginsMessage, message_begun, with_running, ShowsBurst}
use Rattle.bus_law_stations.proofs.Commanding.{command-runs}
use Rattle.bus_law_stations.proofs.StillStation.{always-taken}
use Rattle.bus_law_stations.proofs.Turning.{serving-same, holding-course}
use Rattle.bus_law_table.proofs.Takes.{serving-takes, unheard-takes}
use Rattle.bus_law_phases.specs.Scenarios.{Scenario, course_of, hearing_of, IsPresentAt, NoneTakesFrom}
use Rattle.bus_law_phases.specs.Passages.{HoldsAlone}
use Rattle.bus_law_phases.specs.PartRuns.{RunsAlone}
use Rattle.bus_law_phases.specs.Rests.{Rested}
use Rattle.bus_law_phases.specs.Silences.{SomeoneIsBusy}

-- one of two stations at a place
pub by-place : (w : Scenario) (P : StationData → Type 0) (place : ℕ) (holder : StationData) → IsPresentAt w place holder → P holder →
    ((other : ℕ) (station : StationData) → IsPresentAt w other station → other ≢ place → P station) →
    (other : ℕ) (station : StationData) → IsPresentAt w other station → P station
by-place w P place holder at own others other station there = elim (cases_eq other place) [
  | inl same ↦ (let here : slice_get w.plan.stations place ≡ Some station = ap (slice_get w.plan.stations) (sym same) ∙ there.there in
      let is : holder ≡ station = same_Some holder station (sym at.there ∙ here) in subst P is own)
  | inr apart ↦ others other station there apart
]

module _ (w : Scenario) (now : Trace) (place : ℕ) (holder : StationData) (stations : List Present) (entry : Entry) (lag : w.lag ≡ 3)
    (rested : Rested w now place holder stations) (begins : BeginsMessage (course_of w holder now.shown) now.shown entry)
    (stays : NoneTakesFrom w (length now.shown)) where
  abbrev past : List Pair
  past = now.shown

  abbrev k : ℕ
  k = w.lag

  abbrev begun : Begun
  begun = message_begun (course_of w holder past) entry (length past)

  abbrev sender : Sender
  sender = command_sender place begun

  abbrev c : Channel
  c = begun.state.channel

  below : w.lag < 40
  below = omega (arith, lag)

  -- ---- the station in control

  pub controls : InControl (course_of w holder past) (length past)
  controls = record {
    holds = rested.holds;
    idle = rested.idle;
    before = yielded-before w.lag holder (starts w.plan holder) (so_far w.lag holder (starts w.plan holder) w.loads w.outside past).takes past;
  }

  pub shows-of : (ticks : List Pair) → RunsAlone w.lag c ticks → ShowsBurst w.lag c past ticks
  shows-of ticks alone = record { rests = rested.rests c; leg = alone.leg }

  pub own-drives : (ticks : List Pair) → RunsAlone w.lag c ticks →
      slice_get (drives_after w.lag w.plan w.loads w.outside w.absent (ticks ++ past)) place ≡ Some (drive_sample c Command (command_words entry.item.kind)
      (length ticks))
  own-drives ticks alone =
      place-drives w.lag w.plan w.loads w.outside w.absent (ticks ++ past) place holder
      (drive_sample c Command (command_words entry.item.kind) (length ticks)) rested.at.there rested.at.present
      (holder-sends w.lag holder (starts w.plan holder) w.loads w.outside past entry controls begins ticks (shows-of ticks alone))

  -- its message runs from the first tick on
  holder-runs : (first : Pair) (ticks : List Pair) → RunsAlone w.lag c (first ∷ ticks) →
      course_of w holder ((first ∷ ticks) ++ past) ≡ with_running (course_of w holder past) begun
  holder-runs first ticks alone =
      holding-course w.lag holder (starts w.plan holder) w.loads w.outside past (first ∷ ticks)
      (keeps-control w.lag holder (starts w.plan holder) w.loads w.outside past entry controls begins (first ∷ ticks) (shows-of (first ∷ ticks) alone))
      ∙ command-runs w.lag holder (starts w.plan holder) (so_far w.lag holder (starts w.plan holder) w.loads w.outside past).takes past entry
      (always-taken w.lag holder (starts w.plan holder) w.loads w.outside past) begins ticks first (shows-of (first ∷ ticks) alone)

  holder-holds : (ticks : List Pair) → RunsAlone w.lag c ticks → (course_of w holder (ticks ++ past)).holds ≡ true
  holder-holds [] alone = rested.holds
  holder-holds (first ∷ ticks) alone = ap (λ (d : Course). d.holds) (holder-runs first ticks alone) ∙ rested.holds

  holder-still : (ticks : List Pair) → RunsAlone w.lag c ticks → (course_of w holder (ticks ++ past)).ended ≡ (course_of w holder past).ended
  holder-still [] alone = refl
  holder-still (first ∷ ticks) alone = ap (λ (d : Course). d.ended) (holder-runs first ticks alone)

  holder-takes : (x : Pair) (ticks : List Pair) → RunsAlone w.lag c (x ∷ ticks) →
      took_now w.lag holder.terminal w.loads (hearing_of w holder ((x ∷ ticks) ++ past)) ≡ None
  holder-takes x ticks alone =
      unheard-takes w.lag holder (starts w.plan holder) w.loads w.outside x (ticks ++ past)
      (heard-nothing w.lag holder (starts w.plan holder) w.loads w.outside ((x ∷ ticks) ++ past) (holder-holds (x ∷ ticks) alone))

  pub someone-busy : (ticks : List Pair) → RunsAlone w.lag c ticks → SomeoneIsBusy w (ticks ++ past)
  someone-busy [] alone =
      let holds = rested.holds in
      let idle = rested.idle in
      let left = begins.left in
      record { place = place; station = holder; at = rested.at; busy = rw (holds, idle, left) refl }
  someone-busy (first ∷ ticks) alone =
      let holds = rested.holds in
      record {
        place = place;
        station = holder;
        at = rested.at;
        busy = ap (λ (d : Course). not d.holds || (is_none d.runs && not (has_items d.left))) (holder-runs first ticks alone) ∙ rw holds refl;
      }

  -- ---- the others

  module _ (other : ℕ) (station : StationData) (at : IsPresentAt w other station) (apart : other ≢ place) where
    serving : IsServing w.lag station (starts w.plan station) w.loads w.outside past
    serving = rested.others other station at apart

    stays-for : (n tick : ℕ) → length past ≤ tick → tick < length past + n →
        outside_takes w.lag station (starts w.plan station) w.loads w.outside tick w.outside ≡ []
    stays-for n tick low high = stays other station at tick low

    pub server-silent : (ticks : List Pair) → RunsAlone w.lag c ticks → drives_next w.lag station (starts w.plan station) w.loads w.outside (ticks ++ past) ≡ Silent
    server-silent ticks alone =
        serving-silent w.lag station (starts w.plan station) w.loads w.outside past c below
        (serving-listens w.lag station (starts w.plan station) w.loads w.outside past c serving) ticks alone.leg alone.quiet (stays-for (length ticks))

    pub server-same : (ticks : List Pair) → RunsAlone w.lag c ticks → course_of w station (ticks ++ past) ≡ course_of w station past
    server-same ticks alone =
        serving-same w.lag station (starts w.plan station) w.loads w.outside past ticks serving.serves
        (serving-nothing w.lag station (starts w.plan station) w.loads w.outside past c below
        (serving-listens w.lag station (starts w.plan station) w.loads w.outside past c serving) ticks alone.leg alone.quiet (stays-for (length ticks)))

    pub server-takes : (x : Pair) (ticks : List Pair) → RunsAlone w.lag c (x ∷ ticks) →
        took_now w.lag station.terminal w.loads (hearing_of w station ((x ∷ ticks) ++ past)) ≡ None
    server-takes x ticks alone =
        serving-takes w.lag station (starts w.plan station) w.loads w.outside past c serving x ticks alone.leg alone.quiet (stays-for (length (x ∷ ticks)))

  -- ---- all of them

  pub others-silent : (ticks : List Pair) → RunsAlone w.lag c ticks → (other : ℕ) → other ≢ place →
      station_drive other (drives_after w.lag w.plan w.loads w.outside w.absent (ticks ++ past)) ≡ Silent
  others-silent ticks alone other apart =
      place-silent w.lag w.plan w.loads w.outside w.absent (ticks ++ past) other (λ station there present.
      server-silent other station record { there = there; present = present } apart ticks alone)

  pub all-still : (ticks : List Pair) → RunsAlone w.lag c ticks → (other : ℕ) (station : StationData) → IsPresentAt w other station →
      (course_of w station (ticks ++ past)).ended ≡ (course_of w station past).ended
  all-still ticks alone =
      by-place w (λ station. (course_of w station (ticks ++ past)).ended ≡ (course_of w station past).ended) place holder rested.at (holder-still ticks alone)
      (λ other station at apart. ap (λ (d : Course). d.ended) (server-same other station at apart ticks alone))

  pub all-takes : (x : Pair) (ticks : List Pair) → RunsAlone w.lag c (x ∷ ticks) → (other : ℕ) (station : StationData) → IsPresentAt w other station →
      took_now w.lag station.terminal w.loads (hearing_of w station ((x ∷ ticks) ++ past)) ≡ None
  all-takes x ticks alone =
      by-place w (λ station. took_now w.lag station.terminal w.loads (hearing_of w station ((x ∷ ticks) ++ past)) ≡ None) place holder rested.at
      (holder-takes x ticks alone) (λ other station at apart. server-takes other station at apart x ticks alone)

  pub held : (ticks : List Pair) → RunsAlone w.lag c ticks → HoldsAlone w (ticks ++ past)
  held ticks alone = record {
    place = place;
    holder = holder;
    at = rested.at;
    holds = holder-holds ticks alone;
    others = λ other station at apart.
        ap (λ (d : Course). d.holds) (server-same other station at apart ticks alone) ∙ (rested.others other station at apart).serves.serves;
  }
