-- The world while the station in control sends its command, from a settled moment.
use Rattle.std.proofs.Common.{◌≡◌, ◌≢◌, ℕ, zero, suc, ◌+◌, ◌*◌, ◌<◌, ◌≤◌, Bool, true, false, List, ◌++◌, length, Option, Some, None, refl, ap, ◌∙◌, arith, option_map}
use Rattle.std.proofs.lemmas.Option.{slice_get-map}
use Rattle.std.specs.Prelude.{if◌then◌else◌, slice_get}
use Rattle.bus_base.specs.declared.samples.Drive.{Drive}
use Rattle.bus_base.specs.declared.samples.Drive.TheVariants.{Silent}
use Rattle.bus_base.specs.declared.samples.Pair.{Pair}
use Rattle.bus_base.specs.declared.samples.Part.TheVariants.{Command}
use Rattle.bus_formats.specs.Forms.{command_words}
use Rattle.bus_formats.specs.Plans.{StationData, PlanData}
use Rattle.bus_formats.specs.declared.fault.Hit.{Hit}
use Rattle.bus_model.specs.Memory.{TimedLoad}
use Rattle.bus_model.specs.Sending.{drive_sample}
use Rattle.bus_model.specs.Starts.{Entry, starts}
use Rattle.bus_model.specs.Transmissions.{drive_or, station_drive}
use Rattle.bus_model.specs.Attempts.{Begun}
use Rattle.bus_model.specs.Control.{OutsideTake, course_after, drives_next}
use Rattle.bus_model.specs.World.{Trace, world, trace, is_present, drive_after, drives_after, ticks_on}
use Rattle.bus_law_line.specs.Senders.{Sender}
use Rattle.bus_law_stations.specs.Messages.{BeginsMessage, message_begun}
use Rattle.bus_law_messages.specs.Settled.{Settled, NoneTakes}
use Rattle.bus_law_messages.specs.Commands.{command_sender, LeavesWhole, CommandSent}
use Rattle.bus_law_messages.proofs.Listening.{serving-listens, serving-silent}
use Rattle.bus_law_messages.proofs.Holding.{holder-sends}
use Rattle.bus_law_messages.proofs.Running.{RunsAlone, words-sent}

-- ---- what a station of the plan drives

absent-silent : (b : Bool) (drive : Drive) → (b ≡ true → drive ≡ Silent) → (if b then drive else Silent) ≡ Silent
absent-silent true drive silent = silent refl
absent-silent false drive silent = refl

silent-or : (o : Option StationData) (drives : StationData → Drive) → ((station : StationData) → o ≡ Some station → drives station ≡ Silent) →
    drive_or (option_map drives o) ≡ Silent
silent-or None drives silent = refl
silent-or (Some station) drives silent = silent station refl

-- a station is silent where it is absent, or drives nothing
pub place-silent : (k : ℕ) (plan : PlanData) (loads : List TimedLoad) (outside : List OutsideTake) (absent : List ℕ) (past : List Pair) (other : ℕ) →
    ((station : StationData) → slice_get plan.stations other ≡ Some station → is_present absent station ≡ true →
    drives_next k station (starts plan station) loads outside past ≡ Silent) →
    station_drive other (drives_after k plan loads outside absent past) ≡ Silent
place-silent k plan loads outside absent past other silent =
    ap drive_or (slice_get-map (drive_after k plan loads outside absent past) plan.stations other)
    ∙ silent-or (slice_get plan.stations other) (drive_after k plan loads outside absent past) (λ station there.
    absent-silent (is_present absent station) (drives_next k station (starts plan station) loads outside past) (silent station there))

-- a station that is present drives this
pub place-drives : (k : ℕ) (plan : PlanData) (loads : List TimedLoad) (outside : List OutsideTake) (absent : List ℕ) (past : List Pair) (place : ℕ)
    (station : StationData) (drive : Drive) → slice_get plan.stations place ≡ Some station → is_present absent station ≡ true →
    drives_next k station (starts plan station) loads outside past ≡ drive → slice_get (drives_after k plan loads outside absent past) place ≡ Some drive
place-drives k plan loads outside absent past place station drive there present drives =
    slice_get-map (drive_after k plan loads outside absent past) plan.stations place
    ∙ ap (option_map (drive_after k plan loads outside absent past)) there
    ∙ ap (λ (b : Bool). Some (if b then drives_next k station (starts plan station) loads outside past else Silent)) present
    ∙ ap Some drives

-- ---- from a settled moment

module _ (k : ℕ) (plan : PlanData) (loads : List TimedLoad) (outside : List OutsideTake) (absent : List ℕ) (before : Trace) (place : ℕ)
    (holder : StationData) (entry : Entry) (limit : ℕ) (small : k < 40) (settled : Settled k plan loads outside absent before place holder)
    (begins : BeginsMessage (course_after k holder (starts plan holder) loads outside before.shown) before.shown entry)
    (stays : NoneTakes k plan loads outside place (length before.shown) (length before.shown + limit)) where
  abbrev begun : Begun
  begun = message_begun (course_after k holder (starts plan holder) loads outside before.shown) entry (length before.shown)

  abbrev sender : Sender
  sender = command_sender place begun

  -- the station in control drives the samples of its command
  pub own-drives : (ticks : List Pair) → RunsAlone k sender.channel ticks → length ticks < limit →
      slice_get (drives_after k plan loads outside absent (ticks ++ before.shown)) place
      ≡ Some (drive_sample sender.channel Command sender.words (length ticks))
  own-drives ticks runs early =
      place-drives k plan loads outside absent (ticks ++ before.shown) place holder (drive_sample sender.channel Command sender.words (length ticks))
      settled.there settled.present
      (holder-sends k holder (starts plan holder) loads outside before.shown entry settled.controls begins ticks
      record { rests = settled.rests sender.channel; leg = runs.0 })

  -- the others are silent
  pub others-silent : (ticks : List Pair) → RunsAlone k sender.channel ticks → length ticks < limit → (other : ℕ) → other ≢ place →
      station_drive other (drives_after k plan loads outside absent (ticks ++ before.shown)) ≡ Silent
  others-silent ticks runs early other apart =
      place-silent k plan loads outside absent (ticks ++ before.shown) other (λ station there present.
      serving-silent k station (starts plan station) loads outside before.shown sender.channel small
      (serving-listens k station (starts plan station) loads outside before.shown sender.channel (settled.others other station there apart present)) ticks
      runs.0 runs.1 (λ tick low high. stays other station there apart tick low (omega (arith, high, early))))

-- as many ticks were shown as the world has
pub shown-long : (k : ℕ) (plan : PlanData) (loads : List TimedLoad) (outside : List OutsideTake) (absent : List ℕ) (t : ℕ) →
    length (world k plan loads outside absent t) ≡ t
unfolding ticks_on
shown-long k plan loads outside absent zero = refl
shown-long k plan loads outside absent (suc t) = ap suc (shown-long k plan loads outside absent t)

-- what was shown before has this length
pub none-takes-from : (k : ℕ) (plan : PlanData) (loads : List TimedLoad) (outside : List OutsideTake) (place t m n : ℕ) → m ≡ t →
    NoneTakes k plan loads outside place t (t + n) → NoneTakes k plan loads outside place m (m + n)
none-takes-from k plan loads outside place t m n same stays =
    λ other station there apart tick low high. stays other station there apart tick (omega (arith, low, same)) (omega (arith, high, same))

pub sent-at : (k : ℕ) (plan : PlanData) (loads : List TimedLoad) (outside : List OutsideTake) (absent : List ℕ) (t place : ℕ)
    (holder : StationData) (entry : Entry) (hits : List Hit) (n : ℕ) → k < 40 →
    let before : Trace = trace k plan loads outside absent t in
    Settled k plan loads outside absent before place holder →
    BeginsMessage (course_after k holder (starts plan holder) loads outside before.shown) before.shown entry →
    NoneTakes k plan loads outside place t (t + n) → LeavesWhole plan.faults Command before.driven hits (command_words entry.item.kind) →
    n ≤ 40 * length (command_words entry.item.kind) → (ticks : List Pair) × (sent : List (List Drive))
    × CommandSent k plan loads outside absent before place
    (message_begun (course_after k holder (starts plan holder) loads outside before.shown) entry t) hits n ticks sent
sent-at k plan loads outside absent t place holder entry hits n small settled begins stays whole within =
    let before : Trace = trace k plan loads outside absent t in
    let begun : Begun = message_begun (course_after k holder (starts plan holder) loads outside before.shown) entry t in
    let here = none-takes-from k plan loads outside place t (length before.shown) n (shown-long k plan loads outside absent t) stays in
    words-sent k plan loads outside absent before (command_sender place begun) hits n settled.undriven settled.spent whole
    (own-drives k plan loads outside absent before place holder entry n small settled begins here)
    (others-silent k plan loads outside absent before place holder entry n small settled begins here) n (omega arith) within
