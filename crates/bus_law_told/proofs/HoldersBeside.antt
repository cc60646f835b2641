-- The station in control beside an answer: it sends nothing, and its message ends, waits on, or was closed before.
use Rattle.std.proofs.Common.{◌≡◌, ℕ, Bool, true, false, List, [], ◌∷◌, ◌++◌, length, Option, Some, refl, sym, ap, ◌∙◌, subst}
use Rattle.std.specs.Prelude.{not}
use Rattle.bus_base.specs.declared.samples.Channel.{Channel}
use Rattle.bus_base.specs.declared.samples.Drive.TheVariants.{Silent}
use Rattle.bus_base.specs.declared.samples.Pair.{Pair}
use Rattle.bus_base.specs.declared.samples.Part.TheVariants as parts
use Rattle.bus_line.specs.Past.{Burst, rest_of}
use Rattle.bus_line.specs.Channels.{on_channel}
use Rattle.bus_formats.specs.Plans.{StationData}
use Rattle.bus_formats.specs.declared.form.Outcome.{Outcome}
use Rattle.bus_formats.specs.declared.form.Outcome.TheVariants.{Clear}
use Rattle.bus_formats.specs.declared.form.Reading.TheVariants.{Good, Ends}
use Rattle.bus_model.specs.Attempts.{Begun, Ended, without_words}
use Rattle.bus_model.specs.Control.{so_far}
use Rattle.bus_model.specs.Controller.{second_read}
use Rattle.bus_model.specs.Course.{Take, Course, course, gives, close, close_or_run, drive_course}
use Rattle.bus_model.specs.Starts.{starts}
use Rattle.bus_law_control.specs.Abandoning.{IsAnsweredSoon}
use Rattle.bus_law_control.specs.Keeping.{HoldsThrough}
use Rattle.bus_law_control.proofs.Answered as answered
use Rattle.bus_law_control.proofs.Early.{early-course, early-silent, leg-starts}
use Rattle.bus_law_control.proofs.Keeping.{keeps-through}
use Rattle.bus_law_stations.specs.Messages.{ShowsBurst}
use Rattle.bus_law_stations.specs.Silence.{AreTaken, AwaitsSecond}
use Rattle.bus_law_stations.proofs.StillStation.{always-taken}
use Rattle.bus_law_stations.proofs.Turning.{holding-course, holding-sends}
use Rattle.bus_law_phases.specs.Answers.{ShowsWhole, HoldsBeside}
use Rattle.bus_law_phases.specs.PartRuns.{RunsAlone}
use Rattle.bus_law_phases.specs.Scenarios.{Scenario, course_of}
use Rattle.bus_law_phases.proofs.Legs.{runs-less}
use Rattle.bus_law_told.specs.Holders.{answer_read, HoldsInQuiet, IsAnsweredInTime, StartsInQuiet, closed_with}
use Rattle.bus_law_told.proofs.HoldersReadings.{second-keeps}

-- ---- a station in control takes none: its course is that of its controller

module _ (w : Scenario) (past : List Pair) (holder : StationData) (c : Channel) (at : HoldsInQuiet w past holder c) where
  abbrev s : Bool
  s = starts w.plan holder

  abbrev takes : List Take
  takes = (so_far w.lag holder s w.loads w.outside past).takes

  abbrev now : Course
  now = course_of w holder past

  taken : AreTaken (length past) takes
  taken = always-taken w.lag holder s w.loads w.outside past

  shows-of : (ticks : List Pair) → RunsAlone w.lag c ticks → ShowsBurst w.lag c past ticks
  shows-of ticks alone = record { rests = at.rests; leg = alone.leg }

  -- what its controller does beside a burst, of which the end is known in the newest tick
  module _ (burst : Burst) (later : Course)
      (same : (ticks : List Pair) → RunsAlone w.lag c ticks → course w.lag holder s takes (ticks ++ past) ≡ now)
      (silent : (ticks : List Pair) → RunsAlone w.lag c ticks → drive_course w.lag (ticks ++ past) (course w.lag holder s takes (ticks ++ past)) ≡ Silent)
      (then_is : (x : Pair) (ticks : List Pair) → ShowsWhole w.lag c burst past x ticks → course w.lag holder s takes (x ∷ (ticks ++ past)) ≡ later)
      (kept : later.holds ≡ true) where
    through : (ticks : List Pair) → RunsAlone w.lag c ticks → HoldsThrough w.lag holder s w.loads w.outside past ticks
    through [] alone = at.holds
    through (x ∷ ticks) alone =
        (ap (λ (d : Course). d.holds) (same (x ∷ ticks) alone) ∙ at.holds, through ticks (runs-less w.lag c x ticks alone))

    same-after : (ticks : List Pair) → RunsAlone w.lag c ticks → course_of w holder (ticks ++ past) ≡ now
    same-after ticks alone =
        holding-course w.lag holder s w.loads w.outside past ticks
        (keeps-through w.lag holder s w.loads w.outside past ticks (through ticks alone))
        ∙ same ticks alone

    pub holds-beside : HoldsBeside w past holder c burst later
    holds-beside = record {
      same = same-after;
      silent = λ ticks alone.
          holding-sends w.lag holder s w.loads w.outside past ticks (keeps-through w.lag holder s w.loads w.outside past ticks (through ticks alone))
          (ap (λ (d : Course). d.holds) (same-after ticks alone) ∙ at.holds)
          ∙ silent ticks alone;
      then_is = λ x ticks shows.
          holding-course w.lag holder s w.loads w.outside past (x ∷ ticks)
          (keeps-through w.lag holder s w.loads w.outside past (x ∷ ticks)
          (ap (λ (d : Course). d.holds) (then_is x ticks shows) ∙ kept, through ticks shows.alone))
          ∙ then_is x ticks shows;
      kept = kept;
    }

-- ---- its message was closed

pub closed-holds : (w : Scenario) (past : List Pair) (holder : StationData) (c : Channel) (burst : Burst) (need tick : ℕ) →
    StartsInQuiet w past holder c need tick → HoldsBeside w past holder c burst (course_of w holder past)
closed-holds w past holder c burst need tick rests =
    let now = course_of w holder past in
    let s = starts w.plan holder in
    let takes = (so_far w.lag holder s w.loads w.outside past).takes in
    let still : (ticks : List Pair) → RunsAlone w.lag c ticks → _ =
    λ ticks alone. leg-starts w.lag now c past ticks need tick rests.opens rests.needs alone.leg rests.later in
    holds-beside w past holder c rests.at burst now
    (λ ticks alone. early-course w.lag holder s takes past ticks (taken w past holder c rests.at) rests.idle (still ticks alone).0)
    (λ ticks alone. early-silent w.lag holder s takes past ticks (taken w past holder c rests.at) rests.idle (still ticks alone).0 (still ticks alone).1)
    (λ x ticks shows.
    early-course w.lag holder s takes past (x ∷ ticks) (taken w past holder c rests.at) rests.idle
    ((still ticks shows.alone).1, (still ticks shows.alone).0)) rests.at.holds

-- ---- its message waits for an answer on its own channel

module _ (w : Scenario) (past : List Pair) (holder : StationData) (begun : Begun) (e : ℕ)
    (so : IsAnsweredInTime w past holder begun.state.channel begun e) where
  abbrev own : Channel
  own = begun.state.channel

  abbrev mine : Bool
  mine = starts w.plan holder

  abbrev before : List Take
  before = (so_far w.lag holder mine w.loads w.outside past).takes

  abbrev c0 : Course
  c0 = course_of w holder past

  soon : IsAnsweredSoon begun c0 past e
  soon = record { runs = so.started; prompt = so.prompt }

  was-taken : AreTaken (length past) before
  was-taken = taken w past holder own so.at

  shows : (ticks : List Pair) → RunsAlone w.lag own ticks → ShowsBurst w.lag own past ticks
  shows = shows-of w past holder own so.at

  -- ---- a relay's second one

  module _ (waits : AwaitsSecond w.lag begun (on_channel own past) e) (burst : Burst) where
    closes-second : (ended : Ended) →
        ((shown : List Pair) →
        second_read w.lag begun.entry.item shown (on_channel own shown) waits.status (answer_read begun parts.Second burst) ≡ Some ended) →
        gives ended.outcome ≡ false → HoldsBeside w past holder own burst (closed_with w past holder own begun burst ended)
    closes-second ended ends keeps =
        holds-beside w past holder own so.at burst (closed_with w past holder own begun burst ended)
        (λ ticks alone. answered.second-runs w.lag holder mine before past begun e was-taken soon waits ticks (shows ticks alone))
        (λ ticks alone. answered.second-silent w.lag holder mine before past begun e was-taken soon waits ticks (shows ticks alone))
        (λ x ticks all.
        answered.second-read w.lag holder mine before past begun e was-taken soon waits ticks x burst (shows ticks all.alone) all.ended
        ∙ ap (close_or_run c0 begun (length (ticks ++ past))) (ends (x ∷ (ticks ++ past)))
        ∙ ap (close c0 begun ended) all.known)
        (ap not keeps)

    pub second-ends : (outcome : Outcome) (second : Option ℕ) → answer_read begun parts.Second burst ≡ Ends outcome second →
        HoldsBeside w past holder own burst (closed_with w past holder own begun burst (without_words outcome (Some waits.status) second))
    second-ends outcome second reads =
        closes-second (without_words outcome (Some waits.status) second)
        (λ shown. ap (second_read w.lag begun.entry.item shown (on_channel own shown) waits.status) reads)
        (second-keeps begun.entry.item.kind burst.slots (rest_of burst) outcome second reads)

    pub second-clear : (second : ℕ) → answer_read begun parts.Second burst ≡ Good second →
        HoldsBeside w past holder own burst (closed_with w past holder own begun burst (without_words Clear (Some waits.status) (Some second)))
    second-clear second reads =
        closes-second (without_words Clear (Some waits.status) (Some second))
        (λ shown. ap (second_read w.lag begun.entry.item shown (on_channel own shown) waits.status) reads) refl

-- ---- on the channel of its message, whatever it is called

-- a fact of a message's own channel is one of a channel that is the same
pub on-own : (w : Scenario) (past : List Pair) (holder : StationData) (begun : Begun) (e : ℕ) (P : Channel → Type 0) (c : Channel) →
    IsAnsweredInTime w past holder c begun e → (IsAnsweredInTime w past holder begun.state.channel begun e → P begun.state.channel) → P c
on-own w past holder begun e P c so make =
    let same = so.channel in
    subst P (sym same) (make (subst (λ d. IsAnsweredInTime w past holder d begun e) same so))
