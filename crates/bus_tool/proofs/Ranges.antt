-- The numbers of every message in the log of an accepted plan's world are in their ranges.
use Rattle.std.proofs.Common.{◌≡◌, ℕ, zero, suc, ◌+◌, ◌<◌, List, [], ◌∷◌, length, get_or}
use Rattle.std.specs.Prelude.{Bool, true, false, All, IfSome, Option, Some, None, slice_get, flat_map, if◌then◌else◌, ◌==◌}
use Rattle.std.proofs.lemmas.List.Elements.{All-nil, All-cons, All-head, All-tail, All-append, All-drop, All-filter, All-get_or}
use Rattle.std.proofs.lemmas.Option.{slice_get_within, get_or_from_slice_get}
use Rattle.bus_base.specs.declared.samples.Pair.{Pair}
use Rattle.bus_line.specs.declared.cutter.TheConstants.{LAG}
use Rattle.bus_formats.specs.Accepted.{HasKindRanges, HasItemRanges, HasFrameRanges, HasStationRanges, IsAccepted}
use Rattle.bus_formats.specs.Plans.{ItemData, FrameData, StationData, PlanData}
use Rattle.bus_formats.specs.declared.log.Attempt.{Attempt}
use Rattle.bus_retry.specs.declared.Choice.{Choice}
use Rattle.bus_retry.specs.declared.Choice.TheVariants.{Again, Done}
use Rattle.bus_retry.specs.Retries.{next_of}
use Rattle.bus_model.specs.Attempts.{Begun, Ended}
use Rattle.bus_model.specs.Controller.{ending_now}
use Rattle.bus_model.specs.Memory.{TimedLoad}
use Rattle.bus_model.specs.Starts.{Entry, entries_in, entries_from, repeated, agenda, left_after, starts, start_of}
use Rattle.bus_model.specs.Course.{Course, Take, quiet_from, begin_entry, run_by, runs_next, close_or_run, run_on, take_control, with_takes}
use Rattle.bus_model.specs.Course.{at_first, course}
use Rattle.bus_model.specs.World.{is_present, world}
use Rattle.bus_model.specs.WorldLog.{attempts, attempt_at, course_of, ended_by, present_stations, world_log}

-- an entry, an attempt that runs and an attempt that ended, each of a message with ranges
abbrev EntryFits : Entry → Type 0
EntryFits entry = HasKindRanges entry.item.kind

abbrev BegunFits : Begun → Type 0
BegunFits begun = EntryFits begun.entry

abbrev AttemptFits : Attempt → Type 0
AttemptFits attempt = HasKindRanges attempt.kind

-- ---- the items of a station

entries-in : (frame offset place : ℕ) (items : List ItemData) → All HasItemRanges items → All EntryFits (entries_in frame offset place items)
entries-in frame offset place [] ranges = All-nil EntryFits
entries-in frame offset place (item ∷ items) ranges =
    All-cons EntryFits record { frame = frame; place = place; offset = offset; item = item } (entries_in frame offset (place + 1) items)
    (All-head HasItemRanges item items ranges).kind
    (entries-in frame offset (place + 1) items (All-tail HasItemRanges item items ranges))

entries-from : (number offset : ℕ) (frames : List FrameData) → All HasFrameRanges frames → All EntryFits (entries_from number offset frames)
entries-from number offset [] ranges = All-nil EntryFits
entries-from number offset (f ∷ later) ranges =
    All-append EntryFits (entries_in number offset 1 f.items) (entries_from (number + 1) (offset + f.ticks) later)
    (entries-in number offset 1 f.items (All-head HasFrameRanges f later ranges).items)
    (entries-from (number + 1) (offset + f.ticks) later (All-tail HasFrameRanges f later ranges))

frames-repeated : (n : ℕ) (frames : List FrameData) → All HasFrameRanges frames → All HasFrameRanges (repeated n frames)
frames-repeated zero frames ranges = All-nil HasFrameRanges
frames-repeated (suc n) frames ranges = All-append HasFrameRanges frames (repeated n frames) ranges (frames-repeated n frames ranges)

agenda-fits : (station : StationData) → HasStationRanges station → All EntryFits (agenda station)
unfolding agenda
agenda-fits station ranges = entries-from 1 0 (repeated station.repeat station.frames) (frames-repeated station.repeat station.frames ranges.frames)

-- ---- a controller's course

-- what a controller did and is to do, each of a message with ranges
record CourseFits (c : Course) : Type 0 where
  ended : All AttemptFits c.ended
  runs : IfSome c.runs BegunFits
  left : All EntryFits c.left

takes-fit : (takes : List Take) (heard : ℕ) (c : Course) → CourseFits c → CourseFits (with_takes takes heard c)
takes-fit [] heard c fits = fits
takes-fit (take ∷ takes) heard c fits = takes-fit takes heard _ (one (take.heard == heard))
  where
    one : (test : Bool) → CourseFits (if test then take_control take.first c else c)
    one true = record { ended = fits.ended; runs = fits.runs; left = fits.left }
    one false = fits

begins : (past : List Pair) (c : Course) (left : List Entry) → All EntryFits left → IfSome (begin_entry past c left) BegunFits
begins past c [] fit = tt
begins past c (entry ∷ later) fit = one (start_of c.opening c.retry c.origin entry (quiet_from past) == length past) _ (All-head EntryFits entry later fit)
  where
    one : (test : Bool) (b : Begun) → BegunFits b → IfSome (if test then Some b else None) BegunFits
    one true b has = has
    one false b has = tt

next-fits : (past : List Pair) (c : Course) → CourseFits c → IfSome (runs_next past c) BegunFits
next-fits past c fits = go c.runs fits.runs
  where
    free : (holds : Bool) → IfSome (if holds then begin_entry past c c.left else None) BegunFits
    free true = begins past c c.left fits.left
    free false = tt

    go : (runs : Option Begun) → IfSome runs BegunFits → IfSome (run_by past c runs) BegunFits
    go (Some begun) has = has
    go None has = free c.holds

left-fits : (choice : Choice) (left : List Entry) → All EntryFits left → All EntryFits (left_after choice left)
left-fits Done left fit = All-drop EntryFits 1 left fit
left-fits (Again state) left fit = fit

ends-fit : (c : Course) (begun : Begun) (tick : ℕ) (e : Option Ended) → CourseFits c → BegunFits begun → CourseFits (close_or_run c begun tick e)
ends-fit c begun tick None fits has = record { ended = fits.ended; runs = has; left = fits.left }
ends-fit c begun tick (Some e) fits has = record {
  ended = All-cons AttemptFits _ c.ended has fits.ended;
  runs = tt;
  left = left-fits (next_of begun.entry.item begun.state e.outcome) c.left fits.left;
}

run-fits : (k : ℕ) (shown : Pair) (past : List Pair) (c : Course) (begun : Option Begun) → CourseFits c → IfSome begun BegunFits →
    CourseFits (run_on k shown past c begun)
run-fits k shown past c None fits has = fits
run-fits k shown past c (Some begun) fits has = ends-fit c begun (length past) (ending_now k begun (shown ∷ past)) fits has

course-fits : (k : ℕ) (station : StationData) (first : Bool) (takes : List Take) (past : List Pair) → HasStationRanges station →
    CourseFits (course k station first takes past)
unfolding course
course-fits k station first takes [] ranges =
    takes-fit takes 0 (at_first station first) record { ended = All-nil AttemptFits; runs = tt; left = agenda-fits station ranges }
course-fits k station first takes (shown ∷ past) ranges =
    let before = course-fits k station first takes past ranges in
    takes-fit takes (suc (length past)) _ (run-fits k shown past _ _ before (next-fits past _ before))

-- ---- the attempts of all stations

at-fits : (plan : PlanData) (loads : List TimedLoad) (address tick : ℕ) (ended : List Attempt) → All AttemptFits ended →
    All AttemptFits (attempt_at LAG plan loads [] [] address tick ended)
at-fits plan loads address tick [] fit = All-nil AttemptFits
at-fits plan loads address tick (attempt ∷ others) fit = one (attempt.ended.0 == tick)
  where
    one : (test : Bool) → All AttemptFits (if test then record attempt { station = address } ∷ [] else [])
    one true = All-cons AttemptFits (record attempt { station = address }) [] (All-head AttemptFits attempt others fit) (All-nil AttemptFits)
    one false = All-nil AttemptFits

module _ (plan : PlanData) (loads : List TimedLoad) where
  by-fits : (past : List Pair) (tick : ℕ) (station : StationData) → HasStationRanges station →
      All AttemptFits (ended_by LAG plan loads [] [] past tick station)
  by-fits past tick station ranges =
      at-fits plan loads station.terminal.address tick (course_of LAG plan loads [] [] station past).ended
      (course-fits LAG station (starts plan station) _ past ranges).ended

  all-by : (past : List Pair) (tick : ℕ) (stations : List StationData) → All HasStationRanges stations →
      All AttemptFits (flat_map (ended_by LAG plan loads [] [] past tick) stations)
  all-by past tick [] ranges = All-nil AttemptFits
  all-by past tick (station ∷ others) ranges =
      All-append AttemptFits (ended_by LAG plan loads [] [] past tick station) (flat_map (ended_by LAG plan loads [] [] past tick) others)
      (by-fits past tick station (All-head HasStationRanges station others ranges))
      (all-by past tick others (All-tail HasStationRanges station others ranges))

  pub attempts-fit : (past : List Pair) → All HasStationRanges plan.stations → All AttemptFits (attempts LAG plan loads [] [] past)
  unfolding attempts
  attempts-fit [] ranges = All-nil AttemptFits
  attempts-fit (shown ∷ past) ranges =
      All-append AttemptFits (attempts LAG plan loads [] [] past)
      (flat_map (ended_by LAG plan loads [] [] (shown ∷ past) (length past)) (present_stations LAG plan loads [] []))
      (attempts-fit past ranges)
      (all-by (shown ∷ past) (length past) (present_stations LAG plan loads [] [])
      (All-filter (is_present []) HasStationRanges plan.stations ranges))

-- those of a world over these loads
pub world-fits : (plan : PlanData) (loads : List TimedLoad) (past : List Pair) (a : Attempt) (i : ℕ) → IsAccepted plan →
    slice_get (attempts LAG plan loads [] [] past) i ≡ Some a → HasKindRanges a.kind
world-fits plan loads past a i accepted is =
    let fit = attempts-fit plan loads past accepted.ranges in
    let found = attempts LAG plan loads [] [] past in
    let within : i < length found = slice_get_within found i a is in
    let same : get_or found i a ≡ a = get_or_from_slice_get found i a a is in
    rw same at (All-get_or AttemptFits found i a within fit)

-- those of the log
pub log-fits : (plan : PlanData) (ticks : ℕ) (a : Attempt) (i : ℕ) → IsAccepted plan → slice_get (world_log LAG plan ticks).attempts i ≡ Some a →
    HasKindRanges a.kind
unfolding world_log
log-fits plan ticks a i accepted is = world-fits plan [] (world LAG plan [] [] [] ticks) a i accepted is
