-- The attempts of a bus controller, one after the other, and its turns of control (MIL-STD-1553B 4.4.2, 4.3.3.7, 4.6).
use Rattle.std.specs.Prelude.{ℕ, suc, ◌-◌, Bool, true, false, not, ◌==◌, if◌then◌else◌, List, [], ◌∷◌, length, Option, Some, None}
use Rattle.bus_base.specs.declared.samples.Channel.{Channel}
use Rattle.bus_base.specs.declared.samples.Pair.{Pair}
use Rattle.bus_base.specs.declared.samples.Drive.{Drive}
use Rattle.bus_base.specs.declared.samples.Drive.TheVariants.{Silent}
use Rattle.bus_line.specs.Past.{end_since}
use Rattle.bus_line.specs.Channels.{on_channel, quiet_both}
use Rattle.bus_formats.specs.Plans.{StationData}
use Rattle.bus_formats.specs.declared.form.Outcome.{Outcome}
use Rattle.bus_formats.specs.declared.form.Outcome.TheVariants.{Passed, Yielded}
use Rattle.bus_formats.specs.declared.log.Attempt.{Attempt}
use Rattle.bus_retry.specs.Retries.{next_of, live_after}
use Rattle.bus_retry.specs.declared.RetryState.{RetryState}
use Rattle.bus_retry.specs.declared.Choice.{Choice}
use Rattle.bus_model.specs.Starts.{Entry, agenda, Origin, first_origin, planned_at, Opening, taking, first_opening, opening_after, start_of, state_of, finishes, retry_by, left_after}
use Rattle.bus_model.specs.Attempts.{Begun, Ended, recorded}
use Rattle.bus_model.specs.Controller.{ending_now, drive_command}

-- control is taken when so many ticks were heard; the first command starts in this tick
pub record Take : Type 0 where
  pub heard : ℕ
  pub first : ℕ

-- a controller after some ticks: the attempts that have ended, the newest first; the one that runs; whether it holds control; and, for the next
-- attempt, the items left, the retry that is due, the live channel, the planned start of a frame, and what it waits for
pub record Course : Type 0 where
  pub ended : List Attempt
  pub runs : Option Begun
  pub holds : Bool
  pub left : List Entry
  pub retry : Option RetryState
  pub live : Channel
  pub origin : Origin
  pub opening : Opening

-- ---- the next attempt

-- both channels are quiet from this tick on
abbrev pub quiet_from : List Pair → ℕ
quiet_from past = length past - quiet_both past

abbrev pub begin_entry : List Pair → Course → List Entry → Option Begun
begin_entry past c [] = None
begin_entry past c (entry ∷ later) =
    if start_of c.opening c.retry c.origin entry (quiet_from past) == length past
    then Some record { entry = entry; state = state_of c.opening c.retry entry c.live; start = length past }
    else None

-- the attempt that runs in the tick to come: one that began before, or the next of a controller that holds control
abbrev pub run_by : List Pair → Course → Option Begun → Option Begun
run_by past c (Some begun) = Some begun
run_by past c None = if c.holds then begin_entry past c c.left else None

abbrev pub runs_next : List Pair → Course → Option Begun
runs_next past c = run_by past c c.runs

-- ---- the end of an attempt

-- a controller doesn't know its station's address, which the log fills in
abbrev pub attempt_of : Begun → Ended → ℕ → Bool → Attempt
attempt_of begun e tick finishes = recorded 0 begun e tick finishes

-- control is given away by an offer that was accepted (4.3.3.5.1.7.1)
abbrev pub gives : Outcome → Bool
gives Passed = true
gives Yielded = true
gives _ = false

-- after an ending in this tick, which another attempt of the item follows or none
abbrev pub close_by : Course → Begun → Ended → ℕ → Choice → Course
close_by c begun e tick choice = record {
  ended = attempt_of begun e tick (finishes choice) ∷ c.ended;
  runs = None;
  holds = not (gives e.outcome);
  left = left_after choice c.left;
  retry = retry_by choice;
  live = live_after begun.entry.item begun.state e.outcome c.live;
  origin = c.origin;
  opening = opening_after e.outcome begun.state.channel tick;
}

abbrev pub close : Course → Begun → Ended → ℕ → Course
close c begun e tick = close_by c begun e tick (next_of begun.entry.item begun.state e.outcome)

abbrev pub close_or_run : Course → Begun → ℕ → Option Ended → Course
close_or_run c begun tick None = record c { runs = Some begun }
close_or_run c begun tick (Some e) = close c begun e tick

abbrev pub run_on : ℕ → Pair → List Pair → Course → Option Begun → Course
run_on k shown past c None = c
run_on k shown past c (Some begun) = close_or_run c begun (length past) (ending_now k begun (shown ∷ past))

-- ---- control is taken

-- the first command starts in its tick, which becomes the planned start of the next item's frame
abbrev pub take_control : ℕ → Course → Course
take_control first c =
    record c { holds = true; retry = None; opening = taking first; origin = planned_at first c.left }

abbrev pub with_takes : List Take → ℕ → Course → Course
with_takes [] heard c = c
with_takes (take ∷ takes) heard c =
    with_takes takes heard (if take.heard == heard then take_control take.first c else c)

-- ---- a controller

abbrev pub at_first : StationData → Bool → Course
at_first station starts = record {
  ended = [];
  runs = None;
  holds = starts;
  left = agenda station;
  retry = None;
  live = station.channel;
  origin = first_origin;
  opening = first_opening;
}

-- a controller after what the channels showed; whether it starts with control, and when it takes control
unfoldable pub course : ℕ → StationData → Bool → List Take → List Pair → Course
course k station starts takes [] = with_takes takes 0 (at_first station starts)
course k station starts takes (shown ∷ past) =
    with_takes takes (suc (length past))
    (run_on k shown past (course k station starts takes past) (runs_next past (course k station starts takes past)))

abbrev pub drive_by : ℕ → List Pair → Option Begun → Drive
drive_by k past None = Silent
drive_by k past (Some begun) =
    drive_command begun (on_channel begun.state.channel past) (end_since k (on_channel begun.state.channel past) begun.start)

-- what it drives in the tick to come
abbrev pub drive_course : ℕ → List Pair → Course → Drive
drive_course k past c = drive_by k past (runs_next past c)
