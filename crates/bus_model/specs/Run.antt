-- The run of a plan: its messages one after the other, each by the message table, started by whoever holds control.
use Rattle.std.specs.Prelude.{ℕ, zero, suc, ◌+◌, max, Bool, true, false, not, ◌&&◌, ◌==◌, if◌then◌else◌, List, [], ◌∷◌, ◌++◌, map, reverse, length, fold, find, sum_by, Option, Some, None}
use Rattle.bus_formats.specs.Plans.{StationData, PlanData}
use Rattle.bus_formats.specs.declared.fault.Fault.{Fault}
use Rattle.bus_formats.specs.declared.form.Outcome.{Outcome}
use Rattle.bus_formats.specs.declared.log.Attempt.{Attempt}
use Rattle.bus_retry.specs.Retries.{next_of, live_after}
use Rattle.bus_retry.specs.declared.RetryState.{RetryState}
use Rattle.bus_retry.specs.declared.Choice.{Choice}
use Rattle.bus_model.specs.Memory.{TimedLoad, first_memory}
use Rattle.bus_model.specs.Endings.{Passing}
use Rattle.bus_formats.specs.Times.{ending_quiet}
use Rattle.bus_model.specs.Attempts.{Begun, recorded}
use Rattle.bus_model.specs.Message.{Present, address_of_station, Delivered, Message, message}
use Rattle.bus_model.specs.Starts.{Entry, agenda, Origin, first_origin, planned_at, Opening, taking, first_opening, opening_after, start_of, state_of, finishes, retry_by, left_after, starts}
use Rattle.bus_model.specs.Strikes.{ShownBurst, burst_end, ShownAnswer}

-- ---- the state of a run between two messages

-- a run after some attempts: the stations, who holds control, what the next attempt waits for, the retry that is due, the
-- planned start of a frame, the first tick from which both channels are quiet, an abandoned answer that still runs; and
-- the attempts, blocks taken and bursts so far, the last first; and whether no count was deceived
pub record Run : Type 0 where
  pub stations : List Present
  pub holder : ℕ
  pub opening : Opening
  pub retry : Option RetryState
  pub origin : Origin
  pub quiet_from : ℕ
  pub runs_on : Option ShownAnswer
  pub attempts : List Attempt
  pub deliveries : List Delivered
  pub bursts : List ShownBurst
  pub counted : Bool

abbrev pub is_at : ℕ → Present → Bool
is_at address station = address_of_station station == address

-- the stations with one of them changed
abbrev pub with_station : ℕ → (Present → Present) → List Present → List Present
with_station address change stations =
    map (λ station. if is_at address station then change station else station) stations

-- the next item of a station, which it sends while it holds control
pub record Next : Type 0 where
  pub station : Present
  pub entry : Entry

abbrev pub next_in : Present → List Entry → Option Next
next_in station [] = None
next_in station (entry ∷ later) = Some record { station = station; entry = entry }

abbrev pub next_by : Option Present → Option Next
next_by None = None
next_by (Some station) = next_in station station.left

abbrev pub next_item : Run → Option Next
next_item run = next_by (find (is_at run.holder) run.stations)

-- ---- control passes

abbrev pub left_at : Option Present → List Entry
left_at None = []
left_at (Some station) = station.left

-- a station takes control: its first command starts in this tick, which is the planned start of its next item's frame
abbrev pub take_control : ℕ → ℕ → Run → Run
take_control address tick run = record run {
  stations = with_station address (λ station. record station { serves = false }) run.stations;
  holder = address;
  opening = taking tick;
  retry = None;
  origin = planned_at tick (left_at (find (is_at address) run.stations));
}

-- the holder serves from now on
abbrev pub give_control : Run → Run
give_control run = record run { stations = with_station run.holder (λ station. record station { serves = true }) run.stations }

abbrev pub pass_control : Option Passing → Run → Run
pass_control None run = run
pass_control (Some passing) run = take_control passing.address passing.tick (give_control run)

-- ---- one attempt more

-- the holder after an attempt
abbrev pub after_attempt : Begun → Outcome → Choice → Present → Present
after_attempt begun outcome choice station = record station {
  left = left_after choice station.left;
  live = live_after begun.entry.item begun.state outcome station.live;
}

-- the first tick after the last that isn't quiet
abbrev pub quiet_after : List ShownBurst → ℕ
quiet_after bursts = fold (λ tick burst. max tick (burst_end burst)) 0 bursts

abbrev pub with_message : Run → Begun → Choice → Message → Run
with_message run begun choice m =
    pass_control m.ending.passes record {
      stations = with_station run.holder (after_attempt begun m.ending.ended.outcome choice) m.stations;
      holder = run.holder;
      opening = opening_after m.ending.ended.outcome begun.state.channel m.ending.tick;
      retry = retry_by choice;
      origin = run.origin;
      quiet_from = quiet_after m.bursts;
      runs_on = m.ending.runs_on;
      attempts = recorded run.holder begun m.ending.ended m.ending.tick (finishes choice) ∷ run.attempts;
      deliveries = reverse m.deliveries ++ run.deliveries;
      bursts = reverse m.bursts ++ run.bursts;
      counted = run.counted && m.counted;
    }

module _ (k : ℕ) (loads : List TimedLoad) (faults : List Fault) where
  abbrev pub ended_attempt : Run → Begun → Message → Run
  ended_attempt run begun m =
      with_message run begun (next_of begun.entry.item begun.state m.ending.ended.outcome) m

  -- attempts are counted from 1
  abbrev pub begun_attempt : Run → Begun → Run
  begun_attempt run begun =
      ended_attempt run begun
      (message k loads faults (suc (length run.attempts)) begun.entry.item run.runs_on begun.state.channel begun.start run.stations)

  abbrev pub next_attempt : Run → Option Next → Run
  next_attempt run None = run
  next_attempt run (Some next) = begun_attempt run record {
    entry = next.entry;
    state = state_of run.opening run.retry next.entry next.station.live;
    start = start_of run.opening run.retry run.origin next.entry run.quiet_from;
  }

  -- the run with one attempt more, where the holder has an item left
  abbrev pub attempt : Run → Run
  attempt run = next_attempt run (next_item run)

  -- the run after so many attempts more
  unfoldable pub attempts_after : ℕ → Run → Run
  attempts_after zero run = run
  attempts_after (suc n) run = attempt (attempts_after n run)

-- ---- the whole run

-- a station before the first attempt
abbrev pub first_present : PlanData → StationData → Present
first_present plan station = record {
  plan = station;
  memory = first_memory station.terminal;
  left = agenda station;
  live = station.channel;
  serves = not (starts plan station);
}

-- before the first attempt
abbrev pub first_run : PlanData → Run
first_run plan = record {
  stations = map (first_present plan) plan.stations;
  holder = plan.start;
  opening = first_opening;
  retry = None;
  origin = first_origin;
  quiet_from = 0;
  runs_on = None;
  attempts = [];
  deliveries = [];
  bursts = [];
  counted = true;
}

-- more attempts than an agenda can have: each item is tried once and once for each entry of its retry list
abbrev pub most_attempts : PlanData → ℕ
most_attempts plan = sum_by (λ station. sum_by (λ entry. 1 + length entry.item.retry) (agenda station)) plan.stations

-- the run of a plan, in which some blocks are loaded from outside
unfoldable pub run_of : ℕ → List TimedLoad → PlanData → Run
run_of k loads plan = attempts_after k loads plan.faults (most_attempts plan) (first_run plan)

abbrev pub run_end : Run → ℕ
run_end run = run.quiet_from + ending_quiet
