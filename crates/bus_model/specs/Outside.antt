-- Runs that are joined to something outside: blocks that another bus loads, and a second controller that takes control
-- (data handed on and standby control are the project's own).
use Rattle.std.specs.Prelude.{ℕ, ◌+◌, ◌-◌, max, ◌==◌, if◌then◌else◌, List, [], ◌∷◌, fold, reverse, find, filter_map, flat_map, Option, Some, None}
use Rattle.bus_formats.specs.Plans.{StationData, PlanData}
use Rattle.bus_formats.specs.Times.{dead_ticks}
use Rattle.bus_formats.specs.declared.log.Delivery.{Delivery}
use Rattle.bus_model.specs.Memory.{TimedLoad}
use Rattle.bus_model.specs.Message.{Delivered}
use Rattle.bus_model.specs.Run.{Run, Next, next_item, first_run, attempts_after, most_attempts, take_control}
use Rattle.bus_model.specs.Starts.{Entry, agenda, first_origin, planned_start, start_of}
use Rattle.bus_formats.specs.Times.{settling_quiet}
use Rattle.bus_model.specs.Strikes.{ShownAnswer, burst_end}

-- ---- one station on two buses

-- what is received on one subaddress is sent from another
pub record Pairing : Type 0 where
  pub from : ℕ
  pub to : ℕ

abbrev pub load_by : ℕ → Delivery → Pairing → Option TimedLoad
load_by to delivery pairing =
    if pairing.from == delivery.sub
    then Some record { tick = delivery.tick.0; address = to; sub = pairing.to; words = delivery.words } else None

abbrev pub loads_by : ℕ → ℕ → List Pairing → Delivered → List TimedLoad
loads_by from to pairings d = if d.address == from then filter_map (load_by to d.delivery) pairings else []

-- the loads for a terminal of the second bus that the blocks make which a terminal of the first bus took in its run
abbrev pub loads_of : ℕ → ℕ → List Pairing → Run → List TimedLoad
loads_of from to pairings run = flat_map (loads_by from to pairings) (reverse run.deliveries)

-- ---- a second controller

abbrev pub greatest : List ℕ → ℕ
greatest ns = fold max 0 ns

-- the planned ticks from each frame with items to the next one
abbrev pub frame_ticks : List Entry → List ℕ
frame_ticks [] = []
frame_ticks (entry ∷ []) = []
frame_ticks (entry ∷ next ∷ entries) = (next.offset - entry.offset) ∷ frame_ticks (next ∷ entries)

-- the ticks before the first item, where there is one
abbrev pub ticks_before : List Entry → ℕ
ticks_before [] = 0
ticks_before (entry ∷ entries) = planned_start first_origin entry

abbrev pub item_quiet : List Entry → List ℕ
item_quiet [] = []
item_quiet (entry ∷ entries) = dead_ticks entry.item.gap ∷ item_quiet entries

-- the longest that both channels can be quiet while a station with these items lives and has items left
abbrev pub longest_quiet : List Entry → ℕ
longest_quiet entries =
    max settling_quiet (max (greatest (item_quiet entries)) (max (ticks_before entries) (greatest (frame_ticks entries))))

abbrev pub entries_of : Option StationData → List Entry
entries_of None = []
entries_of (Some station) = agenda station

-- the silence after which a standby controller takes control
unfoldable pub silence : PlanData → ℕ
silence plan =
    longest_quiet (entries_of (find (λ s. s.terminal.address == plan.start) plan.stations)) + settling_quiet

-- an answer that runs on where no command follows ends by itself
abbrev pub run_out : Option ShownAnswer → Run → Run
run_out None run = run
run_out (Some answer) run = record run {
  quiet_from = max run.quiet_from (burst_end answer.burst);
  runs_on = None;
  bursts = answer.burst ∷ run.bursts;
}

abbrev pub stop_by : Run → Option Next → Option ℕ
stop_by run None = None
stop_by run (Some next) = Some (start_of run.opening run.retry run.origin next.entry run.quiet_from)

module _ (k : ℕ) (plan : PlanData) where
  -- the primary's run up to the attempt that it doesn't start any more
  abbrev pub primary_run : ℕ → Run
  primary_run attempt = attempts_after k [] plan.faults (attempt - 1) (first_run plan)

  -- the tick in which it stops, if it does
  abbrev pub stop_tick : ℕ → Option ℕ
  stop_tick attempt = stop_by (primary_run attempt) (next_item (primary_run attempt))

  -- the standby takes control after the silence; the primary, stopped or still holding control, hears nothing
  abbrev pub after_takeover : ℕ → Run → Run
  after_takeover standby run = take_control standby (run.quiet_from + silence plan) run

  -- the run of a plan whose primary stops at the attempt with this number
  unfoldable pub standby_run : ℕ → ℕ → Run
  standby_run standby attempt =
      attempts_after k [] plan.faults (most_attempts plan)
      (after_takeover standby (run_out (primary_run attempt).runs_on (primary_run attempt)))
