-- The log of a run in which a second controller took over: as it is found in the world, and as the message table gives it (the project's own).
use Rattle.std.specs.Prelude.{ℕ, ◌+◌, List, reverse, length, option_map, Option, Some, None}
use Rattle.bus_base.specs.declared.samples.Tick.{Tick}
use Rattle.bus_formats.specs.Plans.{PlanData}
use Rattle.bus_formats.specs.declared.log.Attempt.{Attempt}
use Rattle.bus_model.specs.Outside.{silence, run_out, stop_tick, primary_run, standby_run}
use Rattle.bus_model.specs.Run.{Run, run_end}
use Rattle.bus_model.specs.World.{clashes}
use Rattle.bus_standby.specs.Standing.{Standing, standing}
use Rattle.bus_standby.specs.Logs.{StandbyLogData}

abbrev pub tick_at : ℕ → Tick
tick_at tick = record { 0 = tick }

-- the tick of the standby's first command, 0 before the silence
abbrev pub first_of : Option ℕ → ℕ
first_of None = 0
first_of (Some first) = first

-- what is found after some ticks
abbrev pub log_found : PlanData → Standing → StandbyLogData
log_found plan s = record {
  attempts = s.attempts;
  stop = option_map tick_at s.stop;
  taken = tick_at (first_of s.first);
  end = tick_at (length s.trace.shown);
  clashes = clashes plan.faults s.trace.driven;
}

-- .. of the bus of a plan
unfoldable pub standby_log : ℕ → PlanData → ℕ → ℕ → ℕ → StandbyLogData
standby_log k plan standby attempt ticks = log_found plan (standing k plan standby attempt ticks)

-- the silence begins where all that the primary's run showed is over
abbrev pub silent_from : Run → ℕ
silent_from run = (run_out run.runs_on run).quiet_from

-- what the message table gives, in which no two stations drive one channel
unfoldable pub table_log : ℕ → PlanData → ℕ → ℕ → StandbyLogData
table_log k plan standby attempt = record {
  attempts = reverse (standby_run k plan standby attempt).attempts;
  stop = option_map tick_at (stop_tick k plan attempt);
  taken = tick_at (silent_from (primary_run k plan attempt) + silence plan);
  end = tick_at (run_end (standby_run k plan standby attempt));
  clashes = 0;
}
