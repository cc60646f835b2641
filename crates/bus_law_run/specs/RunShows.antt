-- What is found in the world is what a run of the message table says.
use Rattle.std.specs.Prelude.{◌≡◌, ℕ, ◌+◌, ◌<◌, ◌≤◌, List, [], ◌++◌, map, reverse, length}
use Rattle.bus_line.specs.Channels.{bursts}
use Rattle.bus_formats.specs.Plans.{StationData}
use Rattle.bus_formats.specs.Times.{ending_quiet}
use Rattle.bus_formats.specs.declared.log.Attempt.{Attempt}
use Rattle.bus_model.specs.Course.{quiet_from}
use Rattle.bus_model.specs.Message.{Delivered}
use Rattle.bus_model.specs.Run.{Run}
use Rattle.bus_law_listing.specs.Listing.{found_in_order}
use Rattle.bus_law_phases.specs.Passages.{IsOrderly}
use Rattle.bus_law_phases.specs.Rests.{Rested}
use Rattle.bus_law_phases.specs.Scenarios.{Scenario, trace_at, shown_at, driven_at, course_of, attempts_in, blocks_in, commands_in}
use Rattle.bus_law_table.specs.Happened.{burst_found}

-- the attempts that ended in the first t ticks, with those that are still to end, are the run's; so are the bursts that were found, in the order of their
-- ends, the blocks that were taken, and the number of commands; and each tick was in order. Of a bus that a station left all this is said of the ticks since,
-- beside what was found before
pub record RunShows (w : Scenario) (t : ℕ) (run : Run) (pending : List Attempt) : Type 0 where
  pub ended : List Attempt
  pub ended_since : attempts_in w (shown_at w t) ≡ attempts_in w (shown_at w w.earlier.ticks) ++ ended
  pub attempts_are : (w.earlier.attempts ++ ended) ++ pending ≡ reverse run.attempts
  pub bursts_are : bursts w.lag (shown_at w t) ≡ found_in_order (map burst_found (reverse run.bursts))
  pub taken : List Delivered
  pub taken_since : blocks_in w (shown_at w t) ≡ blocks_in w (shown_at w w.earlier.ticks) ++ taken
  pub blocks_are : w.earlier.blocks ++ taken ≡ reverse run.deliveries
  pub counted : commands_in w (driven_at w t) ≡ length run.attempts
  pub orderly : (i : ℕ) → w.earlier.ticks ≤ i → i < t → IsOrderly w i

-- the world has come as far as a run, between two messages, and no attempt is still to end
pub record RunRests (w : Scenario) (t : ℕ) (run : Run) : Type 0 where
  -- one station holds control in both; the stations are the run's
  pub place : ℕ
  pub holder : StationData
  pub holder_is : holder.terminal.address ≡ run.holder
  pub rested : Rested w (trace_at w t) place holder run.stations
  -- the next attempt waits for the same
  pub opening : (course_of w holder (shown_at w t)).opening ≡ run.opening
  -- both channels are quiet from the same tick on, for no longer than until the end of a run
  pub quiet : quiet_from (shown_at w t) ≡ run.quiet_from
  pub soon : t ≤ run.quiet_from + ending_quiet
  -- what is found is the run's
  pub shows : RunShows w t run []
