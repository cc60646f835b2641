-- A message of which the command was sent, from whatever moment it began.
use Rattle.std.specs.Prelude.{◌≡◌, ℕ, ◌+◌, true, List, ◌++◌, map, Some, None}
use Rattle.std.specs.List.{All, AllByRecursion as Each}
use Rattle.bus_base.specs.declared.samples.Part.TheVariants.{First}
use Rattle.bus_line.specs.Channels.{on_channel}
use Rattle.bus_formats.specs.Accepted.{IsAccepted, HasTerminalRanges}
use Rattle.bus_formats.specs.Forms.{answers_of}
use Rattle.bus_formats.specs.Plans.{StationData}
use Rattle.bus_formats.specs.declared.form.Outcome.TheVariants.{Sent}
use Rattle.bus_formats.specs.declared.form.Shape.{Shape}
use Rattle.bus_formats.specs.declared.log.Attempt.{Attempt}
use Rattle.bus_model.specs.Attempts.{without_words}
use Rattle.bus_model.specs.Course.{quiet_from, close}
use Rattle.bus_model.specs.Message.{Present, after_command, blocks_taken}
use Rattle.bus_model.specs.Run.{quiet_after}
use Rattle.bus_model.specs.Starts.{Entry}
use Rattle.bus_model.specs.Strikes.{ShownBurst, burst_end}
use Rattle.bus_law_duties.specs.Duties.{AreApart}
use Rattle.bus_law_plans.specs.Entries.{IsEntryOf}
use Rattle.bus_law_plans.specs.Memories.{AreBlocks, HasWordRanges}
use Rattle.bus_law_stations.specs.Messages.{with_running}
use Rattle.bus_law_stations.specs.Silence.{AwaitsFirst}
use Rattle.bus_law_phases.specs.Closings.{HasItemsOf}
use Rattle.bus_law_phases.specs.Commands.{begun_at, command_at, command_known, ended_with_command}
use Rattle.bus_law_phases.specs.Moments.{Underway}
use Rattle.bus_law_phases.specs.Passages.{Passage}
use Rattle.bus_law_phases.specs.Scenarios.{Scenario, trace_at, shown_at, course_of, StaysFrom}

-- the numbers of a station that is present are in their ranges: those that are planned of its terminal, and what that keeps
abbrev pub IsRanged : Present → Type 0
IsRanged station = HasTerminalRanges station.plan.terminal × HasWordRanges station

module _ (w : Scenario) (t : ℕ) (holder : StationData) (entry : Entry) where
  -- the end of the command of the message that began in tick t is known. Before it these attempts of other stations ended, and these bursts were found,
  -- the command's among them
  pub record CommandKnown (place : ℕ) (stations : List Present) (ended : List Attempt) (found : List ShownBurst) : Type 0 where
    -- every station is what the table says
    pub moment : Underway w (trace_at w (command_known w t t holder entry)) place holder (begun_at w t t holder entry).state.channel
        (burst_end (command_at w t t holder entry)) First (map (after_command w.lag w.loads (command_at w t t holder entry)) stations)
    -- the blocks that terminals took of it, and the attempt that ended with it, if no answer is expected
    pub passage : Passage w t (command_known w t t holder entry) record {
      blocks = blocks_taken w.lag w.loads (command_at w t t holder entry) (map (after_command w.lag w.loads (command_at w t t holder entry)) stations);
      bursts = found;
      attempts = ended ++ ended_with_command holder.terminal.address (begun_at w t t holder entry)
          (burst_end (command_at w t t holder entry) + w.lag) (answers_of entry.item.kind).first;
      commands = 1;
    }
    -- so the message is closed, or it waits for its first answer
    pub sent : (answers_of entry.item.kind).first ≡ None → course_of w holder (shown_at w (command_known w t t holder entry))
        ≡ close (course_of w holder (shown_at w t)) (begun_at w t t holder entry) (without_words Sent None None)
        (burst_end (command_at w t t holder entry) + w.lag)
    pub waits : (shape : Shape) → (answers_of entry.item.kind).first ≡ Some shape →
        (course_of w holder (shown_at w (command_known w t t holder entry)) ≡ with_running (course_of w holder (shown_at w t)) (begun_at w t t holder entry))
        × AwaitsFirst w.lag (begun_at w t t holder entry)
        (on_channel (begun_at w t t holder entry).state.channel (shown_at w (command_known w t t holder entry))) (burst_end (command_at w t t holder entry))
    -- both channels have been quiet since its end, which is the last of those that were found
    pub quiet : quiet_from (shown_at w (command_known w t t holder entry)) ≡ burst_end (command_at w t t holder entry)
    pub last : quiet_after found ≡ burst_end (command_at w t t holder entry)
    -- in the entry of the table for its station the items left and the live channel are still those of its course
    pub items : All (HasItemsOf holder (course_of w holder (shown_at w t))) (map (after_command w.lag w.loads (command_at w t t holder entry)) stations)

  -- a message of an accepted plan began so, at the product's lag
  pub record MessageBegan (place : ℕ) (stations : List Present) (ended : List Attempt) (found : List ShownBurst) : Type 0 where
    pub lag : w.lag ≡ 3
    pub accepted : IsAccepted w.plan
    pub entry_of : IsEntryOf w.plan holder.terminal.address entry
    pub none : StaysFrom w t
    pub apart : AreApart stations
    pub ranged : Each IsRanged stations
    pub blocks : AreBlocks w.loads
    pub held : (course_of w holder (shown_at w t)).holds ≡ true
    pub known : CommandKnown place stations ended found
