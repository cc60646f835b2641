-- The command of a message, from the moment at which it begins to that at which its end is known: what the message table says of it came to pass.
use Rattle.std.specs.Prelude.{◌≡◌, ℕ, suc, ◌+◌, List, [], ◌∷◌, map, Option, Some, None}
use Rattle.bus_base.specs.declared.samples.Part.TheVariants.{Command, First}
use Rattle.bus_line.specs.Channels.{on_channel}
use Rattle.bus_formats.specs.Forms.{answers_of}
use Rattle.bus_formats.specs.Plans.{StationData}
use Rattle.bus_formats.specs.declared.fault.Hit.{Hit}
use Rattle.bus_formats.specs.declared.form.Outcome.TheVariants.{Sent}
use Rattle.bus_formats.specs.declared.form.Shape.{Shape}
use Rattle.bus_formats.specs.declared.log.Attempt.{Attempt}
use Rattle.bus_retry.specs.Retries.{next_of}
use Rattle.bus_model.specs.Attempts.{Begun, Ended, recorded, without_words}
use Rattle.bus_model.specs.Course.{quiet_from, close}
use Rattle.bus_model.specs.Message.{Present, after_command, blocks_taken, command_burst}
use Rattle.bus_model.specs.Starts.{Entry, finishes}
use Rattle.bus_model.specs.Strikes.{ShownBurst, hits_on, burst_end}
use Rattle.bus_law_line.specs.Senders.{attempt_to_come}
use Rattle.bus_law_stations.specs.Silence.{AwaitsFirst}
use Rattle.bus_law_stations.specs.Messages.{message_begun, with_running}
use Rattle.bus_law_phases.specs.Scenarios.{Scenario, trace_at, shown_at, driven_at, course_of}
use Rattle.bus_law_phases.specs.Passages.{Passage}
use Rattle.bus_law_phases.specs.Moments.{Underway}

-- an attempt of the station with this address as it is recorded, where it ended so in this tick
abbrev pub attempt_recorded : ℕ → Begun → Ended → ℕ → Attempt
attempt_recorded address begun ended tick =
    recorded address begun ended tick (finishes (next_of begun.entry.item begun.state ended.outcome))

-- what ends with a command: a message that expects no answer
abbrev pub ended_with_command : ℕ → Begun → ℕ → Option Shape → List Attempt
ended_with_command address begun tick None = attempt_recorded address begun (without_words Sent None None) tick ∷ []
ended_with_command address begun tick (Some shape) = []

module _ (w : Scenario) (t start : ℕ) (holder : StationData) (entry : Entry) where
  -- the message that begins in tick `start`, which is t
  abbrev pub begun_at : Begun
  begun_at = message_begun (course_of w holder (shown_at w t)) entry start

  -- what strikes its command: commands are counted as attempts are
  abbrev pub command_hits : List Hit
  command_hits = hits_on w.plan.faults (attempt_to_come w.plan.faults Command (driven_at w t)) Command

  abbrev pub command_at : ShownBurst
  command_at = command_burst begun_at.state.channel start command_hits entry.item

  -- the first tick after that in which its end is known
  abbrev pub command_known : ℕ
  command_known = burst_end command_at + suc w.lag

  pub record CommandPasses (place : ℕ) (stations : List Present) : Type 0 where
    -- every station is what the table says
    pub moment : Underway w (trace_at w command_known) place holder begun_at.state.channel (burst_end command_at) First
        (map (after_command w.lag w.loads command_at) stations)
    -- the blocks that terminals took, the command's burst, and the attempt that ended with it, if no answer is expected
    pub passage : Passage w t command_known record {
      blocks = blocks_taken w.lag w.loads command_at (map (after_command w.lag w.loads command_at) stations);
      bursts = command_at ∷ [];
      attempts = ended_with_command holder.terminal.address begun_at (burst_end command_at + w.lag) (answers_of entry.item.kind).first;
      commands = 1;
    }
    -- so the message is closed, or it waits for its first answer
    pub sent : (answers_of entry.item.kind).first ≡ None → course_of w holder (shown_at w command_known)
        ≡ close (course_of w holder (shown_at w t)) begun_at (without_words Sent None None) (burst_end command_at + w.lag)
    pub waits : (shape : Shape) → (answers_of entry.item.kind).first ≡ Some shape →
        (course_of w holder (shown_at w command_known) ≡ with_running (course_of w holder (shown_at w t)) begun_at)
        × AwaitsFirst w.lag begun_at (on_channel begun_at.state.channel (shown_at w command_known)) (burst_end command_at)
    -- both channels have been quiet since its end
    pub quiet : quiet_from (shown_at w command_known) ≡ burst_end command_at
