-- A message of the world that is what the message table says of it, and what it leaves.
use Rattle.std.specs.Prelude.{◌≡◌, ◌⊎◌, ℕ, suc, ◌+◌, ◌<◌, ◌≤◌, true, false, List, [], ◌∷◌, ◌++◌, find, Some, None}
use Rattle.bus_formats.specs.Plans.{StationData}
use Rattle.bus_formats.specs.Times.{ending_quiet, taking_over}
use Rattle.bus_formats.specs.declared.form.Outcome.TheVariants.{Yielded}
use Rattle.bus_formats.specs.declared.log.Attempt.{Attempt}
use Rattle.bus_model.specs.Attempts.{without_words}
use Rattle.bus_model.specs.Course.{quiet_from, close}
use Rattle.bus_model.specs.Message.{Present, Message, message}
use Rattle.bus_model.specs.Run.{with_station, is_at, left_at, quiet_after}
use Rattle.bus_model.specs.Starts.{Entry, taking, planned_at}
use Rattle.bus_model.specs.Strikes.{ShownBurst, ShownAnswer}
use Rattle.bus_law_messages.specs.Settled.{NoneStarts}
use Rattle.bus_law_table.specs.Stations.{after_message}
use Rattle.bus_law_phases.specs.Commands.{begun_at, command_at, attempt_recorded}
use Rattle.bus_law_phases.specs.Passages.{Passage}
use Rattle.bus_law_phases.specs.Rests.{Rested}
use Rattle.bus_law_phases.specs.Scenarios.{Scenario, trace_at, shown_at, driven_at, commands_in, course_of}
use Rattle.bus_law_moments.specs.Doubts.{RestedInDoubt}
use Rattle.bus_law_moments.specs.OldAnswers.{BesideOldAnswer}

-- the stations after control passed from the one with this address to another one
abbrev pub stations_passed : ℕ → ℕ → List Present → List Present
stations_passed from to stations =
    with_station to (λ station. record station { serves = false }) (with_station from (λ station. record station { serves = true }) stations)

-- a station took control: its first command starts in this tick
pub record HasTaken (w : Scenario) (t : ℕ) (taker : StationData) (stations : List Present) (tick : ℕ) : Type 0 where
  pub opens : (course_of w taker (shown_at w t)).opening ≡ taking tick
  pub retry : (course_of w taker (shown_at w t)).retry ≡ None
  pub origin : (course_of w taker (shown_at w t)).origin ≡ planned_at tick (left_at (find (is_at taker.terminal.address) stations))

module _ (w : Scenario) (t : ℕ) (holder : StationData) (stations : List Present) (entry : Entry) where
  -- the message of the table that begins in tick t, by these stations, without what is shown of an abandoned answer beside its command: attempts are
  -- counted as commands are
  abbrev pub message_at : Message
  message_at =
      message w.lag w.loads w.plan.faults (suc (commands_in w (driven_at w t))) entry.item None (begun_at w t t holder entry).state.channel t stations

  abbrev pub attempt_at : Attempt
  attempt_at = attempt_recorded holder.terminal.address (begun_at w t t holder entry) message_at.ending.ended message_at.ending.tick

  abbrev pub stations_after : List Present
  stations_after = after_message holder (begun_at w t t holder entry) message_at

  -- from tick t to a later one the message's blocks were taken and these attempts ended, and nothing else; its bursts were found after those that were
  -- known with its command
  pub record MessageShows (over : ℕ) (found : List ShownBurst) (ended : List Attempt) : Type 0 where
    pub later : t < over
    pub answers : List ShownBurst
    pub bursts_are : message_at.bursts ≡ command_at w t t holder entry ∷ answers
    pub passage : Passage w t over record { blocks = message_at.deliveries; bursts = found ++ answers; attempts = ended; commands = 1 }

  -- both channels are quiet from the last burst on, for no longer than until the end of a run, and the next message of this station didn't start yet
  pub record WaitsFor (over : ℕ) (station : StationData) (found : List ShownBurst) : Type 0 where
    pub quiet : quiet_from (shown_at w over) ≡ quiet_after found
    pub soon : over ≤ quiet_after found + ending_quiet
    pub early : NoneStarts (course_of w station (shown_at w over)) (shown_at w over) 0

  -- ---- what a message leaves. Before its command was known these attempts of other stations ended, and these bursts were found

  module _ (place : ℕ) (ended : List Attempt) (found : List ShownBurst) where
    -- control stays, and the moment after it lies between two messages
    pub record MessageTold : Type 0 where
      pub over : ℕ
      pub passes : message_at.ending.passes ≡ None
      pub runs_on : message_at.ending.runs_on ≡ None
      pub shows : MessageShows over found (ended ++ attempt_at ∷ [])
      pub closes : course_of w holder (shown_at w over)
          ≡ close (course_of w holder (shown_at w t)) (begun_at w t t holder entry) message_at.ending.ended message_at.ending.tick
      pub rested : Rested w (trace_at w over) place holder stations_after
      pub waits : WaitsFor over holder (found ++ shows.answers)

    -- control passes to another station, at another place
    pub record ControlPassed : Type 0 where
      pub over : ℕ
      pub to : ℕ
      pub taker : StationData
      pub tick : ℕ
      pub passes : message_at.ending.passes ≡ Some record { address = taker.terminal.address; tick = tick }
      pub runs_on : message_at.ending.runs_on ≡ None
      pub shows : MessageShows over found (ended ++ attempt_at ∷ [])
      pub taken : HasTaken w over taker stations_after tick
      pub rested : Rested w (trace_at w over) to taker (stations_passed holder.terminal.address taker.terminal.address stations_after)
      pub waits : WaitsFor over taker (found ++ shows.answers)

    -- control passes to another station, and this one is in doubt of it: its attempt will end with the first tick of the other's command
    pub record ControlYielded : Type 0 where
      pub over : ℕ
      pub to : ℕ
      pub taker : StationData
      pub x : ℕ
      pub passes : message_at.ending.passes ≡ Some record { address = taker.terminal.address; tick = x + taking_over }
      pub runs_on : message_at.ending.runs_on ≡ None
      pub ended_is : message_at.ending.ended ≡ without_words Yielded None None
      pub tick_is : message_at.ending.tick ≡ x + taking_over
      pub shows : MessageShows over found ended
      pub taken : HasTaken w over taker stations_after (x + taking_over)
      pub rested : RestedInDoubt w (trace_at w over) to taker (stations_passed holder.terminal.address taker.terminal.address stations_after)
          (begun_at w t t holder entry) x
      pub offerer_is : rested.offerer ≡ holder
      pub waits : WaitsFor over taker (found ++ shows.answers)

    -- the answer was abandoned, and runs on: the next message starts at once
    pub record AnswerAbandoned : Type 0 where
      pub over : ℕ
      pub old : ShownAnswer
      pub passes : message_at.ending.passes ≡ None
      pub runs_on : message_at.ending.runs_on ≡ Some old
      pub shows : MessageShows over found (ended ++ attempt_at ∷ [])
      pub closes : course_of w holder (shown_at w over)
          ≡ close (course_of w holder (shown_at w t)) (begun_at w t t holder entry) message_at.ending.ended message_at.ending.tick
      pub beside : BesideOldAnswer w over place holder stations_after old
      pub early : NoneStarts (course_of w holder (shown_at w over)) (shown_at w over) 0

    -- a message is told: control stays, it passes or is yielded, or the answer is abandoned
    abbrev pub IsTold : Type 0
    IsTold = MessageTold ⊎ (ControlPassed ⊎ (ControlYielded ⊎ AnswerAbandoned))
