-- The next message of a run has begun in the world, and is told: what there is of it, and how the run goes on with it.
use Rattle.std.proofs.Common.{◌≡◌, ℕ, suc, List, [], ◌∷◌, ◌++◌, length, Some, None, ap, ◌∙◌, arith}
use Rattle.bus_base.specs.declared.samples.Part.TheVariants.{Command}
use Rattle.bus_formats.specs.Plans.{StationData}
use Rattle.bus_formats.specs.declared.log.Attempt.{Attempt}
use Rattle.bus_model.specs.Attempts.{Begun}
use Rattle.bus_model.specs.Message.{Message, message, abandoned_bursts}
use Rattle.bus_model.specs.Run.{Run, Next, next_item, ended_attempt, begun_attempt, next_attempt, attempt}
use Rattle.bus_model.specs.Strikes.{ShownBurst}
use Rattle.bus_law_line.specs.Senders.{attempt_to_come}
use Rattle.bus_law_plans.specs.Sent.{begun_of}
use Rattle.bus_law_phases.specs.Commands.{begun_at, command_at}
use Rattle.bus_law_phases.specs.Scenarios.{Scenario, shown_at, driven_at, commands_in, course_of}
use Rattle.bus_law_moments.specs.Told.{message_at, IsTold}
use Rattle.bus_law_run.specs.RunShows.{RunShows}
use Rattle.bus_law_whole.specs.Messages.{shown_in_order}
use Rattle.bus_law_whole.proofs.MessagesBeside.{with_bursts, message-beside}

-- in tick `now` the next message of the run began; before its command is known the attempts end that are still to end, and what is found is its command
-- and what is shown of an abandoned answer
pub record HasBegun (w : Scenario) (now place : ℕ) (holder : StationData) (run : Run) (next : Next) (pending : List Attempt) (found : List ShownBurst) :
    Type 0 where
  pub holder_is : holder.terminal.address ≡ run.holder
  pub origin : (course_of w holder (shown_at w now)).origin ≡ run.origin
  pub shows : RunShows w now run pending
  pub begun_is : begun_of run next ≡ begun_at w now now holder next.entry
  pub found_is : found ≡ shown_in_order (abandoned_bursts run.runs_on (command_at w now now holder next.entry) ++ command_at w now now holder next.entry ∷ [])
  pub told : IsTold w now holder run.stations next.entry place pending found

module _ (w : Scenario) (now place : ℕ) (holder : StationData) (run : Run) (next : Next) (pending : List Attempt) (found : List ShownBurst)
    (has : HasBegun w now place holder run next pending found) (given : next_item run ≡ Some next) where
  abbrev pub begun : Begun
  begun = begun_at w now now holder next.entry

  abbrev pub command : ShownBurst
  command = command_at w now now holder next.entry

  -- the message of the run
  abbrev pub m : Message
  m = with_bursts (abandoned_bursts run.runs_on command) (message_at w now holder run.stations next.entry)

  -- commands are counted as attempts are
  abbrev number : ℕ
  number = attempt_to_come w.plan.faults Command (driven_at w now)

  message-is : message w.lag w.loads w.plan.faults (suc (length run.attempts)) next.entry.item run.runs_on begun.state.channel now run.stations ≡ m
  message-is =
      let counted = has.shows.counted in
      let attempts : suc (length run.attempts) ≡ number = omega (arith, counted) in
      let commands : number ≡ suc (commands_in w (driven_at w now)) = omega arith in
      ap (λ i. message w.lag w.loads w.plan.faults i next.entry.item run.runs_on begun.state.channel now run.stations) attempts
      ∙ message-beside w.lag w.loads w.plan.faults number next.entry.item run.runs_on begun.state.channel now run.stations
      ∙ ap (λ i. with_bursts (abandoned_bursts run.runs_on command)
      (message w.lag w.loads w.plan.faults i next.entry.item None begun.state.channel now run.stations)) commands

  -- the run with one attempt more
  pub attempt-is : attempt w.lag w.loads w.plan.faults run ≡ ended_attempt w.lag w.loads w.plan.faults run begun m
  attempt-is =
      ap (next_attempt w.lag w.loads w.plan.faults run) given
      ∙ ap (begun_attempt w.lag w.loads w.plan.faults run) has.begun_is
      ∙ ap (ended_attempt w.lag w.loads w.plan.faults run begun) message-is
