-- What an order leaves, as a function of what the code knows of it.
use Rattle.std.specs.Prelude.{ℕ, ◌+◌, ◌==◌, nat_lt, nat_le, Bool, false, not, ◌&&◌, ◌||◌, if◌then◌else◌, Option, Some, None}
use Rattle.bus_base.specs.declared.samples.Channel.{Channel}
use Rattle.bus_base.specs.declared.samples.Channel.TheVariants.{A, B}
use Rattle.bus_base.specs.declared.samples.Part.{Part}
use Rattle.bus_ears.specs.declared.ear.HeardBurst.{HeardBurst}
use Rattle.bus_model.specs.Orders.{due_after}
use Rattle.bus_orders.specs.declared.done.Duty.{Duty}
use Rattle.bus_orders.specs.declared.done.Duty.TheVariants as duties
use Rattle.bus_orders.specs.declared.done.Taken.{Taken}
use Rattle.bus_terminal.specs.declared.common.BothHeard.{BothHeard}
use Rattle.bus_terminal.specs.declared.common.Common.{Common}
use Rattle.bus_terminal.specs.declared.common.Listened.{Listened}
use Rattle.bus_terminal.specs.declared.handling.Waiting.{Waiting}
use Rattle.bus_terminal.specs.declared.state.Sends.{Sends}
use Rattle.bus_terminal.specs.declared.state.TerminalState.{TerminalState}
use Rattle.bus_terminal.specs.declared.state.TerminalState.TheVariants as states
use Rattle.bus_terminal.specs.declared.state.TerminalEvent.{TerminalEvent}
use Rattle.bus_terminal.specs.declared.state.TerminalEvent.TheVariants as events
use Rattle.bus_terminal.specs.declared.state.Step.{Step}
use Rattle.bus_terminal.specs.declared.state.Step.TheVariants as steps

abbrev pub listens : Common → TerminalState
listens common = states.Listening record { common = common }

abbrev pub owes_told : Common → ℕ → Sends → TerminalState
owes_told common next sends =
    if nat_lt next (due_after common.plan sends.end) then states.Owing record { common = common; sends = sends }
    else states.Answering record { common = common; sends = sends; sent = 0 }

abbrev pub duty_told : Common → ℕ → Channel → ℕ → Part → Duty → TerminalState
duty_told common next channel end part duties.Free = listens common
duty_told common next channel end part (duties.Promises promise) =
    states.Promised record { common = common; waiting = record { channel = channel; end = end; promise = promise }; heard = false }
duty_told common next channel end part (duties.Owes answer) =
    owes_told common next (record { channel = channel; end = end; part = part; answer = answer })

abbrev pub stands_told : Common → Bool → ℕ → Channel → ℕ → Part → Duty → TerminalState
stands_told common superseded next channel end part duty =
    if superseded then listens common else duty_told common next channel end part duty

abbrev pub event_told : ℕ → Channel → Option Taken → TerminalEvent
event_told now channel None = events.Nothing
event_told now channel (Some taken) = events.Took record {
  tick = record { 0 = now };
  channel = channel;
  sub = taken.sub;
  broadcast = taken.broadcast;
  words = taken.words;
}

-- an answer that is owed, after a tick without an order
abbrev pub owing_on : Common → ℕ → Sends → Bool → Bool → TerminalState
owing_on common next sends heard newer = if heard || newer then listens common else owes_told common next sends

-- a promise, after a tick without an order
abbrev pub promised_on_told : Common → Waiting → Bool → Bool → TerminalState
promised_on_told common waiting heard newer =
    if newer then listens common else states.Promised record { common = common; waiting = waiting; heard = heard }

-- the channel on which an answer begins in a tick
abbrev pub begins_told : Bool → Channel → Option Channel
begins_told begins c = if begins then Some c else None

-- an answer that runs, after a tick without an order
abbrev pub answering_on : Common → Sends → ℕ → Bool → Bool → TerminalState
answering_on common sends sent newer ignored =
    if newer || not ignored then listens common else states.Answering record { common = common; sends = sends; sent = sent }

-- the burst that ended on a channel
abbrev pub told_on : Channel → Listened → Option HeardBurst
told_on A told = told.a.burst
told_on B told = told.b.burst

-- a burst that ended began in this tick, and is as long as a status word at least
abbrev pub is_status : ℕ → Option HeardBurst → Bool
is_status due None = false
is_status due (Some burst) = (burst.first == due) && nat_le (due + 40) burst.end

-- what is told of a tick without an order
abbrev pub acceptance_told : Bool → TerminalEvent
acceptance_told accepted = if accepted then events.Accepted else events.Nothing

-- a state that changes does so by what its ears told
abbrev pub step_told : Bool → BothHeard → Step
step_told changes both = if changes then steps.Changes both else steps.Stays
