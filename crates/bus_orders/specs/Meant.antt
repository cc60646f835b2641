-- What the types of this crate say in the words of the definitions.
use Rattle.std.specs.Prelude.{◌≡◌, Option, Some, None}
use Rattle.bus_model.specs.Commands.{Tail, unexpected, relay_from, carries}
use Rattle.bus_model.specs.Memory.{Memory}
use Rattle.bus_model.specs.Orders as orders
use Rattle.bus_orders.specs.declared.commands.Tail.{Tail as TailRead}
use Rattle.bus_orders.specs.declared.commands.Tail.TheVariants as tails
use Rattle.bus_orders.specs.declared.done.Taken.{Taken}
use Rattle.bus_orders.specs.declared.done.Duty.{Duty}
use Rattle.bus_orders.specs.declared.done.Duty.TheVariants as duties
use Rattle.bus_orders.specs.declared.done.Done.{Done}

abbrev pub tail_meant : TailRead → Tail
tail_meant tails.Unexpected = unexpected
tail_meant (tails.RelayFrom transmitter) = relay_from transmitter
tail_meant (tails.Carries words) = carries words

abbrev pub taken_meant : Option Taken → Option orders.Taken
taken_meant None = None
taken_meant (Some taken) = Some record { sub = taken.sub; broadcast = taken.broadcast; words = taken.words }

abbrev pub duty_meant : Duty → orders.Duty
duty_meant duties.Free = orders.free
duty_meant (duties.Owes answer) = orders.owes answer.words.items answer.acceptance
duty_meant (duties.Promises promise) = orders.promises promise.command promise.transmitter

-- an order was done so, with this memory after it
pub record IsDone (done : Done) (after : Memory) (obeyed : orders.Obeyed) : Type 0 where
  pub memory : after ≡ obeyed.memory
  pub taken : taken_meant done.taken ≡ obeyed.taken
  pub duty : duty_meant done.duty ≡ obeyed.duty
