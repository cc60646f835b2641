-- Which block a message delivers, and when: whole, with the end of the burst that carried it (data reception, MIL-STD-1553B 4.4.3.5, 4.4.3.6).
use Rattle.std.specs.Prelude.{◌≡◌, ◌≢◌, ℕ, suc, ◌+◌, ◌<◌, ◌==◌, Bool, true, List, map, length, Option, Some, option_map, IsSomeAnd}
use Rattle.std.specs.List.{AllByRecursion as Each}
use Rattle.bus_base.specs.declared.samples.Part.TheVariants.{Command, First}
use Rattle.bus_formats.specs.Plans.{PlanData}
use Rattle.bus_formats.specs.declared.fault.Fault.{Fault}
use Rattle.bus_formats.specs.declared.plan.Kind.{Kind}
use Rattle.bus_formats.specs.declared.plan.Kind.TheVariants.{Receive, Relay}
use Rattle.bus_model.specs.Attempts.{Begun}
use Rattle.bus_model.specs.Blocks.{sent_block}
use Rattle.bus_model.specs.Memory.{TimedLoad}
use Rattle.bus_model.specs.Message.{Delivered, Message, message, command_burst, after_command, answer_to}
use Rattle.bus_model.specs.Run.{Run, Next, next_item, attempts_after, first_run}
use Rattle.bus_model.specs.Starts.{state_of, start_of}
use Rattle.bus_model.specs.Strikes.{ShownBurst, burst_end, ShownAnswer, hits_on, shown_answer}

-- the next attempt of a run, as it begins
abbrev pub begun_of : Run → Next → Begun
begun_of run next = record {
  entry = next.entry;
  state = state_of run.opening run.retry next.entry next.station.live;
  start = start_of run.opening run.retry run.origin next.entry run.quiet_from;
}

-- the subaddress that a message names to receive, and the address; 31 is all
abbrev pub IsReceiver : Kind → ℕ → ℕ → Bool → Type 0
IsReceiver (Receive to sub words) address on broadcast = (on ≡ sub) × (broadcast ≡ (to == 31)) × (to ≢ 31 → address ≡ to)
IsReceiver (Relay from from_sub to to_sub count) address on broadcast = (on ≡ to_sub) × (broadcast ≡ (to == 31)) × (to ≢ 31 → address ≡ to)
IsReceiver _ address on broadcast = ⊥

module _ (k : ℕ) (loads : List TimedLoad) (faults : List Fault) (run : Run) where
  -- its command as it is shown
  abbrev pub command_of : Begun → ShownBurst
  command_of begun =
      command_burst begun.state.channel begun.start (hits_on faults (suc (length run.attempts)) Command) begun.entry.item

  -- the first answer, as it is shown
  abbrev pub first_of : Begun → Option ShownAnswer
  first_of begun =
      shown_answer (hits_on faults (suc (length run.attempts)) First)
      (answer_to (command_of begun) (map (after_command k loads (command_of begun)) run.stations))

  -- its message
  abbrev pub message_of : Begun → Message
  message_of begun =
      message k loads faults (suc (length run.attempts)) begun.entry.item run.runs_on begun.state.channel begun.start run.stations

  -- the burst that carries the block: the command itself, or the answer of a relay's transmitter
  abbrev pub carrier : Kind → Begun → Option ShownBurst
  carrier (Relay from from_sub to to_sub count) begun = option_map (λ answer. answer.burst) (first_of begun)
  carrier _ begun = Some (command_of begun)

  -- the block is the one that was sent, whole, and delivered where the message names it, in the tick in which the end of the burst
  -- that carried it is known
  pub record IsSentBlock (begun : Begun) (d : Delivered) : Type 0 where
    pub words : d.delivery.words ≡ sent_block k loads begun.entry.item.kind (command_of begun) run.stations
    pub receiver : IsReceiver begun.entry.item.kind d.address d.delivery.sub d.delivery.broadcast
    pub carried : IsSomeAnd (carrier begun.entry.item.kind begun) (λ burst. (d.delivery.tick.0 ≡ burst_end burst + k) × (d.delivery.channel ≡ burst.channel))

  abbrev pub DeliversWhole : Begun → Type 0
  DeliversWhole begun = (message_of begun).counted ≡ true → Each (IsSentBlock begun) (message_of begun).deliveries

-- the block was delivered by one of the first so many attempts of the plan's run
pub record IsDeliveredIn (k : ℕ) (loads : List TimedLoad) (plan : PlanData) (most : ℕ) (d : Delivered) : Type 0 where
  pub before : ℕ
  pub within : before < most
  pub next : Next
  pub next_is : next_item (attempts_after k loads plan.faults before (first_run plan)) ≡ Some next
  pub sent : IsSentBlock k loads plan.faults (attempts_after k loads plan.faults before (first_run plan))
      (begun_of (attempts_after k loads plan.faults before (first_run plan)) next) d
