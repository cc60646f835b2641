-- The message table: what one message leaves, over whole words (message formats 4.3.3.6, response time 4.3.3.8, remote
-- terminal operation 4.4.3). It knows no sample and no partial block. The end of a burst is known k ticks after it.
use Rattle.std.specs.Prelude.{ℕ, ◌+◌, Bool, if◌then◌else◌, List, [], ◌∷◌, ◌++◌, map, filter_map, Option, Some, None, option_map, option_to_list}
use Rattle.std.specs.Option.{option_or}
use Rattle.bus_base.specs.declared.samples.Channel.{Channel}
use Rattle.bus_base.specs.declared.samples.Part.TheVariants.{Command, First, Second}
use Rattle.bus_formats.specs.Forms.{command_words}
use Rattle.bus_formats.specs.Plans.{ItemData, StationData}
use Rattle.bus_formats.specs.declared.fault.Fault.{Fault}
use Rattle.bus_formats.specs.declared.fault.Hit.{Hit}
use Rattle.bus_formats.specs.declared.log.Delivery.{Delivery}
use Rattle.bus_model.specs.Memory.{Memory, TimedLoad, with_loads}
use Rattle.bus_model.specs.Orders.{Duty, free, owes, promises, Taken, Obeyed, Order, last_order, due_after, obey, keep_promise, unkept}
use Rattle.bus_model.specs.Starts.{Entry, has_items}
use Rattle.bus_model.specs.Strikes.{hits_on, struck, ShownBurst, burst_end, Answer, ShownAnswer, shown_answer, beside_command}
use Rattle.bus_model.specs.Counted.{is_counted}
use Rattle.bus_model.specs.Endings.{Ending, ending_of}

-- a station that is present: its plan, its terminal's memory, its items left, its live channel, and whether its terminal
-- serves; that of a station that holds control, or has stopped, hears nothing
pub record Present : Type 0 where
  pub plan : StationData
  pub memory : Memory
  pub left : List Entry
  pub live : Channel
  pub serves : Bool

abbrev pub address_of_station : Present → ℕ
address_of_station station = station.plan.terminal.address

-- ---- what stations make of a burst

-- a station after a burst: what its terminal took, and what it owes
pub record After : Type 0 where
  pub station : Present
  pub taken : Option Taken
  pub duty : Duty

abbrev pub unmoved : Present → After
unmoved station = record { station = station; taken = None; duty = free }

abbrev pub moved : Present → Obeyed → After
moved station obeyed =
    record { station = record station { memory = obeyed.memory }; taken = obeyed.taken; duty = obeyed.duty }

-- a block that was taken, with the terminal that took it
pub record Delivered : Type 0 where
  pub address : ℕ
  pub delivery : Delivery

abbrev pub delivered : ℕ → Channel → After → Taken → Delivered
delivered tick channel after taken = record {
  address = address_of_station after.station;
  delivery = record {
    tick = record { 0 = tick };
    channel = channel;
    sub = taken.sub;
    broadcast = taken.broadcast;
    words = taken.words;
  };
}

-- the answer that a terminal owes to a burst
abbrev pub answer_for : ShownBurst → After → Duty → Option Answer
answer_for burst after (owes words acceptance) = Some record {
  address = address_of_station after.station;
  channel = burst.channel;
  start = due_after after.station.plan.terminal (burst_end burst);
  words = words;
  acceptance = acceptance;
}
answer_for burst after _ = None

-- the answer to a burst: at most one terminal owes one
abbrev pub answer_to : ShownBurst → List After → Option Answer
answer_to burst [] = None
answer_to burst (after ∷ afters) = option_or (answer_for burst after after.duty) (answer_to burst afters)

module _ (k : ℕ) (loads : List TimedLoad) where
  -- the blocks taken of a burst, in the order of the stations, in the tick in which its end is known
  abbrev pub blocks_taken : ShownBurst → List After → List Delivered
  blocks_taken burst afters =
      filter_map (λ after. option_map (delivered (burst_end burst + k) burst.channel after) after.taken) afters

  -- a terminal's memory in the tick in which the end of a burst is known
  abbrev pub memory_at : ShownBurst → Present → Memory
  memory_at burst station = with_loads (address_of_station station) (burst_end burst + k) loads station.memory

  abbrev pub after_command_of : ShownBurst → Present → Option Order → After
  after_command_of burst station (Some order) =
      moved station (obey station.plan.terminal (memory_at burst station) burst.channel
      order.command order.tail burst.rest (has_items station.left))
  after_command_of burst station None = unmoved station

  -- a serving terminal obeys the last command of the burst that is for it
  abbrev pub after_command : ShownBurst → Present → After
  after_command burst station =
      if station.serves then after_command_of burst station (last_order (address_of_station station) burst.slots)
      else unmoved station

  abbrev pub after_answer_of : ShownBurst → Present → Duty → After
  after_answer_of burst station (promises command transmitter) =
      moved station (keep_promise station.plan.terminal (memory_at burst station) burst.channel
      command transmitter burst.slots burst.rest)
  after_answer_of burst station _ = unmoved station

  -- a terminal that promised takes the answer for its promise
  abbrev pub after_answer : ShownBurst → After → After
  after_answer burst after = after_answer_of burst after.station after.duty

  abbrev pub after_silence_of : ShownBurst → Present → Duty → After
  after_silence_of burst station (promises command transmitter) =
      moved station (unkept station.plan.terminal station.memory burst.channel)
  after_silence_of burst station _ = unmoved station

  -- where no answer to the command is shown, promises run out
  abbrev pub after_silence : ShownBurst → After → After
  after_silence burst after = after_silence_of burst after.station after.duty

-- ---- a message with all that it shows

-- what a message leaves: its ending, the stations after it, the blocks taken, the bursts shown, and whether no fault
-- deceived the count of its answer's words
pub record Message : Type 0 where
  pub ending : Ending
  pub stations : List Present
  pub deliveries : List Delivered
  pub bursts : List ShownBurst
  pub counted : Bool

abbrev pub command_burst : Channel → ℕ → List Hit → ItemData → ShownBurst
command_burst channel start hits item =
    record { channel = channel; start = start; slots = struck hits (command_words item.kind); rest = 0 }

-- what is shown of an answer abandoned before, beside this command
abbrev pub abandoned_bursts : Option ShownAnswer → ShownBurst → List ShownBurst
abandoned_bursts None command = []
abandoned_bursts (Some old) command = beside_command command old ∷ []

-- what is shown of the answers; one that runs on is shown with the message that supersedes it
abbrev pub answer_bursts : Option ShownAnswer → Option ShownAnswer → Option ShownAnswer → List ShownBurst
answer_bursts None first second = map (λ a. a.burst) (option_to_list first ++ option_to_list second)
answer_bursts (Some left) first second = []

module _ (k : ℕ) (loads : List TimedLoad) (faults : List Fault)
    (attempt : ℕ) (item : ItemData) (runs_on : Option ShownAnswer) where
  abbrev pub ended_message :
      ShownBurst → List Delivered → List After → Option ShownAnswer → Option ShownAnswer → Ending → Message
  ended_message command deliveries settled first second ending = record {
    ending = ending;
    stations = map (λ after. after.station) settled;
    deliveries = deliveries;
    bursts = abandoned_bursts runs_on command ++ (command ∷ answer_bursts ending.runs_on first second);
    counted = is_counted item.kind first;
  }

  abbrev pub message_by : ShownBurst → List Delivered → List After → Option ShownAnswer → Option ShownAnswer → Message
  message_by command deliveries settled first second =
      ended_message command deliveries settled first second (ending_of k item (burst_end command) first second)

  -- the first answer settled each promise; a relay's receiver may answer it
  abbrev pub message_settled : ShownBurst → List After → ShownAnswer → List After → Message
  message_settled command ordered first settled =
      message_by command (blocks_taken k loads command ordered ++ blocks_taken k loads first.burst settled) settled (Some first)
      (shown_answer (hits_on faults attempt Second) (answer_to first.burst settled))

  -- each terminal obeyed the command; an answer to it is shown, or none
  abbrev pub message_obeyed : ShownBurst → List After → Option ShownAnswer → Message
  message_obeyed command ordered None =
      message_by command (blocks_taken k loads command ordered) (map (after_silence k loads command) ordered) None None
  message_obeyed command ordered (Some first) =
      message_settled command ordered first (map (after_answer k loads first.burst) ordered)

  abbrev pub message_sent : ShownBurst → List After → Message
  message_sent command ordered =
      message_obeyed command ordered (shown_answer (hits_on faults attempt First) (answer_to command ordered))

  -- the message of the attempt with this number, by the stations before it: its command is shown from the start on
  unfoldable pub message : Channel → ℕ → List Present → Message
  message channel start stations =
      message_sent (command_burst channel start (hits_on faults attempt Command) item)
      (map (after_command k loads (command_burst channel start (hits_on faults attempt Command) item)) stations)
