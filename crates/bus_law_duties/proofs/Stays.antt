-- A burst changes nothing of a station but what its terminal keeps.
use Rattle.std.proofs.Common.{◌≡◌, ℕ, Bool, true, false, List, Option, Some, None, refl}
use Rattle.std.specs.Prelude.{if◌then◌else◌}
use Rattle.bus_model.specs.Memory.{TimedLoad}
use Rattle.bus_model.specs.Message.{Present, address_of_station, After, unmoved, after_command_of, after_command, after_answer_of, after_answer, after_silence_of, after_silence}
use Rattle.bus_model.specs.Orders.{Duty, free, owes, promises, Order, last_order}
use Rattle.bus_model.specs.Strikes.{ShownBurst}

-- the station is this one, but for what its terminal keeps
abbrev Stays : Present → After → Type 0
Stays station after = after.station ≡ record station { memory = after.station.memory }

-- with an order or without
by-order : (k : ℕ) (loads : List TimedLoad) (burst : ShownBurst) (station : Present) (o : Option Order) → Stays station (after_command_of k loads burst station o)
by-order k loads burst station None = refl
by-order k loads burst station (Some order) = refl

-- whether it serves or not
either-stays : (b : Bool) (station : Present) (one other : After) → Stays station one → Stays station other → Stays station (if b then one else other)
either-stays true station one other first second = first
either-stays false station one other first second = second

-- after a command
pub command-stays : (k : ℕ) (loads : List TimedLoad) (burst : ShownBurst) (station : Present) → Stays station (after_command k loads burst station)
command-stays k loads burst station =
    let found = last_order (address_of_station station) burst.slots in
    either-stays station.serves station (after_command_of k loads burst station found) (unmoved station) (by-order k loads burst station found) refl

-- whatever was owed before
by-answer : (k : ℕ) (loads : List TimedLoad) (burst : ShownBurst) (station : Present) (duty : Duty) → Stays station (after_answer_of k loads burst station duty)
by-answer k loads burst station free = refl
by-answer k loads burst station (owes words acceptance) = refl
by-answer k loads burst station (promises command transmitter) = refl

-- after an answer
pub answer-stays : (k : ℕ) (loads : List TimedLoad) (burst : ShownBurst) (before : After) → Stays before.station (after_answer k loads burst before)
answer-stays k loads burst before = by-answer k loads burst before.station before.duty

-- likewise
by-silence : (k : ℕ) (loads : List TimedLoad) (burst : ShownBurst) (station : Present) (duty : Duty) → Stays station (after_silence_of k loads burst station duty)
by-silence k loads burst station free = refl
by-silence k loads burst station (owes words acceptance) = refl
by-silence k loads burst station (promises command transmitter) = refl

-- after silence
pub silence-stays : (k : ℕ) (loads : List TimedLoad) (burst : ShownBurst) (before : After) → Stays before.station (after_silence k loads burst before)
silence-stays k loads burst before = by-silence k loads burst before.station before.duty
