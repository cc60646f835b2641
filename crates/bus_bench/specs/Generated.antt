-- The plan of a benchmark: a controller and 31 terminals, and messages that a generator of numbers draws (the project's own).
use Rattle.std.specs.Prelude.{ℕ, zero, suc, ◌+◌, ◌*◌, ◌/◌, ◌%◌, ◌^◌, Bool, true, false, ◌==◌, if◌then◌else◌, List, [], ◌∷◌, ◌++◌, Option, None}
use Rattle.bus_base.specs.declared.samples.Channel.TheVariants.{A}
use Rattle.bus_formats.specs.Codes.{transmit_status_word}
use Rattle.bus_formats.specs.Plans.{ItemData, FrameData, TerminalData, StationData, PlanData}
use Rattle.bus_formats.specs.declared.plan.Kind.{Kind}
use Rattle.bus_formats.specs.declared.plan.Kind.TheVariants.{Receive, Transmit, Relay, Mode}

-- ---- numbers

-- the number that is drawn after another one
abbrev pub drawn_after : ℕ → ℕ
drawn_after x = (1103515245 * x + 12345) % 2 ^ 31

-- the upper fifteen of its 31 bits, which say what a message is
abbrev pub upper : ℕ → ℕ
upper x = x / 65536

-- ---- messages

-- the address, the subaddress and the number of data words that these bits say
abbrev pub address_in : ℕ → ℕ
address_in bits = bits % 31

abbrev pub sub_in : ℕ → ℕ
sub_in bits = 1 + bits % 29

abbrev pub count_in : ℕ → ℕ
count_in bits = 1 + bits / 31 % 32

-- so many words that count up from a number
abbrev pub words_from : ℕ → ℕ → List ℕ
words_from first zero = []
words_from first (suc count) = first % 65536 ∷ words_from (suc first) count

-- the n-th message: in turn a transmit message, an RT-to-RT transfer to the next terminal, the mode command for the status word, and a receive
-- message
abbrev pub kind_of : ℕ → ℕ → Kind
kind_of n bits =
    if n % 4 == 0 then Receive (address_in bits) (sub_in bits) (words_from bits (count_in bits))
    else if n % 4 == 1 then Transmit (address_in bits) (sub_in bits) (count_in bits)
    else if n % 4 == 2 then Relay (address_in bits) (sub_in bits) ((address_in bits + 1) % 31) (sub_in bits) (count_in bits)
    else Mode (address_in bits) 0 true transmit_status_word None

-- a message on the live channel after the least gap, tried once
abbrev pub item_with : Kind → ItemData
item_with kind = record { kind = kind; channel = None; gap = 8; retry = []; abandon = None }

-- so many messages from the n-th on, with the number that was drawn before
abbrev pub items_from : ℕ → ℕ → ℕ → List ItemData
items_from n drawn zero = []
items_from n drawn (suc count) = item_with (kind_of n (upper (drawn_after drawn))) ∷ items_from (suc n) (drawn_after drawn) count

-- ---- stations

-- a terminal that answers as soon as it may, in which nothing is set, and which has no data
abbrev pub terminal_at : ℕ → TerminalData
terminal_at address = record {
  address = address;
  delay = 8;
  busy = false;
  service = false;
  subsystem_flag = false;
  terminal_flag = false;
  accepts = false;
  vector = 0;
  bit = 0;
  no_receive = 0;
  no_transmit = 0;
  no_mode = 0;
  subsystem = None;
  loads = [];
}

abbrev pub station_at : ℕ → List FrameData → StationData
station_at address frames = record { terminal = terminal_at address; channel = A; frames = frames; repeat = 1 }

-- so many stations that are terminals alone, with addresses that count up from this one
unfoldable pub terminals_from : ℕ → ℕ → List StationData
terminals_from address zero = []
terminals_from address (suc count) = station_at address [] ∷ terminals_from (suc address) count

-- the terminals 0 to 30, and the controller 31 with these messages in one frame
abbrev pub plan_with : List ItemData → PlanData
plan_with items = record {
  start = 31;
  stations = terminals_from 0 31 ++ station_at 31 (record { ticks = 0; items = items } ∷ []) ∷ [];
  faults = [];
}

-- the plan with so many messages, drawn from a number on
unfoldable pub bench_plan : ℕ → ℕ → PlanData
bench_plan number items = plan_with (items_from 1 number items)
