-- The data words that a terminal sends have sixteen bits each, and are 32 at most.
use Rattle.std.proofs.Common.{◌≡◌, inl, inr, ℕ, ◌<◌, ◌≤◌, Bool, true, false, List, [], ◌∷◌, ◌++◌, length, take, All, sym, subst, arith}
use Rattle.std.proofs.lemmas.Bool.{cases_lt, cases_eq}
use Rattle.std.proofs.lemmas.Bool.Decides.{nat_tests}
use Rattle.std.proofs.lemmas.List.{length-take, get_or_past}
use Rattle.std.proofs.lemmas.List.Elements.{All-nil, All-cons, All-head, All-tail, All-take, All-append, All-replicate, All-get_or, All-set}
use Rattle.std.specs.Prelude.{◌||◌, ◌==◌, not, if◌then◌else◌, get_or, replicate, min}
use Rattle.bus_words.specs.Fields.{is_mode, is_transmit, sub_of, field_of, word_count}
use Rattle.bus_formats.specs.Accepted.{AreWords, HasTerminalRanges}
use Rattle.bus_formats.specs.Codes.{transmit_vector_word, transmit_bit_word}
use Rattle.bus_formats.specs.Plans.{TerminalData}
use Rattle.bus_model.specs.Commands.{has_code}
use Rattle.bus_model.specs.Memory.{Memory, wrap_around, received_on, sending_on, load_block, TimedLoad, load_due, with_loads}
use Rattle.bus_model.specs.Orders.{filled, answer_data}
use Rattle.bus_law_duties.specs.Ranges.{HasMemoryRanges, HasTimedLoadRanges}

-- ---- what is loaded

-- a memory that is loaded or not
if-ranges : (b : Bool) (m n : Memory) → HasMemoryRanges n → HasMemoryRanges m → HasMemoryRanges (if b then n else m)
if-ranges true m n loaded kept = loaded
if-ranges false m n loaded kept = kept

-- a load keeps the ranges
load-ranges : (m : Memory) (sub : ℕ) (words : List ℕ) → AreWords words → HasMemoryRanges m → HasMemoryRanges (load_block m sub words)
load-ranges m sub words fit ranges = record {
  last = ranges.last;
  received = ranges.received;
  transmit = All-set AreWords m.transmit sub words fit ranges.transmit;
}

-- all loads do
pub loads-ranges : (address now : ℕ) (loads : List TimedLoad) (m : Memory) → All HasTimedLoadRanges loads → HasMemoryRanges m →
    HasMemoryRanges (with_loads address now loads m)
loads-ranges address now [] m fit ranges = ranges
loads-ranges address now (load ∷ loads) m fit ranges =
    loads-ranges address now loads (if load_due address now load then load_block m load.sub load.words else m)
    (All-tail HasTimedLoadRanges load loads fit)
    (if-ranges (load_due address now load) m (load_block m load.sub load.words)
    (load-ranges m load.sub load.words (All-head HasTimedLoadRanges load loads fit) ranges) ranges)

-- ---- what is sent

-- a word of sixteen bits
abbrev IsWord : ℕ → Type 0
IsWord w = w < 65536

-- data words that an answer may have
pub record AreSendable (words : List ℕ) : Type 0 where
  pub fit : AreWords words
  pub few : length words ≤ 32

-- no words, and one word
pub none-sendable : AreSendable []
none-sendable = record { fit = All-nil IsWord; few = omega arith }

pub one-sendable : (word : ℕ) → word < 65536 → AreSendable (word ∷ [])
one-sendable word small = record { fit = All-cons IsWord word [] small (All-nil IsWord); few = omega arith }

-- the block with a number, or none
block-fits : (blocks : List (List ℕ)) (sub : ℕ) → All AreWords blocks → AreWords (get_or blocks sub [])
block-fits blocks sub fit = elim (cases_lt sub (length blocks)) [
  | inl inside ↦ All-get_or AreWords blocks sub [] inside fit
  | inr past ↦ subst AreWords (sym (get_or_past blocks sub [] past)) (All-nil IsWord)
]

-- words by a choice
if-fit : (b : Bool) (xs ys : List ℕ) → AreWords xs → AreWords ys → AreWords (if b then xs else ys)
if-fit true xs ys first second = first
if-fit false xs ys first second = second

-- what a subaddress sends
sending-fits : (memory : Memory) (sub : ℕ) → HasMemoryRanges memory → AreWords (sending_on memory sub)
sending-fits memory sub ranges =
    if-fit (sub == wrap_around) (received_on memory sub) (get_or memory.transmit sub []) (block-fits memory.received sub ranges.received)
    (block-fits memory.transmit sub ranges.transmit)

-- a word count is 32 at most
count-few : (bits : ℕ) → word_count bits ≤ 32
count-few bits = elim (cases_eq (field_of bits) 0) [
  | inl none ↦ grind (arith, nat_tests, none)
  | inr some ↦ grind (arith, nat_tests, some)
]

-- the first words of a block, filled up with 0
filled-sendable : (count : ℕ) (words : List ℕ) → count ≤ 32 → AreWords words → AreSendable (filled count words)
filled-sendable count words few fit = record {
  fit = All-take IsWord count (words ++ replicate count 0)
      (All-append IsWord words (replicate count 0) fit (All-replicate IsWord count 0 (omega arith)));
  few = let long : length (take count (words ++ replicate count 0)) ≡ min count (length (words ++ replicate count 0))
      = length-take count (words ++ replicate count 0) in omega (arith, long, few);
}

-- an answer by a choice
if-sendable : (b : Bool) (xs ys : List ℕ) → AreSendable xs → AreSendable ys → AreSendable (if b then xs else ys)
if-sendable true xs ys first second = first
if-sendable false xs ys first second = second

-- the data words of the answer to a legal command
pub data-sendable : (terminal : TerminalData) (memory : Memory) (command : ℕ) → HasTerminalRanges terminal → HasMemoryRanges memory →
    AreSendable (answer_data terminal memory command)
data-sendable terminal memory command planned ranges =
    let sent : List ℕ = filled (word_count command) (sending_on memory (sub_of command)) in
    let plain : List ℕ = if is_mode command || not (is_transmit command) || terminal.busy then [] else sent in
    if-sendable (has_code command transmit_vector_word) (terminal.vector ∷ [])
    (if has_code command transmit_bit_word then terminal.bit ∷ [] else plain) (one-sendable terminal.vector planned.vector)
    (if-sendable (has_code command transmit_bit_word) (terminal.bit ∷ []) plain (one-sendable terminal.bit planned.bit)
    (if-sendable (is_mode command || not (is_transmit command) || terminal.busy) [] sent none-sendable
    (filled-sendable (word_count command) (sending_on memory (sub_of command)) (count-few command) (sending-fits memory (sub_of command) ranges))))
