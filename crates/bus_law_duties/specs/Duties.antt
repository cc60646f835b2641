-- What terminals owe and promise after a command, and after the answer to it (remote terminal operation 4.4.3, message formats 4.3.3.6).
use Rattle.std.specs.Prelude.{◌≡◌, ◌≢◌, ◌⊎◌, ℕ, ◌<◌, ◌≤◌, ◌%◌, Bool, true, false, List, [], length, map, All, AllPairs, Contains, Option}
use Rattle.bus_words.specs.Fields.{address_of, command_bits}
use Rattle.bus_words.specs.declared.word.Word.{Word}
use Rattle.bus_formats.specs.Accepted.{AreWords, addresses_named}
use Rattle.bus_formats.specs.Forms.{command_words}
use Rattle.bus_formats.specs.declared.plan.Kind.{Kind}
use Rattle.bus_formats.specs.declared.plan.Kind.TheVariants.{Relay}
use Rattle.bus_model.specs.Attempts.{is_offer}
use Rattle.bus_model.specs.Memory.{status_of}
use Rattle.bus_model.specs.Message.{Present, address_of_station, After}
use Rattle.bus_model.specs.Orders.{free}
use Rattle.bus_model.specs.Standing.{is_owed}
use Rattle.bus_model.specs.Starts.{has_items}
use Rattle.bus_law_duties.specs.Words.{whole_slots, with_data}

-- ---- the stations side by side

-- no two stations have one address
abbrev pub AreApart : List Present → Type 0
AreApart stations = AllPairs (λ a b. a ≢ b) (map address_of_station stations)

-- at most one terminal owes an answer
abbrev pub AtMostOneOwes : List After → Type 0
AtMostOneOwes afters = AllPairs (λ a b. is_owed a.duty ≡ true → is_owed b.duty ≡ false) afters

-- nobody owes or promises anything
abbrev pub AreFree : List After → Type 0
AreFree afters = All (λ after. after.duty ≡ free) afters

-- ---- an answer

-- the status of a terminal by what it keeps after an order
abbrev pub status_after : After → Bool → ℕ
status_after after acceptance =
    status_of after.station.plan.terminal after.station.memory.registers acceptance

-- these words are an answer of the terminal: its status and these data words, each of sixteen bits
pub record IsAnswerOf (after : After) (acceptance : Bool) (data_words : List ℕ) (words : List Word) : Type 0 where
  pub words_are : words ≡ with_data (status_after after acceptance) data_words
  pub status : status_after after acceptance < 65536
  pub address : address_of (status_after after acceptance) ≡ address_of_station after.station
  pub fits : AreWords data_words
  pub few : length data_words ≤ 32

-- ---- after a command

-- a terminal accepts control: it was offered, the terminal is willing, its station has items left, and nothing was in error
-- (dynamic bus control, 4.3.3.5.1.7.1)
pub record IsAcceptance (kind : Kind) (after : After) : Type 0 where
  pub offer : is_offer kind ≡ true
  pub willing : after.station.plan.terminal.accepts ≡ true
  pub items : has_items after.station.left ≡ true
  pub error : after.station.memory.registers.message_error ≡ false

-- a terminal owes these words to a command of this kind: it serves, the command names it, and it accepts control where that is
-- offered alone
pub record OwesToCommand (kind : Kind) (after : After) (acceptance : Bool) (data_words : List ℕ) (words : List Word) : Type 0 where
  pub answer : IsAnswerOf after acceptance data_words words
  pub serves : after.station.serves ≡ true
  pub terminal : address_of_station after.station ≢ 31
  pub named : Contains (addresses_named kind) (address_of_station after.station)
  pub accepted : acceptance ≡ true → IsAcceptance kind after

-- a terminal with this address is to receive what a relay's transmitter sends (4.3.3.6.3, 4.3.3.6.7.2)
pub record IsReceiver (own from to : ℕ) : Type 0 where
  pub terminal : own ≢ 31
  pub other : own ≢ from
  pub named : (to ≡ own) ⊎ (to ≡ 31)

-- a terminal promises to take what a relay's transmitter sends: both command words are shown whole
pub record PromisesToRelay (from from_sub to to_sub count own command transmitter : ℕ) (slots : List (Option Word)) : Type 0 where
  pub receiver : IsReceiver own from to
  pub command_is : command ≡ command_bits to false to_sub (count % 32)
  pub transmitter_is : transmitter ≡ from
  pub whole : slots ≡ whole_slots (command_words (Relay from from_sub to to_sub count))

-- .. by the kind of the message: only a relay's command is promised anything
abbrev pub PromisesToCommand : Kind → ℕ → ℕ → ℕ → List (Option Word) → Type 0
PromisesToCommand (Relay from from_sub to to_sub count) own command transmitter slots =
    PromisesToRelay from from_sub to to_sub count own command transmitter slots
PromisesToCommand _ own command transmitter slots = ⊥

-- ---- after an answer

-- a terminal owes something to the first answer of a message of this kind: it alone is named to receive what was relayed
abbrev pub IsOnlyReceiver : Kind → ℕ → Type 0
IsOnlyReceiver (Relay from from_sub to to_sub count) own = (own ≢ 31) × (own ≢ from) × (to ≡ own)
IsOnlyReceiver _ own = ⊥

-- a terminal owes these words to the first answer of a message of this kind: its status alone
pub record OwesToAnswer (kind : Kind) (after : After) (acceptance : Bool) (words : List Word) : Type 0 where
  pub answer : IsAnswerOf after false [] words
  pub serves : after.station.serves ≡ true
  pub receiver : IsOnlyReceiver kind (address_of_station after.station)
  pub accepted : acceptance ≡ false
