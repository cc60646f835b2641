-- Which values a plan may have: the ranges of its numbers, and the rules on the plan as a whole. A plan of version 1 keeps all of this
-- and lower limits; what a text must be to be read as a plan stands with the reader.
use Rattle.std.specs.Prelude.{◌≡◌, ◌≢◌, ℕ, ◌*◌, ◌/◌, ◌%◌, ◌^◌, ◌<◌, ◌≤◌, ◌⊎◌, List, [], ◌∷◌, length, sum_by, All, AllPairs, Contains, map, option_to_list, Option, Some, None, IsSome, IsNone, IfSome, ⊤}
use Rattle.bus_base.specs.Flips.{IsDetectable}
use Rattle.bus_base.specs.Fades.{IsFade}
use Rattle.bus_base.specs.Positions.{IsBetween, set_of}
use Rattle.bus_base.specs.declared.samples.Part.{Part}
use Rattle.bus_base.specs.declared.samples.Part.TheVariants as parts
use Rattle.bus_formats.specs.Codes.{transmit_status_word, transmitter_shutdown, override_transmitter_shutdown, reset_remote_terminal}
use Rattle.bus_formats.specs.Forms.{form_of}
use Rattle.bus_formats.specs.Plans.{ItemData, FrameData, TerminalData, StationData, PlanData}
use Rattle.bus_formats.specs.declared.fault.Fault.{Fault}
use Rattle.bus_formats.specs.declared.fault.Hit.{Hit}
use Rattle.bus_formats.specs.declared.fault.Hit.TheVariants.{Flip, Cut, Extra, Fade}
use Rattle.bus_formats.specs.declared.plan.Kind.{Kind}
use Rattle.bus_formats.specs.declared.plan.Kind.TheVariants.{Receive, Transmit, Relay, Mode}
use Rattle.bus_formats.specs.declared.plan.Load.{Load}

-- ---- ranges

-- each is a word of sixteen bits
abbrev pub AreWords : List ℕ → Type 0
AreWords words = All (λ w. w < 65536) words

-- each number of the set is one of these, where bit n stands for the number n
abbrev pub ListsOnly : (ℕ → Type 0) → ℕ → Type 0
ListsOnly P set = (n : ℕ) → set / 2 ^ n % 2 ≡ 1 → P n

-- a terminal may not refuse to send its status, to turn a transmitter off or on, or to reset
pub record IsRefusable (code : ℕ) : Type 0 where
  pub within : code ≤ 31
  pub status : code ≢ transmit_status_word
  pub shutdown : code ≢ transmitter_shutdown
  pub override : code ≢ override_transmitter_shutdown
  pub reset : code ≢ reset_remote_terminal

-- the numbers of a message
pub record HasReceiveRanges (to sub count : ℕ) : Type 0 where
  pub address : to ≤ 31
  pub subaddress : IsBetween 1 30 sub
  pub words : IsBetween 1 32 count

pub record HasTransmitRanges (from sub count : ℕ) : Type 0 where
  pub address : from ≤ 30
  pub subaddress : IsBetween 1 30 sub
  pub words : IsBetween 1 32 count

pub record HasModeRanges (to mode_sub code : ℕ) : Type 0 where
  pub address : to ≤ 31
  pub subaddress : (mode_sub ≡ 0) ⊎ (mode_sub ≡ 31)
  pub mode : code ≤ 31

abbrev pub HasKindRanges : Kind → Type 0
HasKindRanges (Receive to sub words) = HasReceiveRanges to sub (length words)
HasKindRanges (Transmit from sub count) = HasTransmitRanges from sub count
HasKindRanges (Relay from from_sub to to_sub count) = HasTransmitRanges from from_sub count × HasReceiveRanges to to_sub count
HasKindRanges (Mode to mode_sub transmit code word) = HasModeRanges to mode_sub code

-- the data words that the controller sends
abbrev pub words_sent : Kind → List ℕ
words_sent (Receive to sub words) = words
words_sent (Mode to mode_sub transmit code word) = option_to_list word
words_sent _ = []

pub record HasItemRanges (item : ItemData) : Type 0 where
  pub kind : HasKindRanges item.kind
  pub words : AreWords (words_sent item.kind)
  pub gap : IsBetween 8 2000 item.gap
  pub retry : length item.retry ≤ 3
  pub abandon : IfSome item.abandon (IsBetween 25 1600)

pub record HasFrameRanges (frame : FrameData) : Type 0 where
  pub ticks : frame.ticks ≤ 1000000
  pub items : All HasItemRanges frame.items

pub record HasLoadRanges (load : Load) : Type 0 where
  pub sub : IsBetween 1 29 load.sub
  pub count : IsBetween 1 32 (length load.words)
  pub words : AreWords load.words

pub record HasTerminalRanges (terminal : TerminalData) : Type 0 where
  pub address : terminal.address ≤ 31
  pub delay : IsBetween 8 24 terminal.delay
  pub vector : terminal.vector < 65536
  pub bit : terminal.bit < 65536
  pub no_receive : ListsOnly (IsBetween 1 29) terminal.no_receive
  pub no_transmit : ListsOnly (IsBetween 1 29) terminal.no_transmit
  pub no_mode : ListsOnly IsRefusable terminal.no_mode
  pub loads : All HasLoadRanges terminal.loads

pub record HasStationRanges (station : StationData) : Type 0 where
  pub terminal : HasTerminalRanges station.terminal
  pub frames : All HasFrameRanges station.frames
  pub repeat : IsBetween 1 64 station.repeat

-- a controller's own burst keeps its first word
abbrev pub least_cut : Part → ℕ
least_cut parts.Command = 1
least_cut _ = 0

-- the numbers of a hit; a flip can be detected in every word that it strikes, and a fade always is
abbrev pub HasHitRanges : Part → Hit → Type 0
HasHitRanges part (Flip word set) = (word ≤ 39) × ((positions : List ℕ) × IsDetectable positions × (set ≡ set_of positions))
HasHitRanges part (Fade word set) = (word ≤ 39) × ((positions : List ℕ) × IsFade positions × (set ≡ set_of positions))
HasHitRanges part (Cut after) = IsBetween (least_cut part) 32 after
HasHitRanges part (Extra words) = IsBetween 1 39 words

pub record HasFaultRanges (fault : Fault) : Type 0 where
  pub attempt : IsBetween 1 1000000 fault.attempt
  pub hit : HasHitRanges fault.part fault.hit

-- ---- an item in its frame and station

-- the addresses that a message names
abbrev pub addresses_named : Kind → List ℕ
addresses_named (Receive to sub words) = to ∷ []
addresses_named (Transmit from sub count) = from ∷ []
addresses_named (Relay from from_sub to to_sub count) = from ∷ to ∷ []
addresses_named (Mode to mode_sub transmit code word) = to ∷ []

abbrev pub addresses : PlanData → List ℕ
addresses plan = map (λ s. s.terminal.address) plan.stations

-- the message may be sent by the station with this address: every terminal that it names is another station of the plan, and a relay
-- names two
pub record IsSendable (plan : PlanData) (own : ℕ) (kind : Kind) : Type 0 where
  pub form : IsSome (form_of kind)
  pub known : All (λ a. a ≢ 31 → Contains (addresses plan) a) (addresses_named kind)
  pub others : All (λ a. a ≢ 31 → a ≢ own) (addresses_named kind)
  pub apart : AllPairs (λ a b. a ≢ b) (addresses_named kind)

-- the message is one to or from this terminal alone
abbrev pub Supersedes : ℕ → Kind → Type 0
Supersedes address (Receive to sub words) = to ≡ address
Supersedes address (Transmit from sub count) = from ≡ address
Supersedes address (Relay from from_sub to to_sub count) = ⊥
Supersedes address (Mode to mode_sub transmit code word) = to ≡ address

-- the answer of a transmit message may be given up for the next message to the same terminal
abbrev pub IsSuperseded : Kind → List ItemData → Type 0
IsSuperseded (Transmit from sub count) (next ∷ later) = Supersedes from next.kind
IsSuperseded _ _ = ⊥

-- each item of a frame whose answer may be given up is followed so
abbrev pub HasSuperseding : List ItemData → Type 0
HasSuperseding [] = ⊤
HasSuperseding (item ∷ later) = (IsSome item.abandon → IsSuperseded item.kind later) × HasSuperseding later

-- the items of a frame may be sent by the station with this address
pub record IsFrameSendable (plan : PlanData) (own : ℕ) (frame : FrameData) : Type 0 where
  pub items : All (λ i. IsSendable plan own i.kind) frame.items
  pub superseding : HasSuperseding frame.items

-- ---- faults side by side

-- the word that a hit strikes, where it strikes one
abbrev pub word_struck : Hit → Option ℕ
word_struck (Flip word set) = Some word
word_struck (Fade word set) = Some word
word_struck (Cut after) = None
word_struck (Extra words) = None

-- two faults strike the same: both one word of one burst, or both the length of one burst
pub record StrikesTheSame (a b : Fault) : Type 0 where
  pub attempt : a.attempt ≡ b.attempt
  pub part : a.part ≡ b.part
  pub word : word_struck a.hit ≡ word_struck b.hit

-- ---- limits

-- the items and the ticks of a station's frames
abbrev pub items_in : StationData → ℕ
items_in station = sum_by (λ f. length f.items) station.frames

abbrev pub ticks_in : StationData → ℕ
ticks_in station = sum_by (λ f. f.ticks) station.frames

pub record IsWithinLimits (plan : PlanData) : Type 0 where
  pub stations : length plan.stations ≤ 32
  pub frames : All (λ s. length s.frames ≤ 1024) plan.stations
  pub items : sum_by items_in plan.stations ≤ 4096
  pub faults : length plan.faults ≤ 1024
  pub repeated_items : sum_by (λ s. s.repeat * items_in s) plan.stations ≤ 16384
  pub repeated_ticks : sum_by (λ s. s.repeat * ticks_in s) plan.stations ≤ 2048000000

-- ---- the plan

-- the address 31 is that of a controller alone, which starts and has no subsystem
pub record IsController (plan : PlanData) (terminal : TerminalData) : Type 0 where
  pub starts : plan.start ≡ 31
  pub no_subsystem : IsNone terminal.subsystem

pub record IsAccepted (plan : PlanData) : Type 0 where
  pub ranges : All HasStationRanges plan.stations
  pub hits : All HasFaultRanges plan.faults
  pub start : Contains (addresses plan) plan.start
  pub apart : AllPairs (λ a b. a ≢ b) (addresses plan)
  pub controllers : All (λ s. s.terminal.address ≡ 31 → IsController plan s.terminal) plan.stations
  pub frames : All (λ s. All (IsFrameSendable plan s.terminal.address) s.frames) plan.stations
  pub faults : AllPairs (λ a b. StrikesTheSame a b → ⊥) plan.faults
  pub limits : IsWithinLimits plan
