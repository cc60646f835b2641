-- The document that describes a plan: each key with its value, in the order of the keys' bytes. An accepted plan is read back from it.
use Rattle.std.specs.Prelude.{ℕ, zero, suc, pos, ◌+◌, ◌/◌, ◌%◌, ◌^◌, ◌==◌, Bool, true, false, if◌then◌else◌, List, [], ◌∷◌, codes, Option, Some, None}
use Rattle.toml.specs.Data.{Data, string, integer, boolean, array, table, Items, no_items, item, Members, no_members, member}
use Rattle.bus_base.specs.declared.samples.Channel.{Channel}
use Rattle.bus_base.specs.declared.samples.Channel.TheVariants.{A, B}
use Rattle.bus_base.specs.declared.samples.Part.{Part}
use Rattle.bus_base.specs.declared.samples.Part.TheVariants.{Command, First, Second}
use Rattle.bus_formats.specs.Plans.{ItemData, FrameData, StationData, PlanData}
use Rattle.bus_formats.specs.declared.fault.Hit.{Hit}
use Rattle.bus_formats.specs.declared.fault.Hit.TheVariants.{Flip, Cut, Extra, Fade}
use Rattle.bus_formats.specs.declared.plan.Kind.{Kind}
use Rattle.bus_formats.specs.declared.plan.Kind.TheVariants.{Receive, Transmit, Relay, Mode}
use Rattle.bus_formats.specs.declared.plan.Load.{Load}
use Rattle.bus_formats.specs.declared.plan.SubsystemKind.{SubsystemKind}
use Rattle.bus_formats.specs.declared.plan.SubsystemKind.TheVariants.{Recorder, Tally}
use Rattle.bus_formats.specs.declared.plan.Turn.{Turn}
use Rattle.bus_formats.specs.declared.plan.Turn.TheVariants.{Same, Other}

-- ---- values

abbrev pub number : ℕ → Data
number n = integer (pos n)

abbrev pub items_of : {X : Type 0} → (X → Data) → List X → Items
items_of f [] = no_items
items_of f (x ∷ xs) = item (f x) (items_of f xs)

abbrev pub numbers : List ℕ → Data
numbers xs = array (items_of number xs)

abbrev pub tables_of_all : {X : Type 0} → (X → Members) → List X → Data
tables_of_all f xs = array (items_of (λ x. table (f x)) xs)

-- a key that is there where it has a value
abbrev pub optional : List ℕ → Option Data → Members → Members
optional key None ms = ms
optional key (Some d) ms = member key d ms

abbrev pub number_if : Option ℕ → Option Data
number_if None = None
number_if (Some n) = Some (number n)

abbrev pub channel_text : Channel → Data
channel_text A = string (codes "A")
channel_text B = string (codes "B")

abbrev pub channel_if : Option Channel → Option Data
channel_if None = None
channel_if (Some c) = Some (channel_text c)

abbrev pub turn_text : Turn → Data
turn_text Same = string (codes "same")
turn_text Other = string (codes "other")

abbrev pub part_text : Part → Data
part_text Command = string (codes "command")
part_text First = string (codes "first")
part_text Second = string (codes "second")

abbrev pub subsystem_if : Option SubsystemKind → Option Data
subsystem_if None = None
subsystem_if (Some Recorder) = Some (string (codes "recorder"))
subsystem_if (Some Tally) = Some (string (codes "tally"))

abbrev pub bit_number : Bool → ℕ
bit_number false = 0
bit_number true = 1

-- the numbers of a set from n on, so many of them looked at
abbrev pub numbers_in : ℕ → ℕ → ℕ → List ℕ
numbers_in set n zero = []
numbers_in set n (suc left) = if set / 2 ^ n % 2 == 1 then n ∷ numbers_in set (n + 1) left else numbers_in set (n + 1) left

abbrev pub refused_numbers : ℕ → Data
refused_numbers set = numbers (numbers_in set 0 32)

-- the positions that a set takes, counted from n
abbrev pub positions_taken : ℕ → List Bool → List ℕ
positions_taken n [] = []
positions_taken n (b ∷ set) = if b then n ∷ positions_taken (n + 1) set else positions_taken (n + 1) set

-- ---- tables

-- the keys of an item by its form
abbrev pub form_members : ℕ → List Turn → Kind → Members
form_members gap retry (Receive to sub words) =
    member (codes "form") (string (codes "receive"))
    (member (codes "gap") (number gap)
    (member (codes "retry") (array (items_of turn_text retry))
    (member (codes "sub") (number sub)
    (member (codes "to") (number to)
    (member (codes "words") (numbers words) no_members)))))
form_members gap retry (Transmit from sub count) =
    member (codes "count") (number count)
    (member (codes "form") (string (codes "transmit"))
    (member (codes "from") (number from)
    (member (codes "gap") (number gap)
    (member (codes "retry") (array (items_of turn_text retry))
    (member (codes "sub") (number sub) no_members)))))
form_members gap retry (Relay from from_sub to to_sub count) =
    member (codes "count") (number count)
    (member (codes "form") (string (codes "relay"))
    (member (codes "from") (number from)
    (member (codes "from_sub") (number from_sub)
    (member (codes "gap") (number gap)
    (member (codes "retry") (array (items_of turn_text retry))
    (member (codes "to") (number to)
    (member (codes "to_sub") (number to_sub) no_members)))))))
form_members gap retry (Mode to mode_sub transmit code word) =
    member (codes "code") (number code)
    (member (codes "form") (string (codes "mode"))
    (member (codes "gap") (number gap)
    (member (codes "mode_sub") (number mode_sub)
    (member (codes "retry") (array (items_of turn_text retry))
    (member (codes "t") (number (bit_number transmit))
    (member (codes "to") (number to)
    (optional (codes "word") (number_if word) no_members)))))))

abbrev pub item_members : ItemData → Members
item_members i =
    optional (codes "abandon") (number_if i.abandon)
    (optional (codes "channel") (channel_if i.channel) (form_members i.gap i.retry i.kind))

abbrev pub frame_members : FrameData → Members
frame_members f = member (codes "item") (tables_of_all item_members f.items) (member (codes "ticks") (number f.ticks) no_members)

abbrev pub load_members : Load → Members
load_members l = member (codes "sub") (number l.sub) (member (codes "words") (numbers l.words) no_members)

abbrev pub station_members : StationData → Members
station_members s =
    member (codes "accepts") (boolean s.terminal.accepts)
    (member (codes "address") (number s.terminal.address)
    (member (codes "bit") (number s.terminal.bit)
    (member (codes "busy") (boolean s.terminal.busy)
    (member (codes "channel") (channel_text s.channel)
    (member (codes "delay") (number s.terminal.delay)
    (member (codes "frame") (tables_of_all frame_members s.frames)
    (member (codes "load") (tables_of_all load_members s.terminal.loads)
    (member (codes "no_mode") (refused_numbers s.terminal.no_mode)
    (member (codes "no_receive") (refused_numbers s.terminal.no_receive)
    (member (codes "no_transmit") (refused_numbers s.terminal.no_transmit)
    (member (codes "repeat") (number s.repeat)
    (member (codes "service") (boolean s.terminal.service)
    (optional (codes "subsystem") (subsystem_if s.terminal.subsystem)
    (member (codes "subsystem_flag") (boolean s.terminal.subsystem_flag)
    (member (codes "terminal_flag") (boolean s.terminal.terminal_flag)
    (member (codes "vector") (number s.terminal.vector) no_members))))))))))))))))

-- the keys of a fault by its kind
abbrev pub fault_members : ℕ → Part → Hit → Members
fault_members attempt part (Flip word set) =
    member (codes "at") (numbers (positions_taken 0 set))
    (member (codes "attempt") (number attempt)
    (member (codes "kind") (string (codes "flip"))
    (member (codes "part") (part_text part)
    (member (codes "word") (number word) no_members))))
fault_members attempt part (Fade word set) =
    member (codes "at") (numbers (positions_taken 0 set))
    (member (codes "attempt") (number attempt)
    (member (codes "kind") (string (codes "fade"))
    (member (codes "part") (part_text part)
    (member (codes "word") (number word) no_members))))
fault_members attempt part (Cut after) =
    member (codes "after") (number after)
    (member (codes "attempt") (number attempt)
    (member (codes "kind") (string (codes "cut"))
    (member (codes "part") (part_text part) no_members)))
fault_members attempt part (Extra words) =
    member (codes "attempt") (number attempt)
    (member (codes "kind") (string (codes "extra"))
    (member (codes "part") (part_text part)
    (member (codes "words") (number words) no_members)))

-- the document, of version 2
abbrev pub document_with : PlanData → Members
document_with p =
    member (codes "fault") (tables_of_all (λ f. fault_members f.attempt f.part f.hit) p.faults)
    (member (codes "start") (number p.start)
    (member (codes "station") (tables_of_all station_members p.stations)
    (member (codes "version") (number 2) no_members)))
