-- Where a plan breaks the rules on its stations' addresses and on its items.
use Rattle.std.specs.Prelude.{ℕ, ◌+◌, ◌==◌, Bool, true, false, not, ◌&&◌, ◌||◌, if◌then◌else◌, List, [], ◌∷◌, take, codes, Option, Some, None, is_none, is_some}
use Rattle.std.specs.List.{list_any}
use Rattle.bus_formats.specs.Forms.{form_of}
use Rattle.bus_formats.specs.Plans.{ItemData, FrameData, StationData, PlanData}
use Rattle.bus_formats.specs.declared.plan.Kind.{Kind}
use Rattle.bus_formats.specs.declared.plan.Kind.TheVariants.{Receive, Transmit, Relay, Mode}
use Rattle.bus_plan.specs.Place.{join, at_number, or_place}
use Rattle.bus_plan.specs.declared.item_rules.ItemRule.{ItemRule}
use Rattle.bus_plan.specs.declared.item_rules.ItemRule.TheVariants.{NoSuchStation, SelfAddressed, BadForm, BadAbandon}

-- whether a station has the address
abbrev pub has_address : ℕ → List StationData → Bool
has_address address stations = list_any (λ s. s.terminal.address == address) stations

-- the first station, counted from n + 1, whose address an earlier one has
abbrev pub same_address : List StationData → ℕ → List StationData → Option (List ℕ)
same_address all n [] = None
same_address all n (s ∷ ss) =
    if has_address s.terminal.address (take n all) then Some (at_number (codes "station.") (n + 1))
    else same_address all (n + 1) ss

-- the start, where no station has it
abbrev pub start_missing : PlanData → Option (List ℕ)
start_missing p = if has_address p.start p.stations then None else Some (codes "start")

-- the terminal to which a message goes, or from which alone it comes; and the one from which a relay comes
abbrev pub terminal_of : Kind → ℕ
terminal_of (Receive to sub words) = to
terminal_of (Transmit from sub count) = from
terminal_of (Relay from from_sub to to_sub count) = to
terminal_of (Mode to mode_sub transmit code word) = to

abbrev pub source_of : Kind → Option ℕ
source_of (Relay from from_sub to to_sub count) = Some from
source_of _ = None

-- whether an address names no station; the address 31 means all terminals
abbrev pub is_absent : List StationData → ℕ → Bool
is_absent all address = not (address == 31) && not (has_address address all)

-- whether an address names the station itself
abbrev pub is_own : StationData → ℕ → Bool
is_own own address = not (address == 31) && (address == own.terminal.address)

abbrev pub source_absent : List StationData → Option ℕ → Bool
source_absent all None = false
source_absent all (Some source) = is_absent all source

abbrev pub names_absent : List StationData → Kind → Bool
names_absent all kind = is_absent all (terminal_of kind) || source_absent all (source_of kind)

abbrev pub source_own : StationData → ℕ → Option ℕ → Bool
source_own own to None = false
source_own own to (Some source) = is_own own source || (source == to)

-- whether a message names its own station, or is a relay that names one station twice
abbrev pub names_own : StationData → Kind → Bool
names_own own kind = is_own own (terminal_of kind) || source_own own (terminal_of kind) (source_of kind)

abbrev pub is_transmit : Kind → Bool
is_transmit (Transmit from sub count) = true
is_transmit _ = false

-- whether a message is a transmit message, and the next goes to the same terminal and is no relay
abbrev pub may_cut_short : Kind → Kind → Bool
may_cut_short kind next = is_transmit kind && is_none (source_of next) && (terminal_of next == terminal_of kind)

-- whether an item may abandon, where these follow in its frame
abbrev pub may_abandon : ItemData → List ItemData → Bool
may_abandon i [] = false
may_abandon i (next ∷ rest) = may_cut_short i.kind next.kind

-- whether the item of a station breaks the rule, where these items follow in its frame
abbrev pub breaks : ItemRule → List StationData → StationData → ItemData → List ItemData → Bool
breaks NoSuchStation all own i rest = names_absent all i.kind
breaks SelfAddressed all own i rest = names_own own i.kind
breaks BadForm all own i rest = is_none (form_of i.kind)
breaks BadAbandon all own i rest = is_some i.abandon && not (may_abandon i rest)

module _ (rule : ItemRule) (all : List StationData) where
  -- the first item that breaks the rule, in items counted from n, in frames and in stations
  abbrev pub in_items : StationData → List ℕ → ℕ → List ItemData → Option (List ℕ)
  in_items own path n [] = None
  in_items own path n (i ∷ rest) =
      if breaks rule all own i rest then Some (at_number path n) else in_items own path (n + 1) rest

  abbrev pub in_frames : StationData → List ℕ → ℕ → List FrameData → Option (List ℕ)
  in_frames own path n [] = None
  in_frames own path n (f ∷ fs) =
      or_place (in_items own (join (at_number path n) (codes ".item.")) 1 f.items) (in_frames own path (n + 1) fs)

  abbrev pub in_stations : ℕ → List StationData → Option (List ℕ)
  in_stations n [] = None
  in_stations n (s ∷ ss) =
      or_place (in_frames s (join (at_number (codes "station.") n) (codes ".frame.")) 1 s.frames) (in_stations (n + 1) ss)
