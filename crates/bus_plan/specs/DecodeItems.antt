-- The items, frames and stations that tables describe.
use Rattle.std.specs.Prelude.{ℕ, Bool, ◌||◌, ◌==◌, if◌then◌else◌, List, [], codes, Option, Some, None, is_some}
use Rattle.toml.specs.Data.{Data, Items, no_items, item, Members, get_member}
use Rattle.bus_formats.specs.Codes.{synchronize_with_data}
use Rattle.bus_formats.specs.Plans.{ItemData, FrameData, TerminalData, StationData}
use Rattle.bus_formats.specs.declared.plan.Kind.{Kind}
use Rattle.bus_formats.specs.declared.plan.Kind.TheVariants.{Receive, Transmit, Relay, Mode}
use Rattle.bus_formats.specs.declared.plan.Load.{Load}
use Rattle.bus_formats.specs.declared.plan.SubsystemKind.{SubsystemKind}
use Rattle.bus_formats.specs.declared.plan.SubsystemKind.TheVariants.{Recorder, Tally}
use Rattle.bus_formats.specs.declared.plan.Turn.{Turn}
use Rattle.bus_formats.specs.declared.plan.Turn.TheVariants.{Same, Other}
use Rattle.bus_plan.specs.Document.{number_within, is_text}
use Rattle.bus_plan.specs.Positions.{pushed}
use Rattle.bus_plan.specs.Ranges.{address_range, terminal_range, delay_range, word_range, own_sub_range, sub_range, count_range, repeat_range, frame_range, gap_range, abandon_range, code_range, transmit_range, mode_sub_range}
use Rattle.bus_plan.specs.Rows.{has_text}
use Rattle.bus_plan.specs.Decode.{number_at, flag_at, list_at, tables_at, words_at, bits_at, channel_of, channel_or_a}
use Rattle.bus_plan.specs.declared.rows.Head.{Head}
use Rattle.bus_plan.specs.declared.rows.Refusable.TheVariants.{Subaddresses, ModeCodes}

-- the transmit bit of a mode command that gives none: 0 for the codes whose data word goes to the terminal, synchronize and the
-- two selected shutdowns
abbrev pub usual_transmit : ℕ → ℕ
usual_transmit code = if (code == synchronize_with_data) || (code == 20) || (code == 21) then 0 else 1

abbrev pub receive_of : Members → Kind
receive_of ms = Receive (number_at address_range 0 (codes "to") ms) (number_at sub_range 1 (codes "sub") ms) (words_at (codes "words") ms)

abbrev pub transmit_of : Members → Kind
transmit_of ms =
    Transmit (number_at terminal_range 0 (codes "from") ms) (number_at sub_range 1 (codes "sub") ms) (number_at count_range 1 (codes "count") ms)

abbrev pub relay_of : Members → Kind
relay_of ms =
    Relay (number_at terminal_range 0 (codes "from") ms) (number_at sub_range 1 (codes "from_sub") ms)
    (number_at address_range 0 (codes "to") ms) (number_at sub_range 1 (codes "to_sub") ms)
    (number_at count_range 1 (codes "count") ms)

-- the subaddress 31 where it is given, and else 0
abbrev pub mode_sub_of : Members → ℕ
mode_sub_of ms = if is_some (number_within mode_sub_range (get_member (codes "mode_sub") ms)) then 31 else 0

abbrev pub transmit_bit : ℕ → Members → Bool
transmit_bit code ms = number_at transmit_range (usual_transmit code) (codes "t") ms == 1

abbrev pub mode_with : ℕ → Members → Kind
mode_with code ms =
    Mode (number_at address_range 0 (codes "to") ms) (mode_sub_of ms) (transmit_bit code ms) code
    (number_within word_range (get_member (codes "word") ms))

abbrev pub mode_of : Members → Kind
mode_of ms = mode_with (number_at code_range 0 (codes "code") ms) ms

abbrev pub kind_of : Members → Kind
kind_of ms =
    if has_text (codes "form") (codes "receive") ms then receive_of ms
    else if has_text (codes "form") (codes "transmit") ms then transmit_of ms
    else if has_text (codes "form") (codes "relay") ms then relay_of ms
    else mode_of ms

-- the turns of a retry list, of which three fit
abbrev pub turn_of : Data → Turn
turn_of d = if is_text (codes "other") (Some d) then Other else Same

abbrev pub turns_from : List Turn → Items → List Turn
turns_from turns no_items = turns
turns_from turns (item d ds) = turns_from (pushed 3 turns (turn_of d)) ds

abbrev pub turns_of : Option Items → List Turn
turns_of None = []
turns_of (Some ds) = turns_from [] ds

abbrev pub item_of : Members → ItemData
item_of ms = record {
  kind = kind_of ms;
  channel = channel_of ms;
  gap = number_at gap_range 8 (codes "gap") ms;
  retry = turns_of (list_at (codes "retry") ms);
  abandon = number_within abandon_range (get_member (codes "abandon") ms);
}

abbrev pub frame_of : Members → FrameData
frame_of ms = record { ticks = number_at frame_range 0 (codes "ticks") ms; items = tables_at item_of (codes "item") ms }

abbrev pub load_of : Members → Load
load_of ms = record { sub = number_at own_sub_range 1 (codes "sub") ms; words = words_at (codes "words") ms }

-- the subsystem of a terminal; a controller alone has none
abbrev pub subsystem_of : ℕ → Members → Option SubsystemKind
subsystem_of address ms =
    if address == 31 then None
    else if has_text (codes "subsystem") (codes "recorder") ms then Some Recorder
    else if has_text (codes "subsystem") (codes "tally") ms then Some Tally
    else None

abbrev pub terminal_with : ℕ → Members → TerminalData
terminal_with address ms = record {
  address = address;
  delay = number_at delay_range 8 (codes "delay") ms;
  busy = flag_at (codes "busy") ms;
  service = flag_at (codes "service") ms;
  subsystem_flag = flag_at (codes "subsystem_flag") ms;
  terminal_flag = flag_at (codes "terminal_flag") ms;
  accepts = flag_at (codes "accepts") ms;
  vector = number_at word_range 0 (codes "vector") ms;
  bit = number_at word_range 0 (codes "bit") ms;
  no_receive = bits_at Subaddresses (codes "no_receive") ms;
  no_transmit = bits_at Subaddresses (codes "no_transmit") ms;
  no_mode = bits_at ModeCodes (codes "no_mode") ms;
  subsystem = subsystem_of address ms;
  loads = tables_at load_of (codes "load") ms;
}

-- the address of a station: 31 only where it starts
abbrev pub address_of : Head → Members → ℕ
address_of head ms =
    if head.last_starts then number_at address_range 0 (codes "address") ms
    else number_at terminal_range 0 (codes "address") ms

abbrev pub terminal_of : Head → Members → TerminalData
terminal_of head ms = terminal_with (address_of head ms) ms

abbrev pub station_of : Head → Members → StationData
station_of head ms = record {
  terminal = terminal_of head ms;
  channel = channel_or_a (channel_of ms);
  frames = tables_at frame_of (codes "frame") ms;
  repeat = number_at repeat_range 1 (codes "repeat") ms;
}
