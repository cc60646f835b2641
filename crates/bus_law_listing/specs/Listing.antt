-- The bursts of the message table as they are found on the bus, and their order.
use Rattle.std.specs.Prelude.{◌≡◌, true, List}
use Rattle.std.specs.List.{Contains}
use Rattle.bus_line.specs.Past.{end_of}
use Rattle.bus_line.specs.Channels.{WholeBurst}
use Rattle.bus_model.specs.Log.{is_before, in_order}
use Rattle.bus_model.specs.Strikes.{ShownBurst, burst_ticks}

-- a burst of the table as it is found on the bus
abbrev pub burst_found : ShownBurst → WholeBurst
burst_found shown =
    record { channel = shown.channel; burst = record { first = shown.start; ticks = burst_ticks shown; slots = shown.slots } }

-- bursts in the order of their ends, A before B
abbrev pub found_in_order : List WholeBurst → List WholeBurst
found_in_order found = in_order (λ whole. end_of whole.burst) (λ whole. whole.channel) found

-- each burst of a list ended before each of another, or in the same tick, it on A
abbrev pub EndBefore : List WholeBurst → List WholeBurst → Type 0
EndBefore firsts lasts = (first last : WholeBurst) → Contains firsts first → Contains lasts last →
    is_before (end_of first.burst) first.channel (end_of last.burst) ≡ true
