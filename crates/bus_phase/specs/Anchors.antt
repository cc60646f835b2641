-- Which tick a moment has: ticks are counted from an anchor, a crossing whose tick is known.
use Rattle.std.specs.Prelude.{ℕ, ◌+◌, ◌-◌, ◌/◌, min, max, nat_lt, nat_le, if◌then◌else◌, Option, Some, None}
use Rattle.bus_phase.specs.Times.{nearest, nearest_back}
use Rattle.bus_phase.specs.declared.anchor.Anchor.{Anchor}

-- the tick of a moment, counted from an anchor; one of the other channel may be a little later than the moment
abbrev pub counted : Anchor → ℕ → ℕ
counted anchor at =
    if nat_lt at anchor.at then anchor.tick - nearest_back (anchor.at - at) else anchor.tick + nearest (at - anchor.at)

-- the latest of the two channels' anchors
abbrev pub later_of : Anchor → Anchor → Anchor
later_of own other = if nat_lt other.at own.at then own else other

abbrev pub latest : Option Anchor → Option Anchor → Option Anchor
latest None other = other
latest (Some own) None = Some own
latest (Some own) (Some other) = Some (later_of own other)

-- a silence goes back to the recording's own time: the tick nearest to that, but no further from the count than a fortieth of the silence
abbrev pub within : ℕ → ℕ → ℕ → ℕ
within count room own = max (count - room) (min own (count + room))

abbrev pub tick_after : Anchor → ℕ → ℕ
tick_after anchor at = within (counted anchor at) (nearest (at - anchor.at) / 40) (nearest at)

-- the tick of a moment in a silence; before any anchor it is that of the recording's own time
abbrev pub tick_in_silence : Option Anchor → ℕ → ℕ
tick_in_silence None at = nearest at
tick_in_silence (Some anchor) at = tick_after anchor at

-- the tick of the recording's end, counted from the last anchor
abbrev pub tick_at_end : Option Anchor → ℕ → ℕ
tick_at_end None at = nearest at
tick_at_end (Some anchor) at = counted anchor at

-- the tick of a burst's first crossing: up to 40 ticks after the channel's own anchor it is counted from there, so that answers and short gaps
-- are measured by themselves; else it is that of the silence
abbrev pub reference : Option Anchor → Option Anchor → ℕ → ℕ
reference None other at = tick_in_silence other at
reference (Some own) other at =
    if nat_le (at - own.at) 20000000 then counted own at else tick_in_silence (latest (Some own) other) at

-- the tick of a change within a burst
abbrev pub tick_within : Option Anchor → Option Anchor → ℕ → ℕ
tick_within None other at = tick_in_silence other at
tick_within (Some own) other at = counted own at
