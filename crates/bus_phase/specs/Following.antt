-- How the samples of a channel follow from the changes of its cleaned level.
--
-- A crossing is a change from a sign to the other. A burst's first crossing is the middle of its sync, and becomes the anchor; each later one that
-- lies within 125 ns of a whole number of ticks from the anchor becomes the next. A quiet run of less than 1.75 us doesn't end a burst.
use Rattle.std.specs.Prelude.{ℕ, ◌+◌, ◌-◌, max, nat_lt, nat_le, Bool, true, false, if◌then◌else◌, [], length, Option, Some, None}
use Rattle.bus_base.specs.declared.samples.Sample.{Sample}
use Rattle.bus_base.specs.declared.samples.Sample.TheVariants.{Quiet}
use Rattle.bus_base.specs.Samples.{is_quiet}
use Rattle.bus_phase.specs.Times.{nearest, is_good}
use Rattle.bus_phase.specs.Rows.{put, place_of}
use Rattle.bus_phase.specs.Anchors.{reference, tick_within}
use Rattle.bus_phase.specs.declared.anchor.Anchor.{Anchor}
use Rattle.bus_phase.specs.declared.cleaner.Change.{Change}
use Rattle.bus_phase.specs.declared.follower.Follower.{Follower}

-- quiet for so long ends a burst
abbrev pub burst_end : ℕ
burst_end = 1750000

-- 16 ticks: a first run of this length is placed without waiting for its end
abbrev pub longest_lead : ℕ
longest_lead = 8000000

-- the tick from which the level holds
abbrev pub end_tick : ℕ → Follower → ℕ
end_tick settled f = settled + length f.row.waiting

-- a change to a level in a tick
abbrev pub put_level : ℕ → ℕ → Sample → Follower → Follower
put_level settled tick level f = record f { row = put settled tick level f.row }

-- the tick that a change in a tick comes to
abbrev pub tick_put : ℕ → ℕ → ℕ
tick_put settled tick = settled + place_of settled tick

-- ---- out of quiet

-- whether the burst before goes on
abbrev pub goes_on : ℕ → Option Anchor → Option ℕ → ℕ → Bool
goes_on at (Some anchor) None since = nat_lt (at - since) burst_end
goes_on at _ _ since = false

-- the burst goes on, or one begins, of which no crossing was seen
abbrev pub begun : Option Anchor → ℕ → ℕ → Sample → Bool → Follower → Follower
begun other settled at level true f = put_level settled (tick_within f.anchor other at) level f
begun other settled at level false f = record f { lead = Some at }

abbrev pub out_of_quiet : Option Anchor → ℕ → ℕ → Sample → Follower → Follower
out_of_quiet other settled at level f = begun other settled at level (goes_on at f.anchor f.lead f.since) f

-- ---- a crossing

-- the tick of the first crossing of a burst that began at a time: its first run begins where the channel's last burst ended, at the earliest
abbrev pub first_tick : Option Anchor → ℕ → ℕ → ℕ → Follower → ℕ
first_tick other settled at from f = tick_put settled (max (reference f.anchor other at) (end_tick settled f + nearest (at - from)))

-- the two changes of a first crossing in a tick, and the new anchor
abbrev pub crossed_in : ℕ → ℕ → ℕ → Sample → ℕ → Follower → Follower
crossed_in tick settled at level from f =
    record (put_level settled tick level (put_level settled (tick - nearest (at - from)) f.cleaned f)) {
      lead = None;
      anchor = Some record { tick = tick; at = at };
    }

abbrev pub first_crossing : Option Anchor → ℕ → ℕ → Sample → ℕ → Follower → Follower
first_crossing other settled at level from f = crossed_in (first_tick other settled at from f) settled at level from f

-- the anchor after a later crossing in a tick
abbrev pub moved : ℕ → ℕ → Option Anchor → Option Anchor
moved at tick None = None
moved at tick (Some anchor) = if is_good (at - anchor.at) then Some record { tick = tick; at = at } else Some anchor

abbrev pub later_crossing : Option Anchor → ℕ → ℕ → Sample → Follower → Follower
later_crossing other settled at level f =
    record (put_level settled (tick_within f.anchor other at) level f) {
      anchor = moved at (tick_put settled (tick_within f.anchor other at)) f.anchor;
    }

abbrev pub crossed : Option Anchor → ℕ → ℕ → Sample → Option ℕ → Follower → Follower
crossed other settled at level (Some from) f = first_crossing other settled at level from f
crossed other settled at level None f = later_crossing other settled at level f

-- ---- into quiet

-- a burst without a crossing that begins in a tick has as many ticks as are nearest to its length
abbrev pub whole_in : ℕ → ℕ → ℕ → ℕ → Follower → Follower
whole_in tick settled at from f =
    record (put_level settled (tick + nearest (at - from)) Quiet (put_level settled tick f.cleaned f)) { lead = None }

abbrev pub whole_burst : Option Anchor → ℕ → ℕ → ℕ → Follower → Follower
whole_burst other settled at from f = whole_in (reference f.anchor other from) settled at from f

abbrev pub into_quiet : Option Anchor → ℕ → ℕ → Option ℕ → Follower → Follower
into_quiet other settled at (Some from) f = whole_burst other settled at from f
into_quiet other settled at None f = put_level settled (tick_within f.anchor other at) Quiet f

-- ---- every change

abbrev pub changed : Option Anchor → ℕ → ℕ → Sample → Bool → Bool → Follower → Follower
changed other settled at level true true f = f
changed other settled at level true false f = out_of_quiet other settled at level f
changed other settled at level false true f = into_quiet other settled at f.lead f
changed other settled at level false false f = crossed other settled at level f.lead f

abbrev pub followed : Option Anchor → ℕ → ℕ → Sample → Follower → Follower
followed other settled at level f =
    record (changed other settled at level (is_quiet f.cleaned) (is_quiet level) f) { cleaned = level; since = at }

-- after a change of the cleaned level, if there is one
abbrev pub followed_if : Option Anchor → ℕ → Option Change → Follower → Follower
followed_if other settled None f = f
followed_if other settled (Some change) f = followed other settled change.at change.level f

-- the tick of a burst that began at a time, of which no crossing was seen
abbrev pub lead_tick : Option Anchor → ℕ → ℕ → Follower → ℕ
lead_tick other settled from f = tick_put settled (max (reference f.anchor other from) (end_tick settled f))

abbrev pub lead_in : ℕ → ℕ → ℕ → Follower → Follower
lead_in tick settled from f = record (put_level settled tick f.cleaned f) { lead = None; anchor = Some record { tick = tick; at = from } }

abbrev pub placed_lead : Option Anchor → ℕ → ℕ → Follower → Follower
placed_lead other settled from f = lead_in (lead_tick other settled from f) settled from f

-- a first run of at least this length is placed, and its beginning becomes the anchor
abbrev pub lead_placed : Option Anchor → ℕ → ℕ → ℕ → Option ℕ → Follower → Follower
lead_placed other settled least now None f = f
lead_placed other settled least now (Some from) f = if nat_le least (now - from) then placed_lead other settled from f else f

-- at the recording's end a burst of which no crossing was seen is placed too; it becomes no anchor
abbrev pub lead_ended : Option Anchor → ℕ → Option ℕ → Follower → Follower
lead_ended other settled None f = f
lead_ended other settled (Some from) f = record (put_level settled (lead_tick other settled from f) f.cleaned f) { lead = None }

-- before anything is recorded
abbrev pub unmoved : Follower
unmoved = record { cleaned = Quiet; since = 0; lead = None; anchor = None; row = record { waiting = []; level = Quiet } }
