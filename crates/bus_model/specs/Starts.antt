-- Which attempt is next, when it starts and on which channel (intermessage gap 4.3.3.7, redundant channels 4.6; frames,
-- retries and the quiet that is waited for are the project's own).
use Rattle.std.specs.Prelude.{ℕ, zero, suc, ◌+◌, ◌-◌, max, Bool, true, false, ◌==◌, if◌then◌else◌, List, [], ◌∷◌, ◌++◌, drop, Option, Some, None}
use Rattle.bus_base.specs.Samples.{other_of}
use Rattle.bus_base.specs.declared.samples.Channel.{Channel}
use Rattle.bus_formats.specs.Plans.{ItemData, FrameData, StationData, PlanData}
use Rattle.bus_formats.specs.Times.{dead_ticks, least_quiet}
use Rattle.bus_formats.specs.declared.form.Outcome.{Outcome}
use Rattle.bus_formats.specs.declared.form.Outcome.TheVariants.{Clear, Sent, Declined, Abandoned}
use Rattle.bus_retry.specs.Retries.{first_state}
use Rattle.bus_retry.specs.declared.RetryState.{RetryState}
use Rattle.bus_retry.specs.declared.Choice.{Choice}
use Rattle.bus_retry.specs.declared.Choice.TheVariants.{Again, Done}
use Rattle.bus_formats.specs.Times.{settling_quiet}

-- ---- the items of a station, in the order in which they are run

-- an item with its frame and its place there, both counted from 1, and the ticks of all frames before its own
pub record Entry : Type 0 where
  pub frame : ℕ
  pub place : ℕ
  pub offset : ℕ
  pub item : ItemData

-- the items of a frame, from this place on
abbrev pub entries_in : ℕ → ℕ → ℕ → List ItemData → List Entry
entries_in frame offset place [] = []
entries_in frame offset place (item ∷ items) =
    record { frame = frame; place = place; offset = offset; item = item } ∷ entries_in frame offset (place + 1) items

-- the items of all frames, the first of which has this number and follows so many ticks of frames
abbrev pub entries_from : ℕ → ℕ → List FrameData → List Entry
entries_from frame offset [] = []
entries_from frame offset (f ∷ frames) =
    entries_in frame offset 1 f.items ++ entries_from (frame + 1) (offset + f.ticks) frames

-- a list of frames, so many times
abbrev pub repeated : ℕ → List FrameData → List FrameData
repeated zero frames = []
repeated (suc n) frames = frames ++ repeated n frames

-- all items of a station; its frames are numbered through
unfoldable pub agenda : StationData → List Entry
agenda station = entries_from 1 0 (repeated station.repeat station.frames)

-- whether a station has items left
abbrev pub has_items : List Entry → Bool
has_items [] = false
has_items (entry ∷ entries) = true

-- after an attempt another one of its item follows, or the item is done and isn't left any longer
abbrev pub finishes : Choice → Bool
finishes Done = true
finishes (Again state) = false

abbrev pub retry_by : Choice → Option RetryState
retry_by Done = None
retry_by (Again state) = Some state

abbrev pub left_after : Choice → List Entry → List Entry
left_after Done left = drop 1 left
left_after (Again state) left = left

-- whether a station starts with control
abbrev pub starts : PlanData → StationData → Bool
starts plan station = station.terminal.address == plan.start

-- ---- the plan of the frames in ticks

-- the planned start of the frame that so many ticks of frames come before
pub record Origin : Type 0 where
  pub tick : ℕ
  pub offset : ℕ

-- the planned start of an entry's frame: that of an earlier frame plus the ticks of the frames between
abbrev pub planned_start : Origin → Entry → ℕ
planned_start origin entry = origin.tick + (entry.offset - origin.offset)

-- the first frame of the station that starts is planned for tick 8 (the project's own)
abbrev pub first_origin : Origin
first_origin = record { tick = 8; offset = 0 }

-- where control is taken, the tick of the first command is the planned start of the frame of the first item left
abbrev pub planned_at : ℕ → List Entry → Origin
planned_at tick [] = record { tick = tick; offset = 0 }
planned_at tick (entry ∷ later) = record { tick = tick; offset = entry.offset }

-- ---- when the next attempt starts

-- what the next attempt waits for: so many ticks in which both channels are quiet, and a tick; a tick alone, and it runs on
-- the other channel, after an abandoned message; or a tick alone, after control was taken
pub data Opening : Type 0 where
  usual : (need tick : ℕ) → Opening
  superseding : (tick : ℕ) (channel : Channel) → Opening
  taking : (tick : ℕ) → Opening

-- how long both channels are quiet before the next message: the least gap after one that went well, else until nobody
-- can still answer
abbrev pub needed_quiet : Outcome → ℕ
needed_quiet Clear = least_quiet
needed_quiet Sent = least_quiet
needed_quiet Declined = least_quiet
needed_quiet _ = settling_quiet

-- before the first attempt: the least gap, from tick 0 on
abbrev pub first_opening : Opening
first_opening = usual least_quiet 0

-- after an attempt on this channel that ended in this tick: one that was abandoned is superseded at once, on the other channel (4.4.3.2)
abbrev pub opening_after : Outcome → Channel → ℕ → Opening
opening_after Abandoned channel tick = superseding (suc tick) (other_of channel)
opening_after outcome channel tick = usual (needed_quiet outcome) (suc tick)

-- an item's own gap holds at its first attempt alone
abbrev pub quiet_for : Option RetryState → Entry → ℕ → ℕ
quiet_for None entry need = max need (dead_ticks entry.item.gap)
quiet_for (Some state) entry need = need

-- the first attempt of a frame's first item waits for the planned start of the frame
abbrev pub earliest_for : Option RetryState → Origin → Entry → ℕ
earliest_for None origin entry = if entry.place == 1 then planned_start origin entry else 0
earliest_for (Some state) origin entry = 0

-- the tick in which the next attempt starts, where both channels are quiet from tick z on
abbrev pub start_of : Opening → Option RetryState → Origin → Entry → ℕ → ℕ
start_of (usual need tick) retry origin entry z =
    max (z + quiet_for retry entry need) (max tick (earliest_for retry origin entry))
start_of (superseding tick channel) retry origin entry z = tick
start_of (taking tick) retry origin entry z = tick

-- its channel and turn: those of the retry, else those of an item's first attempt
abbrev pub turn_of : Option RetryState → Entry → Channel → RetryState
turn_of (Some state) entry live = state
turn_of None entry live = first_state entry.item live

abbrev pub state_of : Opening → Option RetryState → Entry → Channel → RetryState
state_of (superseding tick channel) retry entry live = record { channel = channel; turn = 1 }
state_of (usual need tick) retry entry live = turn_of retry entry live
state_of (taking tick) retry entry live = turn_of retry entry live
