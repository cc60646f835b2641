-- The message that waits for an answer on a channel, as long as its time isn't over: what a monitor has to keep of all messages before.
use Rattle.std.specs.Prelude.{ℕ, ◌+◌, Bool, not, ◌==◌, ◌&&◌, if◌then◌else◌, List, length, Option, Some, None}
use Rattle.bus_base.specs.declared.samples.Sample.{Sample}
use Rattle.bus_line.specs.Past.{Burst, end_of}
use Rattle.bus_formats.specs.Times.{no_response}
use Rattle.bus_monitor.specs.Messages.{Closed, Waiting, opened, opens, opening, closed_by, waits_after, answer_read, answered_late}
use Rattle.bus_monitor.specs.Listings.{running_on}
use Rattle.bus_monitor.specs.Progress.{waiting}

-- a message that waits, unless its time for an answer is over
abbrev pub still : ℕ → Option ℕ → ℕ → Option Waiting → Option Waiting
still k running ticks None = None
still k running ticks (Some w) = if answered_late k running ticks w running then None else Some w

unfoldable pub awaited : ℕ → List Sample → Option Waiting
awaited k past = still k (running_on k past) (length past) (waiting k past)

-- what a burst closes in the tick in which its end is known, and which message waits then: it answers the one that waited, or opens one
abbrev pub closes_of : ℕ → Option Waiting → Burst → List Closed
closes_of k None burst = opened k burst (opening k burst)
closes_of k (Some w) burst = closed_by k w (end_of burst) (answer_read k w burst)

abbrev pub waits_of : ℕ → Option Waiting → Burst → Option Waiting
waits_of k None burst = opens k burst (opening k burst)
waits_of k (Some w) burst = waits_after k w (end_of burst) (answer_read k w burst)

-- in a tick in which no burst ends, a message whose time is over with it waits no longer, where no burst runs
abbrev pub kept_in_time : ℕ → Bool → Option Waiting → Option Waiting
kept_in_time tick running None = None
kept_in_time tick running (Some w) = if not running && (tick == w.from + no_response) then None else Some w

-- the first tick of the message that is open
abbrev pub open_of : Option ℕ → Option Waiting → Option ℕ
open_of running None = running
open_of running (Some w) = Some w.first
