-- Ticks of a block at once.
use Rattle.std.specs.Prelude.{◌≡◌, ℕ, ◌+◌, ◌≤◌, List, [], ◌∷◌, ◌++◌, reverse, take, drop, Some, None}
use Rattle.bus_base.specs.declared.samples.Channel.TheVariants.{A, B}
use Rattle.bus_base.specs.declared.samples.Pair.{Pair}
use Rattle.bus_base.specs.declared.samples.Sample.{Sample}
use Rattle.bus_capture.specs.Blocks.{ticks_of}
use Rattle.bus_capture.specs.declared.block.Block.{Block}
use Rattle.bus_line.specs.Channels.{on_channel}
use Rattle.bus_planes.specs.Still.{TellNothing}
use Rattle.bus_line.specs.declared.cutter.TheConstants.{LAG}
use Rattle.bus_formats.specs.Times.{no_response}
use Rattle.bus_monitor.specs.Messages.{Waiting}
use Rattle.bus_monitor.specs.Progress.{closed_now}
use Rattle.bus_monitor.specs.declared.channel_lister.ChannelLister.{ChannelLister}

-- n ticks of a block from one on, the newest first
abbrev pub part : Block → ℕ → ℕ → List Pair
part block at n = reverse (take n (drop at (ticks_of block)))

-- in none of these ticks, the newest first, anything became known on either channel
abbrev pub TellNothingOn : ℕ → List Pair → List Pair → Type 0
TellNothingOn k ticks past =
    TellNothing k (on_channel A ticks) (on_channel A past) × TellNothing k (on_channel B ticks) (on_channel B past)

-- where no burst runs and a message waits, its time isn't over in the n ticks from this one on
abbrev pub InTime : ChannelLister → ℕ → ℕ → Type 0
InTime lister now n = lister.running ≡ None → (w : Waiting) → lister.waiting ≡ Some w → now + n ≤ w.from + no_response

-- none of these ticks, the newest first, closes a message
abbrev pub CloseNone : List Sample → List Sample → Type 0
CloseNone [] past = Unit {0}
CloseNone (x ∷ xs) past = (closed_now LAG (x ∷ (xs ++ past)) ≡ []) × CloseNone xs past
