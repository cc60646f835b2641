-- What happened in the world, in the terms of the message table: the blocks that terminals took, and the bursts.
use Rattle.std.specs.Prelude.{ℕ, List, [], ◌∷◌, ◌++◌, filter_map, length, Option, option_map}
use Rattle.bus_base.specs.declared.samples.Channel.{Channel}
use Rattle.bus_base.specs.declared.samples.Pair.{Pair}
use Rattle.bus_line.specs.Channels.{WholeBurst}
use Rattle.bus_formats.specs.Plans.{StationData, PlanData}
use Rattle.bus_model.specs.Memory.{TimedLoad}
use Rattle.bus_model.specs.Message.{Delivered}
use Rattle.bus_model.specs.Orders.{Taken}
use Rattle.bus_model.specs.Starts.{starts}
use Rattle.bus_model.specs.Strikes.{ShownBurst, burst_ticks}
use Rattle.bus_model.specs.Terminal.{standing_after, took_now}
use Rattle.bus_model.specs.Control.{OutsideTake, hearing_after}
use Rattle.bus_model.specs.WorldLog.{present_stations}

-- a block that a station's terminal took in a tick, of a burst on this channel
abbrev pub block_at : ℕ → Channel → StationData → Taken → Delivered
block_at tick channel station taken = record {
  address = station.terminal.address;
  delivery = record { tick = record { 0 = tick }; channel = channel; sub = taken.sub; broadcast = taken.broadcast; words = taken.words };
}

-- a burst of the table as it is found on the bus
abbrev pub burst_found : ShownBurst → WholeBurst
burst_found shown =
    record { channel = shown.channel; burst = record { first = shown.start; ticks = burst_ticks shown; slots = shown.slots } }

module _ (k : ℕ) (plan : PlanData) (loads : List TimedLoad) (outside : List OutsideTake) (absent : List ℕ) where
  -- the block that a station's terminal took in the newest tick, of a burst on the channel of its last order
  abbrev pub took_in : List Pair → ℕ → StationData → Option Delivered
  took_in past tick station =
      option_map (block_at tick (standing_after k station.terminal loads (hearing_after k station (starts plan station) loads outside past)).channel station)
      (took_now k station.terminal loads (hearing_after k station (starts plan station) loads outside past))

  -- the blocks that were taken in the newest tick, in the order of the stations
  abbrev pub blocks_in : List Pair → ℕ → List Delivered
  blocks_in past tick = filter_map (took_in past tick) (present_stations k plan loads outside absent)

  -- all blocks that were taken, in the order of time
  unfoldable pub blocks_found : List Pair → List Delivered
  blocks_found [] = []
  blocks_found (shown ∷ past) = blocks_found past ++ blocks_in (shown ∷ past) (length past)
