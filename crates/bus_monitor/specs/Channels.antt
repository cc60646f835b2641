-- For which pasts of a channel its lister of messages stands.
use Rattle.std.specs.Prelude.{◌≡◌, Bool, ◌&&◌, List, take, is_none}
use Rattle.bus_base.specs.declared.samples.Sample.{Sample}
use Rattle.bus_line.specs.Cutting.{running_slots}
use Rattle.bus_planes.specs.Cutting.{BitCutterStands}
use Rattle.bus_line.specs.declared.cutter.TheConstants.{LAG}
use Rattle.bus_monitor.specs.Listings.{running_on}
use Rattle.bus_monitor.specs.Awaited.{awaited}
use Rattle.bus_monitor.specs.declared.channel_lister.ChannelLister.{ChannelLister}

-- it keeps the burst that runs, by its first tick and its first 34 slots, and the message that waits
pub record ChannelListerStands (lister : ChannelLister) (past : List Sample) : Type 0 where
  pub cutter : BitCutterStands LAG lister.cutter past
  pub running : lister.running ≡ running_on LAG past
  pub slots : lister.slots.items ≡ take 34 (running_slots LAG past)
  pub waiting : lister.waiting ≡ awaited LAG past

-- no burst runs, and no message waits
abbrev pub is_idle_on : ChannelLister → Bool
is_idle_on lister = is_none lister.running && is_none lister.waiting
