use Rattle.std.proofs.Common.{refl}
use Rattle.bus_line.specs.Cutting.{running_slots}
use Rattle.bus_monitor.specs.Awaited.{awaited}
use Rattle.bus_monitor.specs.Progress.{waiting}
use Rattle.bus_monitor.proofs.channel_lister.ChannelLister.new.Goals as goal

pub returns : goal.returns
unfolding running_slots awaited waiting
returns c = record { cutter = c.new.ensures.stands 0; running = refl; slots = c.new-2.ensures; waiting = refl }
