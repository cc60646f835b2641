use Rattle.std.proofs.Common.{refl}
use Rattle.bus_line.specs.Cutting.{running_slots}
use Rattle.bus_rules.proofs.channel_judge.ChannelJudge.new.Goals as goal

pub returns : goal.returns
unfolding running_slots
returns c = record { messages = c.new.ensures; damaged = refl }
