use Rattle.bus_monitor.proofs.AwaitedLaws.{closed-end, awaited-end, closed-time, awaited-time}
use Rattle.bus_monitor.proofs.laws.one_message_a_channel_is_kept.Goals as goal

pub returns : goal.returns
returns c = record { ends = closed-end; waits = awaited-end; time = closed-time; keeps = awaited-time }
