use Rattle.bus_load.proofs.Verdicts.{long-starts, short-starts}
use Rattle.bus_load.proofs.laws.each_frame_starts_as_planned.Goals as goal

pub returns : goal.returns
returns _ = record { long = long-starts; short = short-starts }
