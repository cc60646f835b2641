use Rattle.std.proofs.Common.{length, ap}
use Rattle.bus_capture.proofs.Fronts.{zeros-after}
use Rattle.bus_capture.proofs.block.padded.Goals as goal

pub returns-clause-end : goal.returns-clause-end
returns-clause-end c = zeros-after c.copy_from_slice.new.self _ (ap length c.copy_from_slice.ensures.after) c.requires
