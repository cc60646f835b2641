use Rattle.std.proofs.Common.{refl}
use Rattle.bus_tool.proofs.WrittenLines.{nothing-begun}
use Rattle.bus_tool.proofs.capture_writer.CaptureWriter.new.Goals as goal

pub returns : goal.returns
returns c = nothing-begun _ refl refl
