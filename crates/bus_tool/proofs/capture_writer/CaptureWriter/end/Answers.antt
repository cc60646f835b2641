use Rattle.std.proofs.Common.{arith}
use Rattle.bus_tool.proofs.WrittenLines.{few-begun}
use Rattle.bus_tool.proofs.capture_writer.CaptureWriter.end.Goals as goal

pub write_line-requires-clause-few : goal.write_line-requires-clause-few
write_line-requires-clause-few g c = let few = few-begun c.args.self.now c.requires.0 c.requires.1 c.requires.2 in omega (arith, few)
