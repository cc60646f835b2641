use Rattle.std.proofs.Common.{◌∙◌}
use Rattle.bus_line.specs.declared.cutter.TheConstants.{LAG}
use Rattle.bus_controller.proofs.Wholes.{sending-drives}
use Rattle.bus_controller.proofs.sending.Sending.drive.Goals as goal

pub returns-clause-drives : goal.returns-clause-drives
returns-clause-drives c = λ course past st. c.next_sample.ensures ∙ sending-drives LAG course past c.args.self.now st
