use Rattle.bus_monitor.proofs.IdleLaws.{are-idle, messages-skip, messages-quiet}
use Rattle.bus_monitor.proofs.messages.MessageListerLister.skip.Goals as goal

pub returns-clause-stands : goal.returns-clause-stands
returns-clause-stands c past s = messages-skip c.args.self.now c.args.ticks past (are-idle c.args.self.now c.requires.idle) s

pub returns-clause-lines : goal.returns-clause-lines
returns-clause-lines c past s = messages-quiet c.args.self.now c.args.ticks past (are-idle c.args.self.now c.requires.idle) s
