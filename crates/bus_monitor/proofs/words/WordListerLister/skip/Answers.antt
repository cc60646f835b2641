use Rattle.bus_line.specs.declared.cutter.TheConstants.{LAG}
use Rattle.bus_monitor.proofs.QuietLaws.{words-quiet}
use Rattle.bus_monitor.proofs.words.WordListerLister.skip.Goals as goal

pub returns-clause-lines : goal.returns-clause-lines
returns-clause-lines c past s = words-quiet LAG c.args.ticks past
