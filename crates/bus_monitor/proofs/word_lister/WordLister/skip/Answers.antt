use Rattle.bus_monitor.proofs.QuietLaws.{lister-skips}
use Rattle.bus_monitor.proofs.word_lister.WordLister.skip.Goals as goal

pub returns : goal.returns
returns c past s = lister-skips c.args.self.now c.args.ticks past c.requires.idle s
