use Rattle.bus_monitor.specs.Parts.{part}
use Rattle.bus_monitor.proofs.PartLaws.{words-still}
use Rattle.bus_monitor.proofs.words.WordListerLister.pass.Goals as goal

pub returns-clause-lines : goal.returns-clause-lines
returns-clause-lines c past s = words-still (part c.args.block.now c.args.at c.pass.result) past (c.pass.ensures.tells past s)
