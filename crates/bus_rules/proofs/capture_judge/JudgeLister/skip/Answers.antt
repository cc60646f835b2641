use Rattle.bus_base.specs.Samples.{quiet_pairs}
use Rattle.bus_rules.proofs.SkipLaws.{judge-skips, known-quiet}
use Rattle.bus_rules.proofs.PairLaws.{none-lines}
use Rattle.bus_rules.proofs.capture_judge.JudgeLister.skip.Goals as goal

pub returns-clause-stands : goal.returns-clause-stands
returns-clause-stands c past s = judge-skips c.args.self.now c.args.ticks past c.requires.idle s

pub returns-clause-lines : goal.returns-clause-lines
returns-clause-lines c past s = none-lines (quiet_pairs c.args.ticks) past (known-quiet c.args.self.now c.args.ticks past c.requires.idle s)
