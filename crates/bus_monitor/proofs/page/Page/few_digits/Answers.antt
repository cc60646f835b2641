use Rattle.std.proofs.Common.{◌++◌, ap, ◌∙◌, arith}
use Rattle.bus_monitor.proofs.DigitLaws.{one, two, three, four}
use Rattle.bus_monitor.proofs.page.Page.few_digits.Goals as goal

pub returns-then-n-lt10-clause-text : goal.returns-then-n-lt10-clause-text
returns-then-n-lt10-clause-text c =
    c.add.ensures.text ∙ ap (λ ds. c.args.self.now ++ ds) (one c.args.n c.ones.result c.if-n-lt10.true c.ones.ensures)

pub returns-then-n-lt100-clause-text : goal.returns-then-n-lt100-clause-text
returns-then-n-lt100-clause-text c =
    c.add-then-n-lt100.ensures.text
    ∙ ap (λ ds. c.args.self.now ++ ds)
    (two c.args.n c.tens.result c.ones-then-n-lt100.result (omega arith) c.if-n-lt100.true c.tens.ensures c.ones-then-n-lt100.ensures)

pub returns-then-n-lt1000-clause-text : goal.returns-then-n-lt1000-clause-text
returns-then-n-lt1000-clause-text c =
    c.add-then-n-lt1000.ensures.text
    ∙ ap (λ ds. c.args.self.now ++ ds)
    (three c.args.n c.ones-then-n-lt1000.result c.tens-then-n-lt1000.result c.ones-then-n-lt1000-2.result (omega arith) c.if-n-lt1000.true
    c.ones-then-n-lt1000.ensures c.tens-then-n-lt1000.ensures c.ones-then-n-lt1000-2.ensures)

pub returns-else-n-lt1000-clause-text : goal.returns-else-n-lt1000-clause-text
returns-else-n-lt1000-clause-text c =
    c.four_digits.ensures.text ∙ ap (λ ds. c.args.self.now ++ ds) (four c.args.n (omega arith) c.requires.few)
