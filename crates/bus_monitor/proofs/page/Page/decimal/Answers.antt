use Rattle.std.proofs.Common.{◌/◌, ◌%◌, arith, refl}
use Rattle.bus_monitor.proofs.DigitLaws.{appends-both, rest-and-four}
use Rattle.bus_monitor.proofs.page.Page.decimal.Goals as goal

pub returns-then-n-lt100000000-clause-text : goal.returns-then-n-lt100000000-clause-text
returns-then-n-lt100000000-clause-text c =
    appends-both _ _ _ _ _ _ c.few_digits-then-n-lt100000000.ensures.text c.four_digits.ensures.text
    (rest-and-four c.args.n (c.args.n / 10000) (c.args.n % 10000) (omega arith) (omega arith) refl refl)
