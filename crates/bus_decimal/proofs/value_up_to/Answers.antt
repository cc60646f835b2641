use Rattle.bus_decimal.proofs.Values.{too-great-from}
use Rattle.bus_decimal.proofs.value_up_to.Goals as goal

pub returns-then-value-most : goal.returns-then-value-most
returns-then-value-most c = too-great-from _ c.loop-digit.value _ c.args.digits.now c.loop-digit.digit-index _ _ c.loop-digit-test.true c.loop-digit.invariant.value c.from.ensures c.if-value-most.true
