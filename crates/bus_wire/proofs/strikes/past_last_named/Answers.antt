use Rattle.std.proofs.Common.{sym, ◌∙◌, arith}
use Rattle.bus_wire.proofs.Named.{other-hit-last}
use Rattle.bus_wire.proofs.strikes.past_last_named.Goals as goal

pub loop-end-preserved : goal.loop-end-preserved
loop-end-preserved c = (
  omega arith,
  other-hit-last c.args.attempt c.args.part c.args.faults.now c.loop-end.end c.index-faults-end.result (omega arith) (omega arith) c.index-faults-end.is
      (sym c.is_named.ensures ∙ c.if-not-is_named.true) ∙ c.loop-end.invariant.1,
)
