use Rattle.std.proofs.Common.{sym, subst, ◌≤◌}
use Rattle.std.specs.Prelude.{IfSome}
use Rattle.bus_bridge.proofs.Numbers.{number-low}
use Rattle.bus_bridge.proofs.pairings.number_within.Goals as goal

pub returns : goal.returns
returns c = record {
  value = c.number_up_to.ensures;
  within = subst (λ o. IfSome o (λ n. n ≤ c.args.most)) (sym c.number_up_to.ensures) (number-low c.args.most c.args.text.now);
}
