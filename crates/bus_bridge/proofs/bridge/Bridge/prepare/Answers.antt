use Rattle.std.proofs.Common.{[], refl, ap, sym, subst, arith, ◌∙◌, ◌≡◌, ℕ}
use Rattle.bus_bridge.specs.Runs.{BridgeBegins}
use Rattle.bus_bridge.proofs.Ticks.{begins-with}
use Rattle.bus_bridge.proofs.bridge.Bridge.prepare.Goals as goal

pub returns : goal.returns
unfolding BridgeBegins
returns c = record {
  may = c.requires;
  first_bus = begins-with c.args.plan.now.first _ c.in_ok-first.ensures;
  second_bus = begins-with c.args.plan.now.second _ c.in_ok-second.ensures;
  a_is = refl;
  b_is = refl;
  pairs_are = c.copy.ensures;
  none_taken = c.in_ok-taken.ensures.items;
  none_loaded = refl;
  room = (let exact = c.in_ok-taken.ensures.exact in let most = c.most_deliveries.ensures _ _ _ _ c.in_ok-first.ensures in omega (arith, exact, most));
}
