use Rattle.std.proofs.Common.{sym, [], arith, subst}
use Rattle.bus_wire.specs.WireStands.{WireStands}
use Rattle.bus_run.proofs.WireLaws.{clashes-none}
use Rattle.bus_run.proofs.driven_wire.DrivenWire.new.Goals as goal

pub returns : goal.returns
returns c plan faults all = record {
  wire = subst (λ fs. WireStands fs c.new.result []) (sym faults) c.new.ensures;
  drives = sym all;
  silent = c.requires.silent;
  few = (let most = c.requires.few in omega (arith, all, most));
  clashes_are = sym (clashes-none plan.faults);
}
