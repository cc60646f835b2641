use Rattle.std.proofs.Common.{◌++◌, ◌*◌, refl}
use Rattle.bus_capture.specs.declared.block.TheConstants.{EVEN}
use Rattle.bus_capture.proofs.Masks.{picked}
use Rattle.bus_capture.proofs.block.even.Goals as goal

pub returns-clause-lanes : goal.returns-clause-lanes
returns-clause-lanes c i h = picked (c.args.front ++ c.args.back) EVEN (λ i. 2 * i) refl tt i h
