use Rattle.std.proofs.Common.{◌++◌, ◌*◌, ◌+◌, refl}
use Rattle.bus_capture.specs.declared.block.TheConstants.{ODD}
use Rattle.bus_capture.proofs.Masks.{picked}
use Rattle.bus_capture.proofs.block.odd.Goals as goal

pub returns-clause-lanes : goal.returns-clause-lanes
returns-clause-lanes c i h = picked (c.args.front ++ c.args.back) ODD (λ i. 2 * i + 1) refl tt i h
