use Rattle.std.proofs.Common.{arith}
use Rattle.bus_capture.proofs.Fronts.{AreMasks, front-samples, front-ticks, masks-from, whole-fits, few-ones}
use Rattle.bus_capture.proofs.block.Block.of.Goals as goal

masks : (c : goal.After-trailing_ones) → AreMasks c.args.bytes.now c.mask-plus_a.result c.mask.result c.mask-3.result c.mask-plus_b.result c.mask-2.result c.mask-4.result
masks c =
    masks-from c.args.bytes.now c.apart.result.0 c.apart.result.1 c.mask-plus_a.result c.mask.result c.mask-3.result c.mask-plus_b.result c.mask-2.result c.mask-4.result
    (omega arith) c.apart.ensures.a c.apart.ensures.b c.mask-plus_a.ensures c.mask.ensures c.mask-3.ensures c.mask-plus_b.ensures c.mask-2.ensures c.mask-4.ensures

pub returns-clause-samples : goal.returns-clause-samples
returns-clause-samples c =
    front-samples c.args.bytes.now c.mask-plus_a.result c.mask.result c.mask-3.result c.mask-plus_b.result c.mask-2.result c.mask-4.result (masks c) c.trailing_ones.result
    c.trailing_ones.ensures (few-ones c.trailing_ones.result _ c.trailing_ones.ensures)
    (whole-fits c.mask-plus_a.result c.mask.result c.mask-3.result c.mask-plus_b.result c.mask-2.result c.mask-4.result (omega arith) (omega arith) (omega arith))

pub returns-clause-ticks : goal.returns-clause-ticks
returns-clause-ticks c =
    front-ticks c.args.bytes.now c.mask-plus_a.result c.mask.result c.mask-3.result c.mask-plus_b.result c.mask-2.result c.mask-4.result (masks c) c.trailing_ones.result
    (few-ones c.trailing_ones.result _ c.trailing_ones.ensures)
