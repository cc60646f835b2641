use Rattle.std.proofs.Common.{◌+◌, ◌*◌, get_or, ap, ◌∙◌, arith}
use Rattle.std.proofs.lemmas.List.{length-take}
use Rattle.bus_capture.proofs.Fronts.{halves, half-long, other-long}
use Rattle.bus_capture.proofs.block.apart.Goals as goal

pub even-requires : goal.even-requires
even-requires c = (half-long c.args.bytes.now c.requires, other-long c.args.bytes.now c.requires)

pub odd-requires : goal.odd-requires
odd-requires c = (half-long c.args.bytes.now c.requires, other-long c.args.bytes.now c.requires)

pub returns-clause-a : goal.returns-clause-a
returns-clause-a c i h = c.even.ensures.lanes i h ∙ ap (λ xs. get_or xs (2 * i) 0) (halves c.args.bytes.now c.requires)

pub returns-clause-b : goal.returns-clause-b
returns-clause-b c i h = c.odd.ensures.lanes i h ∙ ap (λ xs. get_or xs (2 * i + 1) 0) (halves c.args.bytes.now c.requires)

pub slice_bounds-front-end : goal.slice_bounds-front-end
slice_bounds-front-end c = omega (arith, c.requires, length-take 64 c.args.bytes.now)

pub bounds-bytes-0 : goal.bounds-bytes-0
bounds-bytes-0 c = omega (arith, c.requires, length-take 64 c.args.bytes.now)
