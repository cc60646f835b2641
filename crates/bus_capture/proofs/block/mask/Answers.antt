use Rattle.std.proofs.Common.{ℕ, eqb, false, map, ap, ◌∙◌, arith, w8}
use Rattle.std.proofs.lemmas.Simd.{bitmask_splat}
use Rattle.std.proofs.lemmas.List.{get_or-map}
use Rattle.bus_capture.specs.Blocks.{has_bit}
use Rattle.bus_capture.proofs.Masks.{has-mask}
use Rattle.bus_capture.proofs.block.mask.Goals as goal

pub returns : goal.returns
returns c i h =
    let p = λ (x : ℕ). eqb x c.args.byte in
    ap (λ n. has_bit n i) (bitmask_splat w8 eqb c.args.lanes 64 c.args.byte c.fits-lanes.0 (omega arith))
    ∙ has-mask (map p c.args.lanes) i ∙ get_or-map p c.args.lanes i 0 false (omega (arith, h, c.fits-lanes.0))
