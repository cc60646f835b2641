use Rattle.std.proofs.Common.{◌≡◌, ℕ, suc, ◌+◌, ◌-◌, ◌*◌, ◌∷◌, refl, ◌∙◌, arith}
use Rattle.bus_line.specs.Past.{first_tick}
use Rattle.bus_line.specs.declared.cutter.TheConstants.{LAG}
use Rattle.bus_planes.specs.Cutting.{BitCutterStands}
use Rattle.bus_planes.proofs.CutLaws.{heard-next, plus-next}
use Rattle.bus_planes.proofs.SlotSamples.{EndsSlot, ends-slot, slot-shown}
use Rattle.bus_planes.proofs.cutter.BitCutter.slot_with.Goals as goal

pub returns : goal.returns
unfolding BitCutterStands
returns c past i word s cut =
    let c0 = c.args.self.now in
    let x = c.args.sample in
    let place : ℕ = c0.rest + c0.quiet in
    let e : EndsSlot LAG c0 x i = ends-slot LAG c0 past x i word (omega arith) s cut in
    let full = e.full in
    let slot = e.slot in
    let here = s.here e.running in
    let next : suc place ≡ place - 39 + 40 = omega (arith, full) in
    c.samples_of.ensures
    ∙ slot-shown (place - 39) (first_tick LAG past + 40 * i) (x ∷ past) _ _ (omega (arith, here, full, slot))
    (heard-next LAG c0 past s x place (place - 39 + 40) e.pulse refl e.running (omega arith) next)
    (plus-next LAG c0 past s x place (place - 39 + 40) c.plus_bit.result refl e.running (omega arith) next c.plus_bit.ensures)
