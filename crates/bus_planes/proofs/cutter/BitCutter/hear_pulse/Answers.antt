use Rattle.std.proofs.Common.{◌≡◌, ℕ, suc, ◌+◌, ◌-◌, ◌≤◌, ◌∷◌, length, refl, ap, ◌∙◌, arith}
use Rattle.bus_base.specs.declared.samples.Sample.{Sample}
use Rattle.bus_line.specs.Cutting.{newest_samples}
use Rattle.bus_line.specs.declared.cutter.Cut.TheVariants as cuts
use Rattle.bus_line.specs.declared.cutter.TheConstants.{LAG}
use Rattle.bus_planes.proofs.BitLaws.{heard-later, plus-later, newest-long}
use Rattle.bus_planes.proofs.CutLaws.{begins-cut, begins-stands, plain-cut, full-cut, crossed-cut, pulse-stands, heard-next, plus-next}
use Rattle.bus_planes.proofs.cutter.BitCutter.hear_pulse.Goals as goal

pub returns-then-not-runs-clause-cut : goal.returns-then-not-runs-clause-cut
returns-then-not-runs-clause-cut c past s = begins-cut LAG c.args.self.now past s c.args.sample (grind (arith, c.runs.ensures, c.if-not-runs.true)) c.requires.pulse

pub returns-then-not-runs-clause-stands : goal.returns-then-not-runs-clause-stands
returns-then-not-runs-clause-stands c past s =
    rw c.begin.ensures (begins-stands LAG c.args.self.now past s c.args.sample (grind (arith, c.runs.ensures, c.if-not-runs.true)) c.requires.pulse)

pub returns-then-place-lt39-clause-cut : goal.returns-then-place-lt39-clause-cut
returns-then-place-lt39-clause-cut c past s =
    plain-cut LAG c.args.self.now past s c.args.sample (c.args.self.now.rest + c.args.self.now.quiet) c.requires.pulse refl (omega arith) (omega arith)

pub returns-then-place-lt39-clause-stands : goal.returns-then-place-lt39-clause-stands
returns-then-place-lt39-clause-stands c past s =
    let c0 = c.args.self.now in
    let x : Sample = c.args.sample in
    let place : ℕ = c0.rest + c0.quiet in
    let running : c0.quiet ≤ LAG = omega arith in
    let e : suc place ≡ place + 1 = omega arith in
    pulse-stands LAG c0 past s x place c0.slots (place + 1) _ _ c.requires.pulse refl running (omega arith) (omega arith)
    (heard-next LAG c0 past s x place (place + 1) c.requires.pulse refl running (omega arith) e)
    (plus-next LAG c0 past s x place (place + 1) c.plus_bit.result refl running (omega arith) e c.plus_bit.ensures)

pub returns-then-place-eq39-clause-cut : goal.returns-then-place-eq39-clause-cut
returns-then-place-eq39-clause-cut c past s =
    let c0 = c.args.self.now in
    let x : Sample = c.args.sample in
    let place : ℕ = c0.rest + c0.quiet in
    let running : c0.quiet ≤ LAG = omega arith in
    let here = s.here running in
    let e : suc place ≡ 40 = omega arith in
    let value = c.read_slot-word.ensures.value (newest_samples 40 (x ∷ past)) (record {
      forty = newest-long 40 (x ∷ past) (omega (arith, here));
      heard = heard-next LAG c0 past s x place 40 c.requires.pulse refl running (omega arith) e;
      plus = plus-next LAG c0 past s x place 40 c.plus_bit.result refl running (omega arith) e c.plus_bit.ensures;
    }) in
    ap (λ w. cuts.Slot c0.slots w) value ∙ full-cut LAG c0 past s x place c.requires.pulse refl running (omega arith)

pub returns-then-place-eq39-clause-stands : goal.returns-then-place-eq39-clause-stands
returns-then-place-eq39-clause-stands c past s =
    let c0 = c.args.self.now in
    let x : Sample = c.args.sample in
    let place : ℕ = c0.rest + c0.quiet in
    let running : c0.quiet ≤ LAG = omega arith in
    let here = s.here running in
    let e : suc place ≡ place - 39 + 40 = omega arith in
    let within : place - 39 + 40 ≤ length (x ∷ past) = omega (arith, here) in
    pulse-stands LAG c0 past s x place (c0.slots + 1) (place - 39) _ _ c.requires.pulse refl running (omega arith) (omega (arith, s.short))
    (heard-later (place - 39) (x ∷ past) _ within (heard-next LAG c0 past s x place (place - 39 + 40) c.requires.pulse refl running (omega arith) e))
    (plus-later (place - 39) (x ∷ past) _ within (plus-next LAG c0 past s x place (place - 39 + 40) c.plus_bit.result refl running (omega arith) e c.plus_bit.ensures))

pub returns-else-place-eq39-clause-cut : goal.returns-else-place-eq39-clause-cut
returns-else-place-eq39-clause-cut c past s =
    crossed-cut LAG c.args.self.now past s c.args.sample (c.args.self.now.rest + c.args.self.now.quiet) (omega arith) c.requires.pulse refl (omega arith) (omega arith)

pub returns-else-place-eq39-clause-stands : goal.returns-else-place-eq39-clause-stands
returns-else-place-eq39-clause-stands c past s =
    let c0 = c.args.self.now in
    let x : Sample = c.args.sample in
    let place : ℕ = c0.rest + c0.quiet in
    let running : c0.quiet ≤ LAG = omega arith in
    let here = s.here running in
    let e : suc place ≡ place - 39 + 40 = omega arith in
    let within : place - 39 + 40 ≤ length (x ∷ past) = omega (arith, here) in
    pulse-stands LAG c0 past s x place (c0.slots + 1) (place - 39) _ _ c.requires.pulse refl running (omega arith) (omega (arith, s.short))
    (heard-later (place - 39) (x ∷ past) _ within (heard-next LAG c0 past s x place (place - 39 + 40) c.requires.pulse refl running (omega arith) e))
    (plus-later (place - 39) (x ∷ past) _ within (plus-next LAG c0 past s x place (place - 39 + 40) c.plus_bit.result refl running (omega arith) e c.plus_bit.ensures))
