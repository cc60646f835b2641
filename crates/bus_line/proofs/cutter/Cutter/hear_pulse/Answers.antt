use Rattle.std.proofs.Common.{◌≡◌, ◌+◌, ◌-◌, ◌%◌, refl, arith}
use Rattle.bus_line.specs.declared.cutter.TheConstants.{LAG}
use Rattle.bus_line.proofs.CutLaws.{begins-cut, begins-stands, plain-cut, full-cut, crossed-cut, pulse-stands}
use Rattle.bus_line.proofs.cutter.Cutter.hear_pulse.Goals as goal

pub returns-then-not-runs-clause-cut : goal.returns-then-not-runs-clause-cut
returns-then-not-runs-clause-cut c past s = begins-cut LAG c.args.self.now past s c.args.sample (grind (arith, c.runs.ensures, c.if-not-runs.true)) c.requires.pulse

pub returns-then-not-runs-clause-stands : goal.returns-then-not-runs-clause-stands
returns-then-not-runs-clause-stands c past s =
    rw c.begin.ensures (begins-stands LAG c.args.self.now past s c.args.sample (grind (arith, c.runs.ensures, c.if-not-runs.true)) c.requires.pulse)

pub returns-then-place-lt39-clause-cut : goal.returns-then-place-lt39-clause-cut
returns-then-place-lt39-clause-cut c past s =
    plain-cut LAG c.args.self.now past s c.args.sample (c.args.self.now.rest + c.args.self.now.quiet) c.requires.pulse refl (omega arith) (omega arith)

pub returns-then-place-lt39-clause-stands : goal.returns-then-place-lt39-clause-stands
returns-then-place-lt39-clause-stands c past s =
    let at : c.from.result ≡ (c.args.self.now.rest + c.args.self.now.quiet) % 40 = omega arith in
    rw at (pulse-stands LAG c.args.self.now past s c.args.sample (c.args.self.now.rest + c.args.self.now.quiet) c.args.self.now.slots
    (c.args.self.now.rest + c.args.self.now.quiet + 1) c.requires.pulse refl (omega arith) (omega arith) (omega arith))

pub returns-then-place-eq39-clause-cut : goal.returns-then-place-eq39-clause-cut
returns-then-place-eq39-clause-cut c past s =
    let at : c.from.result ≡ c.args.self.now.rest + c.args.self.now.quiet = omega arith in
    let word = rw at at c.read_slot-word.ensures.value in
    rw word (full-cut LAG c.args.self.now past s c.args.sample (c.args.self.now.rest + c.args.self.now.quiet) c.requires.pulse refl (omega arith) (omega arith))

pub returns-then-place-eq39-clause-stands : goal.returns-then-place-eq39-clause-stands
returns-then-place-eq39-clause-stands c past s =
    let at : c.from.result ≡ (c.args.self.now.rest + c.args.self.now.quiet) % 40 = omega arith in
    rw at (pulse-stands LAG c.args.self.now past s c.args.sample (c.args.self.now.rest + c.args.self.now.quiet) (c.args.self.now.slots + 1)
    (c.args.self.now.rest + c.args.self.now.quiet - 39) c.requires.pulse refl (omega arith) (omega arith) (omega arith))

pub returns-else-place-eq39-clause-cut : goal.returns-else-place-eq39-clause-cut
returns-else-place-eq39-clause-cut c past s =
    crossed-cut LAG c.args.self.now past s c.args.sample (c.args.self.now.rest + c.args.self.now.quiet) (omega arith) c.requires.pulse refl (omega arith) (omega arith)

pub returns-else-place-eq39-clause-stands : goal.returns-else-place-eq39-clause-stands
returns-else-place-eq39-clause-stands c past s =
    let at : c.from.result ≡ (c.args.self.now.rest + c.args.self.now.quiet) % 40 = omega arith in
    rw at (pulse-stands LAG c.args.self.now past s c.args.sample (c.args.self.now.rest + c.args.self.now.quiet) (c.args.self.now.slots + 1)
    (c.args.self.now.rest + c.args.self.now.quiet - 39) c.requires.pulse refl (omega arith) (omega arith) (omega arith))
