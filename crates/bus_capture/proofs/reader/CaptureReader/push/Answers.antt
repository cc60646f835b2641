use Rattle.std.proofs.Common.{refl}
use Rattle.bus_capture.specs.Readings.{place_after}
use Rattle.bus_capture.proofs.ReaderLaws.{reader-after, step-same, place-step}
use Rattle.bus_capture.proofs.reader.CaptureReader.push.Goals as goal

pub returns-clause-stands : goal.returns-clause-stands
returns-clause-stands c bytes s = rw c.take.ensures.state (reader-after c.args.self.now c.args.byte bytes s)

pub returns-clause-answer : goal.returns-clause-answer
returns-clause-answer c bytes s =
    rw (c.take.ensures.answer, step-same c.args.self.now c.args.byte bytes (place_after bytes) refl s, place-step c.args.byte bytes) refl
