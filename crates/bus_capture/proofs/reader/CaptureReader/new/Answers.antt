use Rattle.std.proofs.Common.{refl}
use Rattle.bus_capture.specs.Readings.{place_after, ticks_in}
use Rattle.bus_capture.proofs.reader.CaptureReader.new.Goals as goal

pub returns : goal.returns
unfolding place_after ticks_in
returns c = record { place = refl; ticks = refl; at = λ _. refl }
