use Rattle.std.proofs.Common.{refl}
use Rattle.bus_recording.proofs.laws.refusals_stay.Goals as goal

pub returns : goal.returns
returns c = record { vcd = λ byte r is. rw is refl; rows = λ byte r is. rw is refl }
