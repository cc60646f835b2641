use Rattle.std.proofs.Common.{refl}
use Rattle.bus_recording.proofs.laws.white_space_is_all_the_same.Goals as goal

pub returns : goal.returns
returns c = record { reader = λ a b r is also. rw (is, also) refl; moment = λ a b r is also. rw (is, also) refl }
