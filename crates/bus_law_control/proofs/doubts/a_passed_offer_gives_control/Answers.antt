use Rattle.std.proofs.Common.{ap}
use Rattle.bus_model.specs.Course.{gives}
use Rattle.bus_law_control.proofs.Passing.{closes-so, passed-hears, gives-control}
use Rattle.bus_law_control.proofs.doubts.a_passed_offer_gives_control.Goals as goal

pub returns : goal.returns
returns _ = λ k station starts loads outside x past begun e holds closes passed. (
  passed-hears k station starts loads outside x past begun e holds closes passed,
  closes-so k station starts loads outside x past begun e holds closes,
  gives-control k station starts loads outside x past begun e holds closes (ap gives passed),
)
