use Rattle.std.proofs.Common.{ap}
use Rattle.bus_model.specs.Course.{gives}
use Rattle.bus_law_control.proofs.Keeping.{yielded-on}
use Rattle.bus_law_control.proofs.Passing.{closes-so, yielded-hears, gives-control}
use Rattle.bus_law_control.proofs.doubts.a_yielding_station_hears_the_tick.Goals as goal

pub returns : goal.returns
returns _ = record {
  hears = λ k station starts loads outside x past begun e holds closes yielded. (
    yielded-hears k station starts loads outside x past begun e holds closes yielded,
    closes-so k station starts loads outside x past begun e holds closes,
    gives-control k station starts loads outside x past begun e holds closes (ap gives yielded),
  );
  goes_on = yielded-on;
}
