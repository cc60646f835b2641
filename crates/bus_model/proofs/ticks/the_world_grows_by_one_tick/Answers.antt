use Rattle.bus_model.proofs.OneTick.{world-tick, shown-long, driven-long}
use Rattle.bus_model.proofs.ticks.the_world_grows_by_one_tick.Goals as goal

pub returns : goal.returns
returns c = record { shows = world-tick; shown_so_long = shown-long; driven_so_long = driven-long }
