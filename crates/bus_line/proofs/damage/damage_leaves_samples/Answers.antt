use Rattle.bus_line.proofs.Damaged.{some_flipped, some_faded}
use Rattle.bus_line.proofs.damage.damage_leaves_samples.Goals as goal

pub returns : goal.returns
returns c = record { flips = some_flipped; fades = some_faded }
