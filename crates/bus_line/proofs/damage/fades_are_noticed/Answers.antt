use Rattle.bus_line.proofs.Noticed.{fades_noticed}
use Rattle.bus_line.proofs.damage.fades_are_noticed.Goals as goal

pub returns : goal.returns
returns c = fades_noticed
