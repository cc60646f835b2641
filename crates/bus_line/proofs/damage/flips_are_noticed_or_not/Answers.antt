use Rattle.bus_line.proofs.Noticed.{noticed}
use Rattle.bus_line.proofs.Struck.{unnoticed}
use Rattle.bus_line.proofs.damage.flips_are_noticed_or_not.Goals as goal

pub returns : goal.returns
returns c = record { noticed = noticed; unnoticed = unnoticed }
