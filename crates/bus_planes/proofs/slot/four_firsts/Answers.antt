use Rattle.std.proofs.Common.{◌+◌, ◌*◌, arith}
use Rattle.bus_line.specs.Spelling.{is_one, number_of}
use Rattle.bus_line.proofs.Numbers.{number_below}
use Rattle.bus_planes.proofs.FirstHalves.{four-found}
use Rattle.bus_planes.proofs.slot.four_firsts.Goals as goal

pub returns-clause-few : goal.returns-clause-few
unfolding number_of
returns-clause-few c = omega (arith, four-found c.args.plus c.args.place, number_below (λ i. is_one c.args.plus (c.args.place + 2 * i)) 4)

pub returns-clause-value : goal.returns-clause-value
unfolding number_of
returns-clause-value c = four-found c.args.plus c.args.place
