use Rattle.std.proofs.Common.{refl, arith}
use Rattle.bus_base.specs.declared.samples.Channel.TheVariants.{A, B}
use Rattle.bus_table.specs.Tables.{rows}
use Rattle.bus_table.proofs.table.TableLister.new.Goals as goal

pub returns : goal.returns
unfolding rows
returns g c = record { a = c.new.ensures A; b = c.new-2.ensures B; ticks = refl; count = refl; few = omega arith }
