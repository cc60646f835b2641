use Rattle.std.proofs.Common.{length}
use Rattle.bus_table.proofs.flaw.+bit_flaw.Given as goal

-- each call has two samples fewer
abbrev pub decreases-bit_flaw : goal.decreases-bit_flaw
decreases-bit_flaw l = length l.bits.now
