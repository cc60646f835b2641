use Rattle.bus_line.proofs.CutLaws.{stands-quiet, quiet-alone-rests}
use Rattle.bus_line.proofs.laws.quiet_ticks_change_nothing.Goals as goal

pub returns : goal.returns
returns c k cutter past n stands quiet = stands-quiet k cutter past n (quiet-alone-rests k past quiet) stands
