use Rattle.std.proofs.Common.{ap, sym}
use Rattle.std.specs.Prelude.{count_by, is_some}
use Rattle.bus_line.specs.declared.cutter.TheConstants.{LAG}
use Rattle.bus_line.specs.Past.{quiet_ticks}
use Rattle.bus_line.proofs.CutLaws.{rests-alone}
use Rattle.bus_line.proofs.CollectLaws.{running-off}
use Rattle.bus_run.proofs.burst_lister.Ear.new.Goals as goal

pub returns : goal.returns
returns c = record { valid_is = ap (count_by is_some) (sym (running-off LAG (quiet_ticks 0) (rests-alone LAG 0))) }
