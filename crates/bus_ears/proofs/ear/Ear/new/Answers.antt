use Rattle.std.proofs.Common.{refl}
use Rattle.bus_line.specs.declared.cutter.TheConstants.{LAG}
use Rattle.bus_line.proofs.CutLaws.{rests-alone}
use Rattle.bus_line.proofs.CollectLaws.{running-off}
use Rattle.bus_line.specs.Past.{quiet_ticks}
use Rattle.bus_ears.specs.declared.ear.TheConstants.{MOST_SLOTS}
use Rattle.bus_ears.proofs.Slots.{holds-none}
use Rattle.bus_ears.proofs.ear.Ear.new.Goals as goal

pub returns : goal.returns
returns c = λ own n. record {
  slots = rw (running-off LAG (quiet_ticks n) (rests-alone LAG n), c.new.ensures) (holds-none MOST_SLOTS own);
  addressed_is = refl;
  before = tt;
  ignores = refl;
}
