use Rattle.std.proofs.Common.{◌∙◌, sym}
use Rattle.bus_load.proofs.Quiet.{quiet-is}
use Rattle.bus_load.proofs.silences.longest_quiet.Goals as goal

pub returns-clause-value : goal.returns-clause-value
returns-clause-value c = c.quiet_over_frames.ensures.value ∙ sym (quiet-is c.args.station.now c.requires.repeat)
