use Rattle.bus_law_parts.proofs.BrokenOff.{quiet-faded}
use Rattle.bus_law_parts.proofs.broken_off.a_shown_sample_is_quiet_where_it_is_faded.Goals as goal

pub returns : goal.returns
returns c = quiet-faded
