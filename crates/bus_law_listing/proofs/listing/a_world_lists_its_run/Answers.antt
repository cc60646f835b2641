use Rattle.std.proofs.Common.{reverse}
use Rattle.bus_law_listing.proofs.Found.{listed-bursts}
use Rattle.bus_law_listing.proofs.Words.{listed-words}
use Rattle.bus_law_listing.proofs.listing.a_world_lists_its_run.Goals as goal

pub returns : goal.returns
returns c = λ k plan loads outside absent trace run small found rests. (
  listed-words k trace.shown (reverse run.bursts) found small rests,
  listed-bursts k trace.shown (reverse run.bursts) found,
)
