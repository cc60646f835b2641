use Rattle.std.proofs.Common.{[]}
use Rattle.bus_line.specs.declared.cutter.TheConstants.{LAG}
use Rattle.bus_law_whole.proofs.EachWorld.{each-world}
use Rattle.bus_law_whole.proofs.whole.each_world_does_what_its_run_says.Goals as goal

pub returns : goal.returns
returns c = λ plan accepted. each-world plan accepted (c.a_run_comes_to_an_end.ensures.ends LAG [] plan)
