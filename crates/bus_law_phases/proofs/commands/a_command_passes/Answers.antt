use Rattle.bus_law_phases.proofs.CommandPhase.{command-passes}
use Rattle.bus_law_phases.proofs.commands.a_command_passes.Goals as goal

pub returns : goal.returns
returns c = command-passes
