use Rattle.bus_base.specs.declared.samples.Channel.TheVariants.{A, B}
use Rattle.bus_model.specs.Hearing.{heard_on}
use Rattle.std.proofs.Common.{arith}
use Rattle.bus_terminal.proofs.Heard.{length-heard}
use Rattle.bus_terminal.proofs.terminal.Terminal.cut.Goals as goal

pub hear-requires : goal.hear-requires
hear-requires c =
    let (ticks, st, few) = c.requires in
    (heard_on A ticks, heard_on B ticks, st, omega (arith, few, length-heard A ticks), omega (arith, few, length-heard B ticks))
