use Rattle.bus_base.specs.declared.samples.Channel.TheVariants.{A, B}
use Rattle.bus_terminal.proofs.Quiet.{quiet-heard}
use Rattle.bus_terminal.proofs.common.Ears.new.Goals as goal

pub returns : goal.returns
returns c = λ own n memory. record {
  on_a = rw (quiet-heard A n) (c.new.ensures own n);
  on_b = rw (quiet-heard B n) (c.new-2.ensures own n);
}
