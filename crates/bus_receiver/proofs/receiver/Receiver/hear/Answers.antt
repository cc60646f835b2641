use Rattle.std.proofs.Common.{arith}
use Rattle.bus_base.specs.declared.samples.Channel.TheVariants.{A, B}
use Rattle.bus_line.specs.Channels.{on_channel}
use Rattle.bus_receiver.specs.Moments.{ReceiverStands}
use Rattle.bus_receiver.proofs.Hearing.{length-on, quiet_both-le}
use Rattle.bus_receiver.proofs.receiver.Receiver.hear.Goals as goal

pub hear-cuts-requires : goal.hear-cuts-requires
unfolding ReceiverStands
hear-cuts-requires c =
    let (past, st, here, few) = c.requires in
    (on_channel A past, on_channel B past, st.cutters, omega (arith, few, length-on A past), omega (arith, few, length-on B past))

pub quiet_after-self-requires : goal.quiet_after-self-requires
unfolding ReceiverStands
quiet_after-self-requires c =
    let (past, st, here, few) = c.requires in
    omega (arith, quiet_both-le past, st.quiet, few)

pub returns-clause-stands : goal.returns-clause-stands
unfolding ReceiverStands
returns-clause-stands c = λ past st.
    let (known, st_known, here, few) = c.requires in
    record {
      cutters = c.hear-cuts.ensures.stands (on_channel A past) (on_channel B past) st.cutters;
      next = omega (arith, here, st_known.next, st.next);
      quiet = c.quiet_after-self.ensures past st.quiet;
    }
