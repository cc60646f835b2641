use Rattle.std.proofs.Common.{◌*◌, arith}
use Rattle.bus_run.proofs.prepare.monitor_of.Goals as goal

pub returns : goal.returns
returns c =
    let words = c.in_ok-words.ensures.capacity in
    let bursts = c.in_ok-bursts.ensures.capacity in
    c.new.ensures (120 * c.args.most) (3 * c.args.most) (omega (arith, words)) (omega (arith, bursts))
