use Rattle.std.proofs.Common.{◌∙◌, arith}
use Rattle.std.proofs.lemmas.List.{length-set}
use Rattle.bus_run.proofs.NamedLaws.{named-next, named-all}
use Rattle.bus_run.proofs.kept.named_in.Goals as goal

pub loop-address-preserved : goal.loop-address-preserved
loop-address-preserved c =
    let whole = c.loop-address.invariant.whole in
    record {
      whole = length-set c.loop-address.all c.loop-address.address c.named.result ∙ whole;
      filled = named-next c.args.stations.now c.loop-address.all c.loop-address.address c.named.result (omega (arith, whole)) c.named.ensures
          c.loop-address.invariant.filled;
    }

pub returns : goal.returns
returns c = named-all c.args.stations.now c.loop-address.all c.loop-address.address (omega arith) c.loop-address.invariant.whole c.loop-address.invariant.filled
