use Rattle.std.proofs.Common.{◌∷◌, ◌∙◌, lit≤}
use Rattle.bus_line.specs.declared.cutter.TheConstants.{LAG}
use Rattle.bus_line.proofs.CutNow.{cut-tells}
use Rattle.bus_run.proofs.BurstLaws.{end-fits, ear-tells, ear-keeps}
use Rattle.bus_run.proofs.burst_lister.Ear.hear.Goals as goal

pub follow-requires : goal.follow-requires
follow-requires c =
    let (sample, past, st, is, here, small) = c.requires in
    rw is (end-fits LAG c.args.tick sample past _ here small (cut-tells LAG (sample ∷ past)))

pub returns-clause-told : goal.returns-clause-told
returns-clause-told c sample past st is here =
    c.follow.ensures.told ∙ ear-tells LAG c.args.channel c.args.self.now sample past c.args.tick c.args.cut here st is

pub returns-clause-stands : goal.returns-clause-stands
returns-clause-stands c sample past st is here =
    let (_, _, _, _, _, small) = c.requires in
    rw c.follow.ensures.after (ear-keeps LAG c.args.self.now sample past c.args.cut (lit≤ tt) (rw here small) st is)
