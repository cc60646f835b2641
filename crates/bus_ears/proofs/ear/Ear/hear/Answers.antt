use Rattle.std.proofs.Common.{◌∷◌, arith}
use Rattle.bus_line.specs.declared.cutter.TheConstants.{LAG}
use Rattle.bus_line.proofs.CutNow.{cut-tells}
use Rattle.bus_ears.specs.declared.ear.TheConstants.{MOST_SLOTS}
use Rattle.bus_ears.proofs.EarLaws.{ear-stands, ear-tells, end-fits}
use Rattle.bus_ears.proofs.ear.Ear.hear.Goals as goal

pub follow-ended-requires : goal.follow-ended-requires
follow-ended-requires c =
    let (heard, sent, addressed, st, is, here, small) = c.requires in
    rw (is, ← here) (end-fits LAG c.args.sample heard _ (omega (arith, here, small)) (cut-tells LAG (c.args.sample ∷ heard)))

pub returns-clause-stands : goal.returns-clause-stands
returns-clause-stands c = λ heard sent addressed st is here.
    ear-stands LAG MOST_SLOTS c.args.own c.args.self.now c.follow-ended.new.self c.args.sample heard sent addressed
    c.sending_after-self.result c.args.begins c.is_some-ignored.result c.args.now c.args.cut (omega arith) st here c.is_some-ignored.ensures
    is c.follow-ended.ensures.after c.sending_after-self.ensures

pub returns-clause-tells : goal.returns-clause-tells
returns-clause-tells c = λ heard sent addressed st is here.
    ear-tells LAG MOST_SLOTS c.args.own c.args.self.now c.follow-ended.new.self c.args.sample heard sent addressed
    c.is_some-ignored.result c.follow-ended.result c.args.now c.args.cut st here c.is_some-ignored.ensures
    is c.follow-ended.ensures.after c.follow-ended.ensures.told
