use Rattle.bus_wire.proofs.SideLaws.{fits-at, side-follows}
use Rattle.bus_wire.proofs.side.Side.follow.Goals as goal

pub follow-after-requires-clause-strikes : goal.follow-after-requires-clause-strikes
follow-after-requires-clause-strikes c = fits-at c.args.faults.now c.args.self.now c.args.station _ c.requires.station c.requires.fits

pub returns : goal.returns
returns c =
    side-follows c.args.faults.now c.args.station c.args.commands c.args.driven c.args.self.now _ _ c.follow-after.result c.extra_since-self.result
    c.requires.station c.requires.fits.all c.follow-after.ensures c.extra_since-self.ensures
