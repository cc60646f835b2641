use Rattle.std.proofs.Common.{refl, sym, ◌∙◌}
use Rattle.bus_wire.proofs.IdleLaws.{neither, driven-since, idle-shows}
use Rattle.bus_wire.proofs.side.Side.shown_among.Goals as goal

-- a tick in which nothing can be shown
pub returns-then-is_idle : goal.returns-then-is_idle
returns-then-is_idle c = λ before st at beside.
    let (still, ended) = neither _ _ (sym c.is_idle.ensures ∙ c.if-is_idle.true) in
    idle-shows c.args.faults.now c.args.channel c.args.drives.now before c.args.self.now c.args.other c.args.tick c.requires.few st at beside
    (driven-since c.args.channel c.args.drives.now before c.args.self.now.driven c.args.tick _ refl st.driven_is at still) ended
