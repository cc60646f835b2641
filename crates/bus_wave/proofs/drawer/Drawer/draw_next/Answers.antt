use Rattle.std.proofs.Common.{◌-◌, arith}
use Rattle.bus_wave.proofs.StillLaws.{passed-still, text-still, drew-next}
use Rattle.bus_wave.proofs.drawer.Drawer.draw_next.Goals as goal

pub returns-then-self-end-clause-drew : goal.returns-then-self-end-clause-drew
returns-then-self-end-clause-drew c known cols last =
    let passed = passed-still known c.args.line.now c.args.self.now c.pass.new.self c.pass.ensures.later
    (λ t l e. cols t l (omega (arith, e, c.pass.ensures.within))) c.pass.ensures.still last c.pass.ensures.last in
    drew-next known c.args.line.now c.args.self.now c.pass.new.self c.draw.new.self c.args.text.now c.draw.new.text c.pass.ensures.later
    (cols c.pass.new.self.tick c.pass.ensures.later (omega (arith, c.if-self-end.true))) passed c.draw.ensures.text c.draw.ensures.drawn

pub returns-else-self-end-clause-drew : goal.returns-else-self-end-clause-drew
returns-else-self-end-clause-drew c known cols last =
    let passed = passed-still known c.args.line.now c.args.self.now c.pass.new.self c.pass.ensures.later
    (λ t l e. cols t l (omega (arith, e, c.pass.ensures.within))) c.pass.ensures.still last c.pass.ensures.last in (
      passed.0,
      text-still c.args.text.now known c.args.self.now.tick (c.pass.new.self.tick - c.args.self.now.tick) passed.1,
    )
