use Rattle.std.proofs.Common.{◌≡◌, ◌∙◌, refl, sym, arith}
use Rattle.bus_wave.specs.Delays.{cell_at}
use Rattle.bus_wave.specs.Levels.{code_of}
use Rattle.bus_wave.proofs.StillLaws.{one-more}
use Rattle.bus_wave.proofs.drawer.Drawer.pass.Goals as goal

pub ticks-init : goal.ticks-init
ticks-init c = (omega arith, omega (arith, c.requires.order), refl, λ t l e. absurd (omega (arith, l, e)))

pub ticks-preserved : goal.ticks-preserved
ticks-preserved c =
    let inv = c.ticks.invariant in (
      omega (arith, inv.0),
      omega arith,
      inv.2,
      one-more (λ t. cell_at c.args.line.now t ≡ code_of c.args.self.now.last) c.args.self.now.tick c.ticks.self.tick inv.3
          (sym c.cell.ensures ∙ c.if-cell-before.false ∙ c.code_of-before.ensures.code),
    )
