use Rattle.std.proofs.Common.{refl, sym, ◌∙◌}
use Rattle.bus_wire.proofs.Unstruck.{unstruck}
use Rattle.bus_wire.proofs.strikes.Strikes.is_cut_over.Goals as goal

pub returns-then-is_empty : goal.returns-then-is_empty
returns-then-is_empty c = rw (unstruck c.args.faults.now c.args.self.now c.requires (sym c.is_empty.ensures ∙ c.if-is_empty.true)) refl
