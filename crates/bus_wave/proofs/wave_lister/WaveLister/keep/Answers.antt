use Rattle.std.proofs.Common.{◌≤◌, ◌∷◌, suc, length, ap, sym, subst, arith}
use Rattle.std.specs.Prelude.{if◌then◌else◌}
use Rattle.bus_line.specs.Channels.{both_quiet, quiet_both}
use Rattle.bus_wave.specs.Drawers.{KeepsTicks}
use Rattle.bus_wave.specs.declared.wave_lister.WaveLister.{WaveLister}
use Rattle.bus_wave.proofs.ColumnLaws.{quiet-few}
use Rattle.bus_wave.proofs.DrawLaws.{kept-tick}
use Rattle.bus_wave.proofs.wave_lister.WaveLister.keep.Goals as goal

pub count-requires : goal.count-requires
count-requires c =
    let (past, k, short) = c.requires in
    let few : quiet_both past ≤ length past = quiet-few past in
    (rw k.ticks short, rw k.quiet (omega (arith, few, short)))

pub returns-clause-keeps : goal.returns-clause-keeps
returns-clause-keeps c past k told =
    subst (λ (l : WaveLister). KeepsTicks l (c.args.shown ∷ past)) (sym c.count.ensures) record {
      ticks = omega (arith, k.ticks);
      quiet = ap (λ q. if both_quiet c.args.shown then suc q else 0) k.quiet;
      line = kept-tick c.args.self.now.line c.begin.new.self c.args.self.now.ticks c.args.shown past k.ticks k.line c.begin.ensures told.0 told.1;
    }
