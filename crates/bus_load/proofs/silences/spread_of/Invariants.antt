use Rattle.std.proofs.Common.{◌≡◌, ◌≤◌, take, drop}
use Rattle.std.specs.Prelude.{sum_by, IfSome}
use Rattle.bus_load.specs.Silence.{no_frames, spread_over}
use Rattle.bus_load.proofs.silences.spread_of.Given as goal

abbrev pub invariant-loop-frame : goal.invariant-loop-frame
invariant-loop-frame l = record {
  ticks : l.ticks ≡ sum_by (λ f. f.ticks) (take l.frame-index l.frames);
  spread : spread_over l.spread l.ticks (drop l.frame-index l.frames) ≡ spread_over no_frames 0 l.frames;
  first : IfSome l.spread.first (λ before. before ≤ 2048000000);
  longest : l.spread.longest ≤ 2048000000;
}
