use Rattle.std.proofs.Common.{arith, length-take, length-drop}
use Rattle.bus_outside.proofs.Writes.{appends_keeps, front_grows}
use Rattle.bus_outside.proofs.write_sink.write_whole.Goals as goal
use Rattle.bus_outside.proofs.write_sink.write_whole.Goals.{in-Ok, in-Err}

pub tries-preserved : goal.tries-preserved
tries-preserved g c = elim c.match-write.branch [
  | in-Ok w ↦ record {
    within = grind (arith, length-take, length-drop, w.in-Ok.ensures.bound, w.at-is, c.tries.invariant.within);
    added = rw w.at-is (front_grows _ _ _ c.tries.at w.in-Ok.count c.args.piece.now c.tries.invariant.added w.in-Ok.ensures.bytes);
  }
  | in-Err w ↦ record {
    within = rw w.at-is c.tries.invariant.within;
    added = rw w.at-is (appends_keeps _ _ _ _ c.tries.invariant.added w.in-Err.ensures.bytes);
  }
]
