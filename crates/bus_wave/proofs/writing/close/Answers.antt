use Rattle.std.proofs.Common.{inl, inr, refl, ◌∙◌, arith}
use Rattle.bus_monitor.proofs.WriterLaws.{owed-all, owed-front}
use Rattle.bus_wave.specs.Written.{whole_wave}
use Rattle.bus_wave.proofs.WriteLaws.{owed-end, end-drawn}
use Rattle.bus_wave.proofs.writing.close.Goals as goal

pub draw_end-requires-clause-time : goal.draw_end-requires-clause-time
draw_end-requires-clause-time g c =
    let (past, ends, short) = c.requires.ends in
    let ticks = ends.ticks in
    omega (arith, short, ticks, c.ticks-ticks.ensures)

pub returns-in-Ok-clause-closes : goal.returns-in-Ok-clause-closes
returns-in-Ok-clause-closes g c past first e owed = inl (
  refl,
  owed-all (whole_wave c.args.ending past) c.add_comment.new.text first (g.K.Sink.held c.args.sink.now) (g.K.Sink.held c.write.new.sink)
      (owed-end past c.args.ending c.args.writer.now.text c.draw_end.new.text c.add_comment.new.text first (g.K.Sink.held c.args.sink.now) owed
      (end-drawn past c.args.writer.now.hearing.lister c.args.writer.now.text c.draw_end.new.text c.ticks-ticks.result e (c.ticks-ticks.ensures ∙ e.ticks)
      c.draw_end.ensures.text) c.add_comment.ensures)
      c.in-Ok.ensures.held,
)

pub returns-in-Err-clause-closes : goal.returns-in-Err-clause-closes
returns-in-Err-clause-closes g c past first e owed = inr (
  refl,
  owed-front (whole_wave c.args.ending past) c.add_comment.new.text first (g.K.Sink.held c.args.sink.now) (g.K.Sink.held c.write.new.sink)
      (owed-end past c.args.ending c.args.writer.now.text c.draw_end.new.text c.add_comment.new.text first (g.K.Sink.held c.args.sink.now) owed
      (end-drawn past c.args.writer.now.hearing.lister c.args.writer.now.text c.draw_end.new.text c.ticks-ticks.result e (c.ticks-ticks.ensures ∙ e.ticks)
      c.draw_end.ensures.text) c.add_comment.ensures)
      c.in-Err.ensures.held,
  c.in-Err.ensures.cause.failed,
)
