use Rattle.std.proofs.Common.{◌+◌, drop, arith}
use Rattle.bus_lines.proofs.TakingLaws.{taking_goes_on, taking_halts, taking_ends, taking_next, taking_last}
use Rattle.bus_lines.proofs.writing.take_piece.Goals as goal

pub loop-byte-preserved : goal.loop-byte-preserved
loop-byte-preserved g c = (
  taking_goes_on _ c.args.piece.now (drop (c.loop-byte.byte-index + 1) c.args.piece.now) c.args.converter.now c.loop-byte.converter c.take.new.self
      c.args.text.now c.loop-byte.text c.take.new.text (g.K.Sink.held c.args.sink.now) (g.K.Sink.held c.loop-byte.sink) (g.K.Sink.held c.take.new.sink)
      (taking_next c.args.piece.now c.loop-byte.byte-index _ c.args.converter.now c.loop-byte.converter c.args.text.now c.loop-byte.text
      (g.K.Sink.held c.args.sink.now) (g.K.Sink.held c.loop-byte.sink) c.loop-byte-test.true c.loop-byte.invariant.0) c.in-Ok.ensures.took,
  c.take.ensures.room,
  omega (arith, c.loop-byte.invariant.2, c.in-Ok.ensures.cause),
)

pub returns-in-Err-clause-took : goal.returns-in-Err-clause-took
returns-in-Err-clause-took g c =
    taking_halts _ c.args.piece.now (drop (c.loop-byte.byte-index + 1) c.args.piece.now) c.args.converter.now c.loop-byte.converter c.take.new.self
    c.args.text.now c.loop-byte.text c.take.new.text (g.K.Sink.held c.args.sink.now) (g.K.Sink.held c.loop-byte.sink) (g.K.Sink.held c.take.new.sink) c.in-Err.halt
    (taking_next c.args.piece.now c.loop-byte.byte-index _ c.args.converter.now c.loop-byte.converter c.args.text.now c.loop-byte.text
    (g.K.Sink.held c.args.sink.now) (g.K.Sink.held c.loop-byte.sink) c.loop-byte-test.true c.loop-byte.invariant.0) c.in-Err.ensures.took

pub returns-clause-took : goal.returns-clause-took
returns-clause-took g c =
    taking_ends c.args.piece.now c.args.converter.now c.loop-byte.converter c.args.text.now c.loop-byte.text (g.K.Sink.held c.args.sink.now)
    (g.K.Sink.held c.loop-byte.sink)
    (taking_last c.args.piece.now c.loop-byte.byte-index c.args.converter.now c.loop-byte.converter c.args.text.now c.loop-byte.text
    (g.K.Sink.held c.args.sink.now) (g.K.Sink.held c.loop-byte.sink) (omega (arith, c.loop-byte-test.false)) c.loop-byte.invariant.0)
