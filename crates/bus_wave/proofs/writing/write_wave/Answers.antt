use Rattle.bus_wave.proofs.ReadLaws.{kept-here, wave-drawn, wave-cause}
use Rattle.bus_wave.proofs.writing.write_wave.Goals as goal

pub read_all-ending-requires-clause-nothing : goal.read_all-ending-requires-clause-nothing
read_all-ending-requires-clause-nothing g c = c.new-writer.ensures (g.K.Sink.held c.args.sink.now)

pub finish-requires : goal.finish-requires
finish-requires g c fine =
    kept-here (g.S.Source.left c.args.source.now) (g.S.Source.left c.read_all-ending.new.source) (g.K.Sink.held c.args.sink.now)
    (g.K.Sink.held c.read_all-ending.new.sink) c.read_all-ending.new.writer c.read_all-ending.result c.read_all-ending.ensures.read fine

pub returns-clause-drawn : goal.returns-clause-drawn
returns-clause-drawn g c =
    wave-drawn (g.S.Source.left c.args.source.now) (g.S.Source.left c.read_all-ending.new.source) (g.K.Sink.held c.args.sink.now)
    (g.K.Sink.held c.read_all-ending.new.sink) (g.K.Sink.held c.finish.new.sink) c.read_all-ending.new.writer c.read_all-ending.result c.finish.result
    (g.K.Sink.faults c.read_all-ending.new.sink) (g.K.Sink.faults c.finish.new.sink) c.read_all-ending.ensures.read
    record { fault = c.finish.ensures.fault; closes = c.finish.ensures.closes; later = c.finish.ensures.later }

pub returns-clause-cause : goal.returns-clause-cause
returns-clause-cause g c =
    wave-cause (g.S.Source.left c.args.source.now) (g.S.Source.left c.read_all-ending.new.source) (g.K.Sink.held c.args.sink.now)
    (g.K.Sink.held c.read_all-ending.new.sink) (g.K.Sink.held c.finish.new.sink) (g.S.Source.faults c.args.source.now)
    (g.S.Source.faults c.read_all-ending.new.source) (g.K.Sink.faults c.args.sink.now) (g.K.Sink.faults c.read_all-ending.new.sink)
    (g.K.Sink.faults c.finish.new.sink) c.read_all-ending.new.writer c.read_all-ending.result c.finish.result c.read_all-ending.ensures.read
    record { fault = c.finish.ensures.fault; closes = c.finish.ensures.closes; later = c.finish.ensures.later } c.read_all-ending.ensures.cause
