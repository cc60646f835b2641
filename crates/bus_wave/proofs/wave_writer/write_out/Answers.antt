use Rattle.std.proofs.Common.{arith}
use Rattle.bus_monitor.proofs.WriterLaws.{wrote, owed-front}
use Rattle.bus_wave.proofs.wave_writer.write_out.Goals as goal

pub returns-in-Ok-clause-owed : goal.returns-in-Ok-clause-owed
returns-in-Ok-clause-owed g c all first owed =
    rw c.write.ensures.text
    (wrote all c.args.text.now first (g.K.Sink.held c.args.sink.now) (g.K.Sink.held c.write.new.sink) owed c.in-Ok.ensures.held, omega arith)

pub returns-in-Err-clause-owed : goal.returns-in-Err-clause-owed
returns-in-Err-clause-owed g c all first owed =
    owed-front all c.args.text.now first (g.K.Sink.held c.args.sink.now) (g.K.Sink.held c.write.new.sink) owed c.in-Err.ensures.held
