use Rattle.std.proofs.Common.{◌≤◌, length, arith, inr, sym}
use Rattle.bus_capture.specs.Readings.{ticks_in, text_limit}
use Rattle.bus_monitor.proofs.WriterLaws.{few-ticks, ends-refused, ends-done, owed-whole}
use Rattle.bus_monitor.proofs.listing_writer.ListingWriter.finish.Goals as goal

pub finish-requires-clause-past : goal.finish-requires-clause-past
finish-requires-clause-past g c =
    let few : length (ticks_in c.requires.0) ≤ text_limit = few-ticks c.requires.0 in
    (ticks_in c.requires.0, c.requires.2.holds.lister, omega arith)

pub returns-in-Err-clause-ends : goal.returns-in-Err-clause-ends
returns-in-Err-clause-ends g c bytes first left end f =
    ends-refused g.L.Lister.lines g.L.Lister.whole left bytes first (g.K.Sink.held c.close.new.sink) c.in-Err.refusal
    (g.K.Sink.faults c.args.sink.now) (g.K.Sink.faults c.close.new.sink) c.close.result
    (inr (end, sym (c.in-Err.ensures bytes f.holds.reader)))
    (c.close.ensures.closes (g.L.Lister.lines (ticks_in bytes)) first f.holds.written)

pub returns-in-Ok-clause-ends : goal.returns-in-Ok-clause-ends
returns-in-Ok-clause-ends g c bytes first left end f =
    ends-done g.L.Lister.lines g.L.Lister.whole left bytes first (g.K.Sink.held c.close-in-Ok.new.sink) c.in-Ok.ticks
    (g.K.Sink.faults c.args.sink.now) (g.K.Sink.faults c.close-in-Ok.new.sink) c.close-in-Ok.result end (sym (c.in-Ok.ensures bytes f.holds.reader))
    (c.close-in-Ok.ensures.closes (g.L.Lister.whole (ticks_in bytes)) first
    (owed-whole (g.L.Lister.lines (ticks_in bytes)) (g.L.Lister.whole (ticks_in bytes)) c.args.self.now.text c.finish.new.text first
    (g.K.Sink.held c.args.sink.now) f.holds.written (c.finish.ensures (ticks_in bytes) f.holds.lister)))
