use Rattle.std.proofs.Common.{[], refl}
use Rattle.bus_monitor.proofs.WriterLaws.{wrote-follows, front-written}
use Rattle.bus_monitor.proofs.listing_writer.ListingWriter.write_out.Goals as goal

pub returns-in-Ok-clause-took : goal.returns-in-Ok-clause-took
returns-in-Ok-clause-took g c bytes first h =
    rw c.write.ensures.text
    (wrote-follows g.L.Lister.stands g.L.Lister.lines first (g.K.Sink.held c.args.sink.now) (g.K.Sink.held c.write.new.sink) c.args.self.now bytes h c.in-Ok.ensures.held)

pub returns-in-Err-clause-took : goal.returns-in-Err-clause-took
returns-in-Err-clause-took g c bytes first h = record {
  later = [];
  before = bytes;
  parts = refl;
  front = front-written g.L.Lister.lines c.args.self.now.text bytes first (g.K.Sink.held c.args.sink.now) (g.K.Sink.held c.write.new.sink) h.written c.in-Err.ensures.held;
}
