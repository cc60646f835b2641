use Rattle.std.proofs.Common.{inr, refl}
use Rattle.bus_monitor.proofs.WriterLaws.{owed-front}
use Rattle.bus_monitor.proofs.listing_writer.ListingWriter.close.Goals as goal

pub returns-in-Err-clause-closes : goal.returns-in-Err-clause-closes
returns-in-Err-clause-closes g c all first owed =
    inr (
      refl,
      owed-front all c.args.self.now.text first (g.K.Sink.held c.args.sink.now) (g.K.Sink.held c.write.new.sink) owed c.in-Err.ensures.held,
      c.in-Err.ensures.cause.failed,
    )
