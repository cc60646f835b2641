use Rattle.bus_monitor.proofs.list.list_from.Goals as goal

pub read_all-listing-requires-clause-nothing : goal.read_all-listing-requires-clause-nothing
read_all-listing-requires-clause-nothing g c = c.new-writer.ensures (g.K.Sink.held c.args.sink.now)
