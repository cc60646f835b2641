use Rattle.std.proofs.Common.{◌∷◌, sym, subst}
use Rattle.bus_monitor.proofs.WriterLaws.{owed-whole}
use Rattle.bus_monitor.proofs.TickLaws.{lists-more}
use Rattle.bus_monitor.proofs.listing_writer.ListingWriter.list_tick.Goals as goal

pub list-requires-clause-past : goal.list-requires-clause-past
list-requires-clause-past g c = (c.requires.0, c.requires.2.lister, c.requires.3)

pub list-requires-clause-room : goal.list-requires-clause-room
list-requires-clause-room g c = c.requires.2.room

pub returns-clause-listed : goal.returns-clause-listed
returns-clause-listed g c past first l =
    lists-more g.L.Lister.stands g.L.Lister.lines first (g.K.Sink.held c.write_long.new.sink) c.write_long.new.self (c.args.shown ∷ past) c.write_long.result
    (subst (λ lister. g.L.Lister.stands lister (c.args.shown ∷ past)) (sym c.write_long.ensures.keeps.1) (c.list.ensures.stands past l.lister))
    (c.write_long.ensures.owed (g.L.Lister.lines (c.args.shown ∷ past)) first
    (owed-whole (g.L.Lister.lines past) (g.L.Lister.lines (c.args.shown ∷ past)) c.args.self.now.text c.list.new.text first (g.K.Sink.held c.args.sink.now) l.written
    (c.list.ensures.lines past l.lister)))
