use Rattle.std.proofs.Common.{◌≡◌, ◌≤◌, ℕ, List, ◌++◌, reverse, take}
use Rattle.std.specs.Prelude.{Option}
use Rattle.bus_base.specs.declared.samples.Pair.{Pair}
use Rattle.bus_monitor.specs.Scribes.{Lists}
use Rattle.bus_monitor.proofs.listing_writer.ListingWriter.list_ticks.Given as goal

abbrev pub invariant-loop-shown : goal.invariant-loop-shown
invariant-loop-shown g l =
    (l.self.reader ≡ l.initial.self.reader)
    × ((past : List Pair) (first : Option (List ℕ)) → Lists g.L.Lister.stands g.L.Lister.lines l.initial.self past first (g.K.Sink.held l.initial.sink) →
    Lists g.L.Lister.stands g.L.Lister.lines l.self (reverse (take l.shown-index l.ticks) ++ past) first (g.K.Sink.held l.sink))
    × (g.K.Sink.faults l.initial.sink ≤ g.K.Sink.faults l.sink)
