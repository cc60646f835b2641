use Rattle.std.proofs.Common.{◌≡◌, ◌≤◌, ◌-◌, ℕ, List, ◌++◌, reverse, take}
use Rattle.std.specs.Prelude.{Option}
use Rattle.bus_base.specs.declared.samples.Pair.{Pair}
use Rattle.bus_capture.specs.Blocks.{ticks_of}
use Rattle.bus_monitor.specs.Scribes.{Lists}
use Rattle.bus_monitor.proofs.listing_writer.ListingWriter.list_block.Given as goal

abbrev pub invariant-ticks : goal.invariant-ticks
invariant-ticks g l =
    (l.self.reader ≡ l.initial.self.reader)
    × ((past : List Pair) (first : Option (List ℕ)) → Lists g.L.Lister.stands g.L.Lister.lines l.initial.self past first (g.K.Sink.held l.initial.sink) →
    Lists g.L.Lister.stands g.L.Lister.lines l.self (reverse (take l.at (ticks_of l.block)) ++ past) first (g.K.Sink.held l.sink))
    × (g.K.Sink.faults l.initial.sink ≤ g.K.Sink.faults l.sink)
    × (l.at ≤ l.block.ticks)

abbrev pub decreases-ticks : goal.decreases-ticks
decreases-ticks g l = l.block.ticks - l.at
