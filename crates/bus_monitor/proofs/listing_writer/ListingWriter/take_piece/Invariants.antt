use Rattle.std.proofs.Common.{ℕ, ◌≤◌, ◌-◌, List, ◌++◌, length, reverse, take}
use Rattle.std.specs.Prelude.{Option}
use Rattle.bus_monitor.specs.Scribes.{Follows}
use Rattle.bus_monitor.proofs.listing_writer.ListingWriter.take_piece.Given as goal

abbrev pub invariant-bytes : goal.invariant-bytes
invariant-bytes g l =
    ((bytes : List ℕ) (first : Option (List ℕ)) → Follows g.L.Lister.stands g.L.Lister.lines l.initial.self bytes first (g.K.Sink.held l.initial.sink) →
    Follows g.L.Lister.stands g.L.Lister.lines l.self (reverse (take l.at l.piece) ++ bytes) first (g.K.Sink.held l.sink))
    × (g.K.Sink.faults l.initial.sink ≤ g.K.Sink.faults l.sink) × (l.at ≤ length l.piece)

abbrev pub decreases-bytes : goal.decreases-bytes
decreases-bytes g l = length l.piece - l.at
