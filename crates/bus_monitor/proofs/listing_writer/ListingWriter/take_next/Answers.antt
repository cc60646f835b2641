use Rattle.std.proofs.Common.{arith}
use Rattle.bus_monitor.proofs.listing_writer.ListingWriter.take_next.Goals as goal

pub take_slowly-requires-clause-follows : goal.take_slowly-requires-clause-follows
take_slowly-requires-clause-follows g c =
    let took = c.in-Ok-eq0.ensures.took c.requires.follows.0 c.requires.follows.1 c.requires.follows.2 in
    (c.requires.follows.0, c.requires.follows.1, rw c.in-Ok-eq0.field-0-test at took.1)

pub returns-in-Ok-eq0-clause-took : goal.returns-in-Ok-eq0-clause-took
returns-in-Ok-eq0-clause-took g c bytes first f =
    let took = c.in-Ok-eq0.ensures.took bytes first f in
    c.take_slowly.ensures.took bytes first (rw c.in-Ok-eq0.field-0-test at took.1)

pub returns-in-Ok-clause-took : goal.returns-in-Ok-clause-took
returns-in-Ok-clause-took g c bytes first f =
    let took = c.in-Ok.ensures.took bytes first f in
    (grind (arith, c.in-Ok.count-test.1), took.0, took.1)
