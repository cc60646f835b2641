use Rattle.std.proofs.Common.{◌<◌, ◌≤◌, ◌+◌, ◌++◌, length, reverse, take, arith}
use Rattle.bus_monitor.proofs.PieceLaws.{some-after, stop-after}
use Rattle.bus_monitor.proofs.listing_writer.ListingWriter.take_some.Goals as goal

pub returns-then-quiet-piece-clause-took : goal.returns-then-quiet-piece-clause-took
returns-then-quiet-piece-clause-took g c bytes first f =
    (omega (arith, c.requires.some), c.skip_quiet-quiet.ensures.within, c.skip_quiet-quiet.ensures.follows bytes first (g.K.Sink.held c.args.sink.now) f)

pub take_next-requires-clause-follows : goal.take_next-requires-clause-follows
take_next-requires-clause-follows g c = (
  reverse (take c.skip_quiet-quiet.result c.args.piece.now) ++ c.requires.follows.0,
  c.requires.follows.1,
  c.skip_quiet-quiet.ensures.follows c.requires.follows.0 c.requires.follows.1 (g.K.Sink.held c.args.sink.now) c.requires.follows.2,
)

pub overflow_add-result : goal.overflow_add-result
overflow_add-result g c =
    let bytes = c.requires.follows.0 in
    let first = c.requires.follows.1 in
    let within : c.skip_quiet-quiet.result < length c.args.piece.now = omega arith in
    let took = some-after g.L.Lister.stands g.L.Lister.lines c.take_next.new.self c.args.piece.now bytes c.skip_quiet-quiet.result c.in-Ok.count first
    (g.K.Sink.held c.take_next.new.sink) within
    (c.in-Ok.ensures.took (reverse (take c.skip_quiet-quiet.result c.args.piece.now) ++ bytes) first
    (c.skip_quiet-quiet.ensures.follows bytes first (g.K.Sink.held c.args.sink.now) c.requires.follows.2)) in
    let inside : c.skip_quiet-quiet.result + c.in-Ok.count ≤ length c.args.piece.now = took.1 in
    omega (arith, inside)

pub returns-in-Ok-clause-took : goal.returns-in-Ok-clause-took
returns-in-Ok-clause-took g c bytes first f =
    let within : c.skip_quiet-quiet.result < length c.args.piece.now = omega arith in
    some-after g.L.Lister.stands g.L.Lister.lines c.take_next.new.self c.args.piece.now bytes c.skip_quiet-quiet.result c.in-Ok.count first
    (g.K.Sink.held c.take_next.new.sink) within
    (c.in-Ok.ensures.took (reverse (take c.skip_quiet-quiet.result c.args.piece.now) ++ bytes) first
    (c.skip_quiet-quiet.ensures.follows bytes first (g.K.Sink.held c.args.sink.now) f))

pub returns-in-Err-clause-took : goal.returns-in-Err-clause-took
returns-in-Err-clause-took g c bytes first f =
    stop-after g.L.Lister.stands g.L.Lister.lines c.take_next.new.self c.args.piece.now bytes c.skip_quiet-quiet.result first
    (g.K.Sink.held c.take_next.new.sink) c.in-Err.stop
    (c.in-Err.ensures.took (reverse (take c.skip_quiet-quiet.result c.args.piece.now) ++ bytes) first
    (c.skip_quiet-quiet.ensures.follows bytes first (g.K.Sink.held c.args.sink.now) f))
