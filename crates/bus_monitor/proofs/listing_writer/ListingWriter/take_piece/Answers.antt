use Rattle.std.proofs.Common.{◌≡◌, ◌<◌, ◌≤◌, ◌+◌, ℕ, List, ◌++◌, length, reverse, take, arith}
use Rattle.std.specs.Prelude.{Option, Ok}
use Rattle.std.proofs.lemmas.List.{take_all}
use Rattle.bus_monitor.specs.Scribes.{Follows, TookSome}
use Rattle.bus_monitor.proofs.PieceLaws.{some-after, stop-after}
use Rattle.bus_monitor.proofs.listing_writer.ListingWriter.take_piece.Goals as goal

pub take_some-requires-clause-follows : goal.take_some-requires-clause-follows
take_some-requires-clause-follows g c =
    (reverse (take c.bytes.at c.args.piece.now) ++ c.requires.0, c.requires.1, c.bytes.invariant.0 c.requires.0 c.requires.1 c.requires.2)

pub overflow_add-at : goal.overflow_add-at
overflow_add-at g c =
    let within : c.bytes.at < length c.args.piece.now = omega arith in
    let took = some-after g.L.Lister.stands g.L.Lister.lines c.take_some.new.self c.args.piece.now c.requires.0 c.bytes.at c.in-Ok.count c.requires.1
    (g.K.Sink.held c.take_some.new.sink) within
    (c.in-Ok.ensures.took (reverse (take c.bytes.at c.args.piece.now) ++ c.requires.0) c.requires.1 (c.bytes.invariant.0 c.requires.0 c.requires.1 c.requires.2)) in
    let inside : c.bytes.at + c.in-Ok.count ≤ length c.args.piece.now = took.1 in
    omega (arith, inside)

pub bytes-smaller : goal.bytes-smaller
bytes-smaller g c =
    let within : c.bytes.at < length c.args.piece.now = omega arith in
    let took = some-after g.L.Lister.stands g.L.Lister.lines c.take_some.new.self c.args.piece.now c.requires.0 c.bytes.at c.in-Ok.count c.requires.1
    (g.K.Sink.held c.take_some.new.sink) within
    (c.in-Ok.ensures.took (reverse (take c.bytes.at c.args.piece.now) ++ c.requires.0) c.requires.1 (c.bytes.invariant.0 c.requires.0 c.requires.1 c.requires.2)) in
    let inside : c.bytes.at + c.in-Ok.count ≤ length c.args.piece.now = took.1 in
    let some : 0 < c.bytes.at + c.in-Ok.count = took.0 in
    let counted : 0 < c.in-Ok.count =
    (c.in-Ok.ensures.took (reverse (take c.bytes.at c.args.piece.now) ++ c.requires.0) c.requires.1 (c.bytes.invariant.0 c.requires.0 c.requires.1 c.requires.2)).0 in
    omega (arith, inside, counted, within)

pub bytes-preserved : goal.bytes-preserved
bytes-preserved g c =
    let within : c.bytes.at < length c.args.piece.now = omega arith in
    let took : (bytes : List ℕ) (first : Option (List ℕ)) → Follows g.L.Lister.stands g.L.Lister.lines c.args.self.now bytes first (g.K.Sink.held c.args.sink.now) →
    TookSome g.L.Lister.stands g.L.Lister.lines c.take_some.new.self c.args.piece.now bytes first (g.K.Sink.held c.take_some.new.sink) (Ok (c.bytes.at + c.in-Ok.count)) =
    λ bytes first f.
    some-after g.L.Lister.stands g.L.Lister.lines c.take_some.new.self c.args.piece.now bytes c.bytes.at c.in-Ok.count first
    (g.K.Sink.held c.take_some.new.sink) within
    (c.in-Ok.ensures.took (reverse (take c.bytes.at c.args.piece.now) ++ bytes) first (c.bytes.invariant.0 bytes first f)) in (
      λ bytes first f. (took bytes first f).2,
      omega (arith, c.take_some.ensures.cause.later, c.bytes.invariant.1),
      (took c.requires.0 c.requires.1 c.requires.2).1,
    )

pub returns-in-Err-clause-took : goal.returns-in-Err-clause-took
returns-in-Err-clause-took g c bytes first f =
    stop-after g.L.Lister.stands g.L.Lister.lines c.take_some.new.self c.args.piece.now bytes c.bytes.at first
    (g.K.Sink.held c.take_some.new.sink) c.in-Err.stop
    (c.in-Err.ensures.took (reverse (take c.bytes.at c.args.piece.now) ++ bytes) first (c.bytes.invariant.0 bytes first f))

pub returns-clause-took : goal.returns-clause-took
returns-clause-took g c bytes first f =
    let all : take c.bytes.at c.args.piece.now ≡ c.args.piece.now = take_all c.bytes.at c.args.piece.now (omega arith) in
    let follows = rw all at (c.bytes.invariant.0 bytes first f) in
    c.write_out.ensures.took (reverse c.args.piece.now ++ bytes) first follows.holds
