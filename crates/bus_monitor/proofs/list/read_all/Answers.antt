use Rattle.std.proofs.Common.{◌≡◌, ◌≤◌, ◌<◌, [], length, reverse, take, arith}
use Rattle.std.proofs.KnownBytes.{Consumes-nil}
use Rattle.bus_monitor.proofs.ListLaws.{left-some, room-some, piece-more, piece-last}
use Rattle.bus_monitor.proofs.list.read_all.Goals as goal

pub pieces-init : goal.pieces-init
pieces-init g c = ([], Consumes-nil (g.S.Source.left c.args.source.now), omega arith, c.requires.nothing, omega arith, omega arith)

pub read_piece-requires-clause-some : goal.read_piece-requires-clause-some
read_piece-requires-clause-some g c =
    let inv = c.pieces.invariant in
    let whole : length c.pieces.piece ≡ 32768 = omega (arith, c.pieces.auto.piece, c.requires.piece) in
    (room-some c.pieces.piece c.pieces.left c.min-room.result whole (left-some inv.0 c.pieces.left inv.2 inv.3.holds.going) c.min-room.ensures).0

pub overflow_sub-left : goal.overflow_sub-left
overflow_sub-left g c =
    let inv = c.pieces.invariant in
    let whole : length c.pieces.piece ≡ 32768 = omega (arith, c.pieces.auto.piece, c.requires.piece) in
    let room : length (take c.min-room.result c.pieces.piece) ≤ c.pieces.left =
    (room-some c.pieces.piece c.pieces.left c.min-room.result whole (left-some inv.0 c.pieces.left inv.2 inv.3.holds.going) c.min-room.ensures).1 in
    let read = c.in-Ok.ensures.read (reverse inv.0) (g.K.Sink.held c.args.sink.now) inv.3 in
    omega (arith, read.fits, room)

pub pieces-smaller : goal.pieces-smaller
pieces-smaller g c =
    let inv = c.pieces.invariant in
    let some : 0 < c.pieces.left = left-some inv.0 c.pieces.left inv.2 inv.3.holds.going in
    let read = c.in-Ok.ensures.read (reverse inv.0) (g.K.Sink.held c.args.sink.now) inv.3 in
    omega (arith, read.some, some)

pub pieces-preserved : goal.pieces-preserved
pieces-preserved g c =
    let inv = c.pieces.invariant in
    let whole : length c.pieces.piece ≡ 32768 = omega (arith, c.pieces.auto.piece, c.requires.piece) in
    let room : length (take c.min-room.result c.pieces.piece) ≤ c.pieces.left =
    (room-some c.pieces.piece c.pieces.left c.min-room.result whole (left-some inv.0 c.pieces.left inv.2 inv.3.holds.going) c.min-room.ensures).1 in
    let more = piece-more g.L.Lister.stands g.L.Lister.lines g.L.Lister.whole (g.K.Sink.held c.args.sink.now) (g.K.Sink.held c.read_piece.new.sink) c.read_piece.new.self
    (g.S.Source.left c.args.source.now) (g.S.Source.left c.pieces.source) (g.S.Source.left c.read_piece.new.source) inv.0 c.pieces.left
    (length (take c.min-room.result c.pieces.piece)) c.in-Ok.count inv.1 inv.2 room
    (c.in-Ok.ensures.read (reverse inv.0) (g.K.Sink.held c.args.sink.now) inv.3) in
    (more.0, more.1, more.2, more.3, omega (arith, inv.4, c.in-Ok.ensures.reads), omega (arith, inv.5, c.in-Ok.ensures.writes))

pub returns-in-Err-clause-listed : goal.returns-in-Err-clause-listed
returns-in-Err-clause-listed g c =
    let inv = c.pieces.invariant in
    let whole : length c.pieces.piece ≡ 32768 = omega (arith, c.pieces.auto.piece, c.requires.piece) in
    let room : length (take c.min-room.result c.pieces.piece) ≤ c.pieces.left =
    (room-some c.pieces.piece c.pieces.left c.min-room.result whole (left-some inv.0 c.pieces.left inv.2 inv.3.holds.going) c.min-room.ensures).1 in
    piece-last g.L.Lister.stands g.L.Lister.lines g.L.Lister.whole (g.K.Sink.held c.args.sink.now) (g.K.Sink.held c.read_piece.new.sink) c.read_piece.new.self
    (g.S.Source.left c.args.source.now) (g.S.Source.left c.pieces.source) (g.S.Source.left c.read_piece.new.source) inv.0 c.pieces.left
    (length (take c.min-room.result c.pieces.piece)) c.in-Err.listing inv.1 inv.2 room
    (c.in-Err.ensures.read (reverse inv.0) (g.K.Sink.held c.args.sink.now) inv.3)
