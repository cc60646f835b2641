use Rattle.std.proofs.Common.{◌≡◌, ◌<◌, length, take, arith}
use Rattle.bus_lines.proofs.ReadLaws.{reading_starts, reading_some, reading_goes_on, reading_ends, room_some}
use Rattle.bus_lines.proofs.writing.read_all.Goals as goal

pub pieces-init : goal.pieces-init
pieces-init g c = (
  reading_starts (g.S.Source.left c.args.source.now) c.args.converter.now c.args.text.now (g.K.Sink.held c.args.sink.now),
  c.requires.room,
  omega arith,
  omega arith,
)

pub read_piece-requires-clause-place : goal.read_piece-requires-clause-place
read_piece-requires-clause-place g c =
    let whole : length c.pieces.piece ≡ 4096 = omega (arith, c.pieces.auto.piece, c.requires.piece) in
    let some : 0 < c.pieces.left =
    reading_some c.pieces.left (g.S.Source.left c.args.source.now) (g.S.Source.left c.pieces.source) c.args.converter.now c.pieces.converter c.args.text.now c.pieces.text
    (g.K.Sink.held c.args.sink.now) (g.K.Sink.held c.pieces.sink) c.pieces.invariant.0 in
    (room_some c.pieces.piece c.pieces.left c.min-room.result whole some c.min-room.ensures).0

pub pieces-preserved : goal.pieces-preserved
pieces-preserved g c =
    let inv = c.pieces.invariant in
    let whole : length c.pieces.piece ≡ 4096 = omega (arith, c.pieces.auto.piece, c.requires.piece) in
    let some : 0 < c.pieces.left =
    reading_some c.pieces.left (g.S.Source.left c.args.source.now) (g.S.Source.left c.pieces.source) c.args.converter.now c.pieces.converter c.args.text.now c.pieces.text
    (g.K.Sink.held c.args.sink.now) (g.K.Sink.held c.pieces.sink) inv.0 in
    let room = (room_some c.pieces.piece c.pieces.left c.min-room.result whole some c.min-room.ensures).1 in (
      reading_goes_on c.pieces.left (g.S.Source.left c.args.source.now) (g.S.Source.left c.pieces.source) (g.S.Source.left c.read_piece.new.source)
          c.args.converter.now c.pieces.converter c.read_piece.new.converter c.args.text.now c.pieces.text c.read_piece.new.text (g.K.Sink.held c.args.sink.now)
          (g.K.Sink.held c.pieces.sink) (g.K.Sink.held c.read_piece.new.sink) inv.0 (length (take c.min-room.result c.pieces.piece)) c.in-Ok.count room c.in-Ok.ensures.read,
      c.read_piece.ensures.room,
      omega (arith, inv.2, c.in-Ok.ensures.reads),
      omega (arith, inv.3, c.in-Ok.ensures.writes),
    )

pub returns-in-Err-clause-read : goal.returns-in-Err-clause-read
returns-in-Err-clause-read g c =
    let inv = c.pieces.invariant in
    let whole : length c.pieces.piece ≡ 4096 = omega (arith, c.pieces.auto.piece, c.requires.piece) in
    let some : 0 < c.pieces.left =
    reading_some c.pieces.left (g.S.Source.left c.args.source.now) (g.S.Source.left c.pieces.source) c.args.converter.now c.pieces.converter c.args.text.now c.pieces.text
    (g.K.Sink.held c.args.sink.now) (g.K.Sink.held c.pieces.sink) inv.0 in
    let room = (room_some c.pieces.piece c.pieces.left c.min-room.result whole some c.min-room.ensures).1 in
    reading_ends c.pieces.left (g.S.Source.left c.args.source.now) (g.S.Source.left c.pieces.source) (g.S.Source.left c.read_piece.new.source)
    c.args.converter.now c.pieces.converter c.read_piece.new.converter c.args.text.now c.pieces.text c.read_piece.new.text (g.K.Sink.held c.args.sink.now)
    (g.K.Sink.held c.pieces.sink) (g.K.Sink.held c.read_piece.new.sink) inv.0 (length (take c.min-room.result c.pieces.piece)) c.in-Err.ending room c.in-Err.ensures.read
