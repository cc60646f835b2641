use Rattle.std.proofs.Common.{◌++◌, reverse, sym, subst}
use Rattle.bus_capture.specs.Readings.{ticks_in}
use Rattle.bus_monitor.specs.declared.listing_writer.ListingWriter.{ListingWriter}
use Rattle.bus_wave.specs.Written.{Hears}
use Rattle.bus_wave.specs.declared.wave_lister.WaveLister.{WaveLister}
use Rattle.bus_wave.proofs.ReadLaws.{few-bytes}
use Rattle.bus_wave.proofs.TakeLaws.{HeardPiece, hears-follows, heard-piece, due-took, stop-took}
use Rattle.bus_wave.proofs.wave_writer.WaveWriter.take.Goals as goal

pub take_piece-requires : goal.take_piece-requires
take_piece-requires g c =
    let (bytes, first, f) = c.requires.follows in
    (bytes, g.K.Sink.held c.args.sink.now, hears-follows c.args.self.now.hearing bytes (g.K.Sink.held c.args.sink.now) f.hears)

pub draw_due-requires : goal.draw_due-requires
draw_due-requires g c =
    let (bytes, first, f) = c.requires.follows in
    let held = g.K.Sink.held c.args.sink.now in
    let p : HeardPiece c.take_piece.new.self c.args.self.now (reverse c.args.piece.now ++ bytes) first (g.K.Sink.held c.take_piece.new.sink) =
    heard-piece c.take_piece.new.self c.args.self.now c.args.piece.now bytes first held (g.K.Sink.held c.take_piece.new.sink) c.requires.short f
    (c.in-Ok.ensures.took bytes held (hears-follows c.args.self.now.hearing bytes held f.hears)) in
    (ticks_in (reverse c.args.piece.now ++ bytes), first, p.hears.lister, few-bytes (reverse c.args.piece.now ++ bytes), p.draws)

pub returns-in-Ok-clause-took : goal.returns-in-Ok-clause-took
returns-in-Ok-clause-took g c bytes first f =
    let held = g.K.Sink.held c.args.sink.now in
    let all = reverse c.args.piece.now ++ bytes in
    let p : HeardPiece c.take_piece.new.self c.args.self.now all first (g.K.Sink.held c.take_piece.new.sink) =
    heard-piece c.take_piece.new.self c.args.self.now c.args.piece.now bytes first held (g.K.Sink.held c.take_piece.new.sink) c.requires.short f
    (c.in-Ok.ensures.took bytes held (hears-follows c.args.self.now.hearing bytes held f.hears)) in
    due-took c.draw_due.new.self all first (g.K.Sink.held c.draw_due.new.sink) c.draw_due.result
    (subst (λ (h : ListingWriter WaveLister). Hears h all) (sym c.draw_due.ensures.keeps) p.hears)
    (c.draw_due.ensures.drew (ticks_in all) first p.hears.lister p.draws)

pub returns-in-Err-clause-took : goal.returns-in-Err-clause-took
returns-in-Err-clause-took g c bytes first f =
    let held = g.K.Sink.held c.args.sink.now in
    stop-took c.take_piece.new.self c.args.self.now c.args.piece.now bytes first held (g.K.Sink.held c.take_piece.new.sink) c.in-Err.stop c.requires.short f
    (c.in-Err.ensures.took bytes held (hears-follows c.args.self.now.hearing bytes held f.hears))
