use Rattle.std.proofs.Common.{◌≡◌, ◌++◌, [], length, reverse, take, arith, inl, sym, ap, subst}
use Rattle.std.specs.Io.KnownBytes.{Consumes}
use Rattle.std.proofs.KnownBytes.{Consumes-kept, Consumes-nil}
use Rattle.bus_capture.specs.Readings.{ticks_in}
use Rattle.bus_monitor.proofs.WriterLaws.{ends-refused, ends-read, cause-source}
use Rattle.bus_monitor.proofs.ListLaws.{refused-not-done, read-not-done}
use Rattle.bus_monitor.proofs.listing_writer.ListingWriter.read_piece.Goals as goal

pub returns-in-Ok-eq0-clause-writes : goal.returns-in-Ok-eq0-clause-writes
returns-in-Ok-eq0-clause-writes g c = (c.finish.ensures.cause 0).writes

pub returns-in-Ok-eq0-clause-cause : goal.returns-in-Ok-eq0-clause-cause
returns-in-Ok-eq0-clause-cause g c =
    cause-source (g.S.Source.faults c.args.source.now) (g.S.Source.faults c.read.new.self) (g.K.Sink.faults c.args.sink.now)
    (g.K.Sink.faults c.finish.new.sink) c.finish.result c.read.ensures.cause.later (c.finish.ensures.cause (g.S.Source.faults c.args.source.now)).cause

pub returns-in-Ok-eq0-clause-read : goal.returns-in-Ok-eq0-clause-read
returns-in-Ok-eq0-clause-read g c bytes first f =
    let zero : c.in-Ok-eq0.field-0 ≡ 0 = grind (arith, c.in-Ok-eq0.field-0-test) in
    let none : take c.in-Ok-eq0.field-0 c.read.new.piece ≡ [] = ap (λ n. take n c.read.new.piece) zero in
    record {
      last = record {
        piece = [];
        consumed = subst (Consumes (g.S.Source.left c.args.source.now) (g.S.Source.left c.read.new.self)) none c.in-Ok-eq0.ensures.bytes.0;
        fits = omega arith;
        ends = c.finish.ensures.ends bytes first (g.S.Source.left c.read.new.self)
            (c.in-Ok-eq0.ensures.bytes.1 zero (omega (arith, c.requires.some, c.read.auto.piece))) f;
      };
      standing = λ n is. subst (λ l. g.L.Lister.stands l (ticks_in bytes)) (sym c.finish.ensures.keeps) f.holds.lister;
    }

pub returns-in-Ok-take_piece-clause-read : goal.returns-in-Ok-take_piece-clause-read
returns-in-Ok-take_piece-clause-read g c bytes first f = record {
  piece = take c.in-Ok.count c.read.new.piece;
  consumed = c.in-Ok.ensures.bytes.0;
  long = sym c.in-Ok.ensures.bound.1;
  some = grind (arith, c.in-Ok.count-test.1);
  fits = omega (arith, c.in-Ok.ensures.bound.0, c.read.auto.piece);
  follows = c.in-Ok-take_piece.ensures.took bytes first f;
}

pub returns-in-Err-Refused-clause-read : goal.returns-in-Err-Refused-clause-read
returns-in-Err-Refused-clause-read g c bytes first f =
    let took = rw c.in-Err-Refused.field-0-is at (c.in-Err-Refused.ensures.took bytes first f) in
    let long : length (take c.in-Ok.count c.read.new.piece) ≡ c.in-Ok.count = sym c.in-Ok.ensures.bound.1 in
    record {
      last = record {
        piece = take c.in-Ok.count c.read.new.piece;
        consumed = c.in-Ok.ensures.bytes.0;
        fits = omega (arith, long, c.in-Ok.ensures.bound.0, c.read.auto.piece);
        ends = ends-refused g.L.Lister.lines g.L.Lister.whole (g.S.Source.left c.read.new.self) (reverse (take c.in-Ok.count c.read.new.piece) ++ bytes) first
            (g.K.Sink.held c.close.new.sink) c.in-Err-Refused.refusal (g.K.Sink.faults c.take_piece.new.sink) (g.K.Sink.faults c.close.new.sink) c.close.result
            (inl took.0)
            (c.close.ensures.closes (g.L.Lister.lines (ticks_in (reverse (take c.in-Ok.count c.read.new.piece) ++ bytes))) first took.1);
      };
      standing = λ n is. absurd (refused-not-done c.in-Err-Refused.refusal c.close.result n _ c.close.ensures.cause is);
    }

pub returns-in-Err-WriteFault-clause-read : goal.returns-in-Err-WriteFault-clause-read
returns-in-Err-WriteFault-clause-read g c bytes first f =
    let took = rw c.in-Err-WriteFault.field-0-is at (c.in-Err-WriteFault.ensures.took bytes first f) in
    let long : length (take c.in-Ok.count c.read.new.piece) ≡ c.in-Ok.count = sym c.in-Ok.ensures.bound.1 in
    record {
      last = record {
        piece = take c.in-Ok.count c.read.new.piece;
        consumed = c.in-Ok.ensures.bytes.0;
        fits = omega (arith, long, c.in-Ok.ensures.bound.0, c.read.auto.piece);
        ends = inl took;
      };
      standing = λ n is. absurd (cc);
    }

pub returns-in-Err-clause-read : goal.returns-in-Err-clause-read
returns-in-Err-clause-read g c bytes first f = record {
  last = record {
    piece = [];
    consumed = Consumes-kept (g.S.Source.left c.args.source.now) (g.S.Source.left c.args.source.now) (g.S.Source.left c.read.new.self) []
        (Consumes-nil (g.S.Source.left c.args.source.now)) c.in-Err.ensures.bytes;
    fits = omega arith;
    ends = ends-read g.L.Lister.lines g.L.Lister.whole (g.S.Source.left c.read.new.self) bytes first (g.K.Sink.held c.close-in-Err.new.sink)
        (g.K.Sink.faults c.args.sink.now) (g.K.Sink.faults c.close-in-Err.new.sink) c.close-in-Err.result
        (c.close-in-Err.ensures.closes (g.L.Lister.lines (ticks_in bytes)) first f.holds.written);
  };
  standing = λ n is. absurd (read-not-done c.close-in-Err.result n _ c.close-in-Err.ensures.cause is);
}
