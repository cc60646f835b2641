use Rattle.std.proofs.Common.{◌≡◌, [], length, take, arith, inl, sym, ap, subst}
use Rattle.std.specs.Io.KnownBytes.{Consumes}
use Rattle.std.proofs.KnownBytes.{Consumes-kept, Consumes-nil}
use Rattle.bus_monitor.proofs.WriterLaws.{cause-source}
use Rattle.bus_wave.proofs.ReadLaws.{kept-so}
use Rattle.bus_wave.proofs.TakeLaws.{follows-kept}
use Rattle.bus_wave.proofs.writing.read_piece.Goals as goal

pub returns-in-Ok-eq0-clause-cause : goal.returns-in-Ok-eq0-clause-cause
returns-in-Ok-eq0-clause-cause g c =
    cause-source (g.S.Source.faults c.args.source.now) (g.S.Source.faults c.read.new.self) (g.K.Sink.faults c.args.sink.now)
    (g.K.Sink.faults c.args.sink.now) c.ended.result c.read.ensures.cause.later (c.ended.ensures.cause (g.S.Source.faults c.args.source.now) (g.K.Sink.faults c.args.sink.now))

pub returns-in-Ok-eq0-clause-read : goal.returns-in-Ok-eq0-clause-read
returns-in-Ok-eq0-clause-read g c bytes first f =
    let zero : c.in-Ok-eq0.field-0 ≡ 0 = grind (arith, c.in-Ok-eq0.field-0-test) in
    let none : take c.in-Ok-eq0.field-0 c.read.new.piece ≡ [] = ap (λ n. take n c.read.new.piece) zero in
    record {
      piece = [];
      consumed = subst (Consumes (g.S.Source.left c.args.source.now) (g.S.Source.left c.read.new.self)) none c.in-Ok-eq0.ensures.bytes.0;
      fits = omega arith;
      kept = kept-so (g.S.Source.left c.read.new.self) bytes first (g.K.Sink.held c.args.sink.now) c.args.writer.now c.ended.result
          (c.ended.ensures.read bytes (g.S.Source.left c.read.new.self) (c.in-Ok-eq0.ensures.bytes.1 zero (omega (arith, c.requires.some, c.read.auto.piece))) f.hears)
          (follows-kept c.args.writer.now bytes first (g.K.Sink.held c.args.sink.now) f);
    }

pub returns-in-Ok-take-clause-read : goal.returns-in-Ok-take-clause-read
returns-in-Ok-take-clause-read g c bytes first f = record {
  piece = take c.in-Ok.count c.read.new.piece;
  consumed = c.in-Ok.ensures.bytes.0;
  long = sym c.in-Ok.ensures.bound.1;
  some = grind (arith, c.in-Ok.count-test.1);
  fits = omega (arith, c.in-Ok.ensures.bound.0, c.read.auto.piece);
  follows = c.in-Ok-take.ensures.took bytes first f;
}

pub returns-in-Err-Refused-clause-read : goal.returns-in-Err-Refused-clause-read
returns-in-Err-Refused-clause-read g c bytes first f =
    let took = rw c.in-Err-Refused.field-0-is at (c.in-Err-Refused.ensures.took bytes first f) in
    let long : length (take c.in-Ok.count c.read.new.piece) ≡ c.in-Ok.count = sym c.in-Ok.ensures.bound.1 in
    record {
      piece = take c.in-Ok.count c.read.new.piece;
      consumed = c.in-Ok.ensures.bytes.0;
      fits = omega (arith, long, c.in-Ok.ensures.bound.0, c.read.auto.piece);
      kept = (inl took.0, took.1);
    }

pub returns-in-Err-WriteFault-clause-read : goal.returns-in-Err-WriteFault-clause-read
returns-in-Err-WriteFault-clause-read g c bytes first f =
    let took = rw c.in-Err-WriteFault.field-0-is at (c.in-Err-WriteFault.ensures.took bytes first f) in
    let long : length (take c.in-Ok.count c.read.new.piece) ≡ c.in-Ok.count = sym c.in-Ok.ensures.bound.1 in
    record {
      piece = take c.in-Ok.count c.read.new.piece;
      consumed = c.in-Ok.ensures.bytes.0;
      fits = omega (arith, long, c.in-Ok.ensures.bound.0, c.read.auto.piece);
      kept = took;
    }

pub returns-in-Err-clause-read : goal.returns-in-Err-clause-read
returns-in-Err-clause-read g c bytes first f = record {
  piece = [];
  consumed = Consumes-kept (g.S.Source.left c.args.source.now) (g.S.Source.left c.args.source.now) (g.S.Source.left c.read.new.self) []
      (Consumes-nil (g.S.Source.left c.args.source.now)) c.in-Err.ensures.bytes;
  fits = omega arith;
  kept = (tt, follows-kept c.args.writer.now bytes first (g.K.Sink.held c.args.sink.now) f);
}
