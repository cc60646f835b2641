use Rattle.std.proofs.Common.{◌≡◌, [], length, take, arith, sym, ap, subst}
use Rattle.std.specs.Prelude.{true, false}
use Rattle.std.specs.Io.KnownBytes.{Consumes}
use Rattle.std.proofs.KnownBytes.{Consumes-kept, Consumes-nil}
use Rattle.bus_lines.specs.Written.{Stops, CauseOf}
use Rattle.bus_lines.proofs.ReadLaws.{piece_goes_on, piece_refused, end_stops, read_stops, no_refusal, stop_later, stop_cause}
use Rattle.bus_lines.proofs.writing.read_piece.Goals as goal

pub returns-in-Ok-eq0-clause-read : goal.returns-in-Ok-eq0-clause-read
returns-in-Ok-eq0-clause-read g c =
    let zero : c.in-Ok-eq0.field-0 ≡ 0 = grind (arith, c.in-Ok-eq0.field-0-test) in
    let none : take c.in-Ok-eq0.field-0 c.read.new.piece ≡ [] = ap (λ n. take n c.read.new.piece) zero in
    record {
      piece = [];
      consumed = subst (Consumes (g.S.Source.left c.args.source.now) (g.S.Source.left c.read.new.self)) none c.in-Ok-eq0.ensures.bytes.0;
      fits = omega arith;
      ended = true;
      end = λ is. (c.in-Ok-eq0.ensures.bytes.1 zero (omega (arith, c.requires.place, c.read.auto.piece)), no_refusal c.args.converter.now);
      stops = subst
          (Stops true [] c.args.converter.now c.end.new.self c.args.text.now c.end.new.text (g.K.Sink.held c.args.sink.now) (g.K.Sink.held c.end.new.sink))
          (sym c.ended.ensures)
          (end_stops c.end.result c.args.converter.now c.end.new.self c.args.text.now c.end.new.text (g.K.Sink.held c.args.sink.now)
          (g.K.Sink.held c.end.new.sink) c.end.ensures.took);
    }

pub returns-in-Ok-eq0-clause-writes : goal.returns-in-Ok-eq0-clause-writes
returns-in-Ok-eq0-clause-writes g c =
    stop_later c.end.result (g.K.Sink.faults c.args.sink.now) (g.K.Sink.faults c.end.new.sink) c.end.ensures.cause

pub returns-in-Ok-eq0-clause-cause : goal.returns-in-Ok-eq0-clause-cause
returns-in-Ok-eq0-clause-cause g c =
    subst
    (CauseOf (g.S.Source.faults c.args.source.now) (g.S.Source.faults c.read.new.self) (g.K.Sink.faults c.args.sink.now) (g.K.Sink.faults c.end.new.sink))
    (sym c.ended.ensures)
    (stop_cause c.end.result (g.S.Source.faults c.args.source.now) (g.S.Source.faults c.read.new.self) (g.K.Sink.faults c.args.sink.now)
    (g.K.Sink.faults c.end.new.sink) c.end.ensures.cause)

pub returns-in-Ok-take_piece-clause-read : goal.returns-in-Ok-take_piece-clause-read
returns-in-Ok-take_piece-clause-read g c = record {
  piece = take c.in-Ok.count c.read.new.piece;
  consumed = c.in-Ok.ensures.bytes.0;
  long = sym c.in-Ok.ensures.bound.1;
  some = grind (arith, c.in-Ok.count-test.1);
  fits = omega (arith, c.in-Ok.ensures.bound.0, c.read.auto.piece);
  on = piece_goes_on (take c.in-Ok.count c.read.new.piece) c.args.converter.now c.take_piece.new.converter c.args.text.now c.take_piece.new.text
      (g.K.Sink.held c.args.sink.now) (g.K.Sink.held c.take_piece.new.sink) c.in-Ok-take_piece.ensures.took;
}

pub returns-in-Err-Refused-clause-read : goal.returns-in-Err-Refused-clause-read
returns-in-Err-Refused-clause-read g c =
    let long : length (take c.in-Ok.count c.read.new.piece) ≡ c.in-Ok.count = sym c.in-Ok.ensures.bound.1 in
    record {
      piece = take c.in-Ok.count c.read.new.piece;
      consumed = c.in-Ok.ensures.bytes.0;
      fits = omega (arith, long, c.in-Ok.ensures.bound.0, c.read.auto.piece);
      ended = false;
      end = λ is. absurd (cc);
      stops = piece_refused (take c.in-Ok.count c.read.new.piece) c.in-Err-Refused.refusal c.args.converter.now c.take_piece.new.converter c.args.text.now
          c.take_piece.new.text (g.K.Sink.held c.args.sink.now) (g.K.Sink.held c.take_piece.new.sink)
          (rw c.in-Err-Refused.field-0-is at c.in-Err-Refused.ensures.took);
    }

pub returns-in-Err-WriteFault-clause-read : goal.returns-in-Err-WriteFault-clause-read
returns-in-Err-WriteFault-clause-read g c =
    let long : length (take c.in-Ok.count c.read.new.piece) ≡ c.in-Ok.count = sym c.in-Ok.ensures.bound.1 in
    record {
      piece = take c.in-Ok.count c.read.new.piece;
      consumed = c.in-Ok.ensures.bytes.0;
      fits = omega (arith, long, c.in-Ok.ensures.bound.0, c.read.auto.piece);
      ended = false;
      end = λ is. absurd (cc);
      stops = rw c.in-Err-WriteFault.field-0-is at c.in-Err-WriteFault.ensures.took;
    }

pub returns-in-Err-clause-read : goal.returns-in-Err-clause-read
returns-in-Err-clause-read g c = record {
  piece = [];
  consumed = Consumes-kept (g.S.Source.left c.args.source.now) (g.S.Source.left c.args.source.now) (g.S.Source.left c.read.new.self) []
      (Consumes-nil (g.S.Source.left c.args.source.now)) c.in-Err.ensures.bytes;
  fits = omega arith;
  ended = false;
  end = λ is. absurd (cc);
  stops = read_stops c.args.converter.now c.args.text.now (g.K.Sink.held c.args.sink.now);
}
