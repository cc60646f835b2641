use Rattle.std.proofs.Common.{[], ◌+◌, set, refl, arith}
use Rattle.bus_capture.specs.Captures.{ticks_text}
use Rattle.bus_tool.specs.CaptureWriters.{begun_of}
use Rattle.bus_tool.specs.declared.capture_writer.CaptureWriter.{CaptureWriter}
use Rattle.bus_tool.proofs.Capturing.{keeps}
use Rattle.bus_tool.proofs.WrittenLines.{few-begun, stays-begun, begins-next}
use Rattle.bus_tool.proofs.capture_writer.CaptureWriter.take.Goals as goal

pub offset_bounds-self-self : goal.offset_bounds-self-self
offset_bounds-self-self g c = let few = few-begun c.args.self.now c.requires.0 c.requires.1 c.requires.2 in omega (arith, few)

pub bounds-self-self : goal.bounds-self-self
bounds-self-self g c = few-begun c.args.self.now c.requires.0 c.requires.1 c.requires.2

pub overflow_add-self : goal.overflow_add-self
overflow_add-self g c = let few = few-begun c.args.self.now c.requires.0 c.requires.1 c.requires.2 in omega (arith, few)

pub returns-then-self-lt64-clause-took : goal.returns-then-self-lt64-clause-took
returns-then-self-lt64-clause-took g c past text st = record {
  piece = [];
  wrote = keeps (g.K.Sink.held c.args.sink.now);
  stands = stays-begun c.args.self.now _ c.args.shown past text st refl refl c.if-self-lt64.true;
}

pub write_line-requires-clause-few : goal.write_line-requires-clause-few
write_line-requires-clause-few g c = let few = few-begun c.args.self.now c.requires.0 c.requires.1 c.requires.2 in omega (arith, few)

pub returns-clause-took : goal.returns-clause-took
returns-clause-took g c past text st =
    let line = set c.args.self.now.line c.args.self.now.begun c.args.shown in
    let middle : CaptureWriter = record { line = line; begun = c.args.self.now.begun + 1; text = c.args.self.now.text } in
    record {
      piece = ticks_text 0 (begun_of middle);
      wrote = c.write_line.ensures.wrote;
      stands = begins-next c.args.self.now middle c.write_line.new.self c.args.shown past text st refl refl c.if-self-lt64.false
          c.write_line.ensures.same c.write_line.ensures.empty;
    }
