use Rattle.std.proofs.Common.{◌≤◌, ℕ, List, ◌++◌, length, reverse, take, ap, ◌∙◌, arith}
use Rattle.std.specs.Prelude.{Ok, Err}
use Rattle.bus_capture.specs.Blocks.{ticks_of}
use Rattle.bus_capture.specs.Reader.{is_refused}
use Rattle.bus_capture.specs.Readings.{ticks_in, text_limit}
use Rattle.bus_monitor.proofs.WriterLaws.{few-ticks}
use Rattle.bus_monitor.proofs.PieceLaws.{stops-before}
use Rattle.bus_monitor.proofs.TickLaws.{listed-takes}
use Rattle.bus_monitor.proofs.listing_writer.ListingWriter.take_block.Goals as goal

pub list_block-requires-clause-past : goal.list_block-requires-clause-past
list_block-requires-clause-past g c =
    let bytes : List ℕ = c.requires.0 in
    let f = c.requires.2 in
    let few : length (ticks_in bytes) ≤ text_limit = few-ticks bytes in
    (ticks_in bytes, c.requires.1, record { lister = f.holds.lister; written = f.holds.written; room = f.room }, omega (arith, few))

pub returns-in-Ok-clause-took : goal.returns-in-Ok-clause-took
returns-in-Ok-clause-took g c bytes first f = (
  c.read_block-run.ensures.within,
  listed-takes g.L.Lister.stands g.L.Lister.lines first (g.K.Sink.held c.list_block.new.sink) (Unit {0}) c.list_block.new.self c.read_block-run.new.self
      (reverse (take c.read_block-run.result.bytes c.args.piece.now) ++ bytes) (reverse (ticks_of c.read_block-run.result.block) ++ ticks_in bytes) (Ok c.in-Ok.field-0)
      (c.read_block-run.ensures.stands bytes f.holds.reader) c.list_block.ensures.reader
      (ap is_refused (c.read_block-run.ensures.place bytes f.holds.reader) ∙ f.holds.going) (c.read_block-run.ensures.ticks bytes f.holds.reader)
      (c.in-Ok.ensures.listed (ticks_in bytes) first record { lister = f.holds.lister; written = f.holds.written; room = f.room }),
)

pub returns-in-Err-clause-took : goal.returns-in-Err-clause-took
returns-in-Err-clause-took g c bytes first f =
    stops-before g.L.Lister.stands g.L.Lister.lines c.list_block.new.self c.args.piece.now bytes c.read_block-run.result.bytes first
    (g.K.Sink.held c.list_block.new.sink) c.in-Err.stop
    (listed-takes g.L.Lister.stands g.L.Lister.lines first (g.K.Sink.held c.list_block.new.sink) (Unit {0}) c.list_block.new.self c.read_block-run.new.self
    (reverse (take c.read_block-run.result.bytes c.args.piece.now) ++ bytes) (reverse (ticks_of c.read_block-run.result.block) ++ ticks_in bytes) (Err c.in-Err.stop)
    (c.read_block-run.ensures.stands bytes f.holds.reader) c.list_block.ensures.reader
    (ap is_refused (c.read_block-run.ensures.place bytes f.holds.reader) ∙ f.holds.going) (c.read_block-run.ensures.ticks bytes f.holds.reader)
    (c.in-Err.ensures.listed (ticks_in bytes) first record { lister = f.holds.lister; written = f.holds.written; room = f.room }))
