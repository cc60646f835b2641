use Rattle.std.proofs.Common.{◌≡◌, ◌≤◌, ◌+◌, ℕ, List, ◌++◌, length, reverse, take, ap, ◌∙◌, arith, length-append}
use Rattle.std.specs.Prelude.{Ok, Err}
use Rattle.std.proofs.lemmas.List.{length-reverse}
use Rattle.bus_base.specs.declared.samples.Pair.{Pair}
use Rattle.bus_capture.specs.Reader.{is_refused}
use Rattle.bus_capture.specs.Readings.{ticks_in, text_limit}
use Rattle.bus_monitor.proofs.WriterLaws.{few-ticks}
use Rattle.bus_monitor.proofs.PieceLaws.{stops-before}
use Rattle.bus_monitor.proofs.TickLaws.{listed-takes}
use Rattle.bus_monitor.proofs.listing_writer.ListingWriter.take_ticks.Goals as goal

pub list_ticks-requires : goal.list_ticks-requires
list_ticks-requires g c =
    let bytes : List ℕ = c.requires.0 in
    let f = c.requires.2 in
    let front : List Pair = take c.read_ticks-run.result.ticks c.read_ticks-run.new.ticks in
    let more : List ℕ = reverse (take c.read_ticks-run.result.bytes c.args.piece.now) ++ bytes in
    let long : length (ticks_in more) ≡ length front + length (ticks_in bytes) =
    ap length (c.read_ticks-run.ensures.ticks bytes f.holds.reader)
    ∙ length-append (reverse front) (ticks_in bytes)
    ∙ ap (λ n. n + length (ticks_in bytes)) (length-reverse front) in
    let few : length (ticks_in more) ≤ text_limit = few-ticks more in
    (ticks_in bytes, c.requires.1, record { lister = f.holds.lister; written = f.holds.written; room = f.room }, omega (arith, long, few))

pub returns-in-Ok-clause-took : goal.returns-in-Ok-clause-took
returns-in-Ok-clause-took g c bytes first f =
    let front : List Pair = take c.read_ticks-run.result.ticks c.read_ticks-run.new.ticks in (
      c.read_ticks-run.ensures.within,
      listed-takes g.L.Lister.stands g.L.Lister.lines first (g.K.Sink.held c.list_ticks.new.sink) (Unit {0}) c.list_ticks.new.self c.read_ticks-run.new.self
          (reverse (take c.read_ticks-run.result.bytes c.args.piece.now) ++ bytes) (reverse front ++ ticks_in bytes) (Ok c.in-Ok.field-0)
          (c.read_ticks-run.ensures.stands bytes f.holds.reader) c.list_ticks.ensures.reader
          (ap is_refused (c.read_ticks-run.ensures.place bytes f.holds.reader) ∙ f.holds.going) (c.read_ticks-run.ensures.ticks bytes f.holds.reader)
          (c.in-Ok.ensures.listed (ticks_in bytes) first record { lister = f.holds.lister; written = f.holds.written; room = f.room }),
    )

pub returns-in-Err-clause-took : goal.returns-in-Err-clause-took
returns-in-Err-clause-took g c bytes first f =
    let front : List Pair = take c.read_ticks-run.result.ticks c.read_ticks-run.new.ticks in
    stops-before g.L.Lister.stands g.L.Lister.lines c.list_ticks.new.self c.args.piece.now bytes c.read_ticks-run.result.bytes first
    (g.K.Sink.held c.list_ticks.new.sink) c.in-Err.stop
    (listed-takes g.L.Lister.stands g.L.Lister.lines first (g.K.Sink.held c.list_ticks.new.sink) (Unit {0}) c.list_ticks.new.self c.read_ticks-run.new.self
    (reverse (take c.read_ticks-run.result.bytes c.args.piece.now) ++ bytes) (reverse front ++ ticks_in bytes) (Err c.in-Err.stop)
    (c.read_ticks-run.ensures.stands bytes f.holds.reader) c.list_ticks.ensures.reader
    (ap is_refused (c.read_ticks-run.ensures.place bytes f.holds.reader) ∙ f.holds.going) (c.read_ticks-run.ensures.ticks bytes f.holds.reader)
    (c.in-Err.ensures.listed (ticks_in bytes) first record { lister = f.holds.lister; written = f.holds.written; room = f.room }))
