use Rattle.std.proofs.Common.{◌∷◌, ◌≤◌, length, arith, sym, subst}
use Rattle.std.specs.Prelude.{Some}
use Rattle.bus_capture.specs.Readings.{ticks_in, text_limit}
use Rattle.bus_monitor.proofs.WriterLaws.{few-ticks, ticks-ok, ticks-err, takes-none, takes-refused}
use Rattle.bus_monitor.proofs.TickLaws.{listed-takes}
use Rattle.bus_monitor.proofs.listing_writer.ListingWriter.take.Goals as goal

pub list_tick-requires : goal.list_tick-requires
list_tick-requires g c =
    let few : length (ticks_in c.requires.0) ≤ text_limit = few-ticks c.requires.0 in
    let f = c.requires.2 in
    (ticks_in c.requires.0, c.requires.1, record { lister = f.holds.lister; written = f.holds.written; room = f.room }, omega (arith, few))

pub returns-in-Ok-None-clause-took : goal.returns-in-Ok-None-clause-took
returns-in-Ok-None-clause-took g c bytes first f =
    let answer = rw c.in-Ok-None.field-0-is at (c.in-Ok-None.ensures.answer bytes f.holds.reader) in
    takes-none g.L.Lister.stands g.L.Lister.lines first (g.K.Sink.held c.args.sink.now) c.args.self.now.reader c.push.new.self c.args.self.now.lister
    c.args.self.now.text c.args.byte bytes f (c.in-Ok-None.ensures.stands bytes f.holds.reader) (sym answer)

pub returns-in-Ok-Some-clause-took : goal.returns-in-Ok-Some-clause-took
returns-in-Ok-Some-clause-took g c bytes first f =
    let answer = rw c.in-Ok-Some.field-0-is at (c.in-Ok-Some.ensures.answer bytes f.holds.reader) in
    let is = ticks-ok c.args.byte bytes (Some c.in-Ok-Some.shown) (sym answer) in
    listed-takes g.L.Lister.stands g.L.Lister.lines first (g.K.Sink.held c.list_tick.new.sink) (Unit {0}) c.list_tick.new.self c.push.new.self
    (c.args.byte ∷ bytes) (c.in-Ok-Some.shown ∷ ticks_in bytes) c.list_tick.result (c.in-Ok-Some.ensures.stands bytes f.holds.reader)
    c.list_tick.ensures.reader is.0 is.1
    (c.list_tick.ensures.listed (ticks_in bytes) first record { lister = f.holds.lister; written = f.holds.written; room = f.room })

pub returns-in-Err-clause-took : goal.returns-in-Err-clause-took
returns-in-Err-clause-took g c bytes first f =
    let answer = sym (c.in-Err.ensures.answer bytes f.holds.reader) in (
      answer,
      takes-refused g.L.Lister.stands g.L.Lister.lines first (g.K.Sink.held c.args.sink.now) c.args.self.now.text c.args.byte bytes c.in-Err.refusal f.holds.written answer,
      subst (λ ps. g.L.Lister.stands c.args.self.now.lister ps) (sym (ticks-err c.args.byte bytes c.in-Err.refusal answer)) f.holds.lister,
    )
