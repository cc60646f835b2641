use Rattle.std.proofs.Common.{◌≡◌, length, ap, sym, ◌∙◌, subst, arith}
use Rattle.std.specs.Prelude.{Ok, Err}
use Rattle.bus_line.specs.declared.cutter.TheConstants.{LAG}
use Rattle.bus_monitor.specs.declared.listing_writer.ListingWriter.{ListingWriter}
use Rattle.bus_monitor.specs.declared.listing_writer.Stop.{Stop}
use Rattle.bus_wave.specs.Drawers.{LineEnds}
use Rattle.bus_wave.specs.Waves.{columns_at_end, undrawn, wave_so_far}
use Rattle.bus_wave.specs.declared.drawer.Drawer.{Drawer}
use Rattle.bus_wave.specs.declared.wave_lister.WaveLister.{WaveLister}
use Rattle.bus_wave.proofs.WriteLaws.{left-drew, left-closes, left-last, closes-later}
use Rattle.bus_wave.proofs.writing.draw_left.Goals as goal

pub end-requires : goal.end-requires
end-requires g c = let (past, first, stands, short, drew) = c.requires in (past, stands, short)

pub draw_to-requires-clause-order : goal.draw_to-requires-clause-order
draw_to-requires-clause-order g c =
    let (past, first, stands, short, drew) = c.requires in
    let ends : LineEnds c.end.new.self past = c.end.ensures past stands in
    let ticks = ends.ticks in
    let tick : c.args.writer.now.drawer.tick ≡ undrawn (length past) = ap (λ (d : Drawer). d.tick) drew.drawer in
    omega (arith, tick, ticks, c.ticks-ticks.ensures)

pub draw_to-requires-clause-time : goal.draw_to-requires-clause-time
draw_to-requires-clause-time g c =
    let (past, first, stands, short, drew) = c.requires in
    let ends : LineEnds c.end.new.self past = c.end.ensures past stands in
    let ticks = ends.ticks in
    omega (arith, short, ticks, c.ticks-ticks.ensures)

pub draw_to-requires-clause-room : goal.draw_to-requires-clause-room
draw_to-requires-clause-room g c = let (past, first, stands, short, drew) = c.requires in drew.room

pub close-requires-clause-ends : goal.close-requires-clause-ends
close-requires-clause-ends g c =
    let (past, first, stands, short, drew) = c.requires in
    (past, subst (λ (h : ListingWriter WaveLister). LineEnds h.lister past) (sym c.draw_to.ensures.keeps) (c.end.ensures past stands), short)

-- what was drawn, by what the call says
pub close-requires-clause-room : goal.close-requires-clause-room
close-requires-clause-room g c =
    let (past, first, stands, short, drew) = c.requires in
    let tick : c.args.writer.now.drawer.tick ≡ undrawn (length past) = ap (λ (d : Drawer). d.tick) drew.drawer in
    let ends : LineEnds c.end.new.self past = c.end.ensures past stands in
    let last : c.ticks-ticks.result ≡ length past = c.ticks-ticks.ensures ∙ ends.ticks in
    (c.in-Ok.ensures.drew (columns_at_end LAG past) (wave_so_far LAG past) first
    (λ t later early. ends.column t (omega (arith, early, last)) (omega (arith, later, tick)))
    (left-last past c.args.writer.now.drawer drew.drawer) drew.owed).1

pub returns-in-Ok-clause-closes : goal.returns-in-Ok-clause-closes
returns-in-Ok-clause-closes g c past first stands short drew =
    closes-later _ _ first (g.K.Sink.held c.close.new.sink) (g.K.Sink.faults c.args.sink.now) (g.K.Sink.faults c.draw_to.new.sink)
    (g.K.Sink.faults c.close.new.sink) c.close.result c.draw_to.ensures.cause.later
    (c.close.ensures.closes past first (subst (λ (h : ListingWriter WaveLister). LineEnds h.lister past) (sym c.draw_to.ensures.keeps) (c.end.ensures past stands))
    (let tick : c.args.writer.now.drawer.tick ≡ undrawn (length past) = ap (λ (d : Drawer). d.tick) drew.drawer in
    let ends : LineEnds c.end.new.self past = c.end.ensures past stands in
    let last : c.ticks-ticks.result ≡ length past = c.ticks-ticks.ensures ∙ ends.ticks in
    (left-drew past c.draw_to.new.self first (g.K.Sink.held c.draw_to.new.sink) c.args.writer.now.drawer.tick c.ticks-ticks.result (Ok tt) tick last
    (c.in-Ok.ensures.drew (columns_at_end LAG past) (wave_so_far LAG past) first
    (λ t later early. ends.column t (omega (arith, early, last)) (omega (arith, later, tick)))
    (left-last past c.args.writer.now.drawer drew.drawer) drew.owed)).0))

pub returns-in-Err-clause-closes : goal.returns-in-Err-clause-closes
returns-in-Err-clause-closes g c past first stands short drew =
    let tick : c.args.writer.now.drawer.tick ≡ undrawn (length past) = ap (λ (d : Drawer). d.tick) drew.drawer in
    let ends : LineEnds c.end.new.self past = c.end.ensures past stands in
    let last : c.ticks-ticks.result ≡ length past = c.ticks-ticks.ensures ∙ ends.ticks in
    left-closes past c.args.ending c.draw_to.new.self first (g.K.Sink.held c.draw_to.new.sink) (g.K.Sink.faults c.args.sink.now) (g.K.Sink.faults c.draw_to.new.sink)
    c.in-Err.field-0
    (left-drew past c.draw_to.new.self first (g.K.Sink.held c.draw_to.new.sink) c.args.writer.now.drawer.tick c.ticks-ticks.result (Err c.in-Err.field-0) tick last
    (c.in-Err.ensures.drew (columns_at_end LAG past) (wave_so_far LAG past) first
    (λ t later early. ends.column t (omega (arith, early, last)) (omega (arith, later, tick)))
    (left-last past c.args.writer.now.drawer drew.drawer) drew.owed))
    (λ is. c.in-Err.ensures.cause.failed (ap (λ (s : Stop). Err s) is))
