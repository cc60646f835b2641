use Rattle.std.proofs.Common.{◌≡◌, length, refl, ap, ◌∙◌, arith}
use Rattle.bus_line.specs.declared.cutter.TheConstants.{LAG}
use Rattle.bus_wave.specs.Delays.{kept}
use Rattle.bus_wave.specs.Drawers.{text_to}
use Rattle.bus_wave.specs.Waves.{undrawn}
use Rattle.bus_wave.proofs.KeptLaws.{text-more, text-kept}
use Rattle.bus_wave.proofs.WriteLaws.{due-so}
use Rattle.bus_wave.proofs.wave_writer.WaveWriter.draw_due.Goals as goal

pub draw_to-requires-clause-order : goal.draw_to-requires-clause-order
draw_to-requires-clause-order g c =
    let (past, first, s, short, d) = c.requires in
    let due = d.due in
    let ticks = s.keeps.ticks in
    omega (arith, due, ticks, c.undrawn-end.ensures, c.ticks.ensures)

pub draw_to-requires-clause-time : goal.draw_to-requires-clause-time
draw_to-requires-clause-time g c =
    let (past, first, s, short, d) = c.requires in
    let ticks = s.keeps.ticks in
    omega (arith, short, ticks, c.undrawn-end.ensures, c.ticks.ensures)

pub draw_to-requires-clause-room : goal.draw_to-requires-clause-room
draw_to-requires-clause-room g c = let (past, first, s, short, d) = c.requires in d.room

pub returns-clause-drew : goal.returns-clause-drew
returns-clause-drew g c past first s d =
    let due = d.due in
    let yet = d.kept_yet in
    let end : c.undrawn-end.result ≡ undrawn (length past) = c.undrawn-end.ensures ∙ ap undrawn (c.ticks.ensures ∙ s.keeps.ticks) in
    due-so (kept LAG past) (text_to (kept LAG past) c.args.self.now.drawer.tick) c.args.self.now.drawer.tick c.undrawn-end.result past c.draw_to.new.self first
    (g.K.Sink.held c.draw_to.new.sink) c.draw_to.result
    (text-more (kept LAG past) c.args.self.now.drawer.tick c.undrawn-end.result (omega (arith, due, end)) ∙ ap (text_to (kept LAG past)) end ∙ text-kept LAG past)
    refl end
    (c.draw_to.ensures.drew (kept LAG past) (text_to (kept LAG past) c.args.self.now.drawer.tick) first
    (λ t later early. s.keeps.line t (omega (arith, early, end)) (omega (arith, later, yet))) d.last d.owed)
