use Rattle.std.proofs.Common.{ap, sym, subst}
use Rattle.std.specs.Prelude.{Err}
use Rattle.bus_monitor.specs.declared.listing_writer.ListingWriter.{ListingWriter}
use Rattle.bus_monitor.specs.declared.listing_writer.Stop.{Stop}
use Rattle.bus_wave.specs.Drawers.{ListerStands}
use Rattle.bus_wave.specs.declared.wave_lister.WaveLister.{WaveLister}
use Rattle.bus_wave.proofs.WriteLaws.{due-closes, closes-later}
use Rattle.bus_wave.proofs.writing.finish.Goals as goal

pub draw_due-requires : goal.draw_due-requires
draw_due-requires g c =
    let (past, first, stands, short, draws) = c.requires (sym c.if-is_write_fault.ensures) in
    (past, first, stands, short, draws)

pub draw_left-requires : goal.draw_left-requires
draw_left-requires g c =
    let (past, first, stands, short, draws) = c.requires (sym c.if-is_write_fault.ensures) in (
      past,
      first,
      subst (λ (h : ListingWriter WaveLister). ListerStands h.lister past) (sym c.draw_due.ensures.keeps) stands,
      short,
      c.in-Ok.ensures.drew past first stands draws,
    )

pub returns-in-Ok-clause-closes : goal.returns-in-Ok-clause-closes
returns-in-Ok-clause-closes g c fine past first stands short draws =
    closes-later _ _ first (g.K.Sink.held c.draw_left.new.sink) (g.K.Sink.faults c.args.sink.now) (g.K.Sink.faults c.draw_due.new.sink)
    (g.K.Sink.faults c.draw_left.new.sink) c.draw_left.result c.draw_due.ensures.cause.later
    (c.draw_left.ensures.closes past first (subst (λ (h : ListingWriter WaveLister). ListerStands h.lister past) (sym c.draw_due.ensures.keeps) stands) short
    (c.in-Ok.ensures.drew past first stands draws))

pub returns-in-Err-clause-closes : goal.returns-in-Err-clause-closes
returns-in-Err-clause-closes g c fine past first stands short draws =
    due-closes past c.args.ending c.draw_due.new.self first (g.K.Sink.held c.draw_due.new.sink) (g.K.Sink.faults c.args.sink.now) (g.K.Sink.faults c.draw_due.new.sink)
    c.in-Err.field-0 (c.in-Err.ensures.drew past first stands draws) (λ is. c.in-Err.ensures.cause.failed (ap (λ (s : Stop). Err s) is))
