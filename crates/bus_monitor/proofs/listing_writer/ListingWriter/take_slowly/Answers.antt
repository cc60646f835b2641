use Rattle.std.proofs.Common.{arith, sym, subst}
use Rattle.std.specs.Prelude.{Err}
use Rattle.bus_monitor.specs.Scribes.{Took}
use Rattle.bus_monitor.proofs.WriterLaws.{reverse-more}
use Rattle.bus_monitor.proofs.PieceLaws.{stops-before}
use Rattle.bus_monitor.proofs.listing_writer.ListingWriter.take_slowly.Goals as goal

pub take-requires : goal.take-requires
take-requires g c =
    let took = c.in-Ok-eq0.ensures.took c.requires.follows.0 c.requires.follows.1 c.requires.follows.2 in
    (c.requires.follows.0, c.requires.follows.1, rw c.in-Ok-eq0.field-0-test at took.1)

pub returns-in-Ok-clause-took : goal.returns-in-Ok-clause-took
returns-in-Ok-clause-took g c bytes first f =
    let took = c.in-Ok.ensures.took bytes first f in
    (grind (arith, c.in-Ok.count-test.1), took.0, took.1)

pub returns-in-Ok-take-clause-took : goal.returns-in-Ok-take-clause-took
returns-in-Ok-take-clause-took g c bytes first f =
    let took = c.in-Ok-eq0.ensures.took bytes first f in
    let same = rw c.in-Ok-eq0.field-0-test at took.1 in
    (omega arith, omega (arith, c.requires.some), rw (reverse-more c.args.piece.now bytes 0 0 c.requires.some) (c.in-Ok-take.ensures.took bytes first same))

pub returns-in-Err-take-clause-took : goal.returns-in-Err-take-clause-took
returns-in-Err-take-clause-took g c bytes first f =
    let took = c.in-Ok-eq0.ensures.took bytes first f in
    let same = rw c.in-Ok-eq0.field-0-test at took.1 in
    stops-before g.L.Lister.stands g.L.Lister.lines c.take.new.self c.args.piece.now bytes 1 first (g.K.Sink.held c.take.new.sink) c.in-Err-take.stop
    (subst (λ ys. Took g.L.Lister.stands g.L.Lister.lines c.take.new.self ys first (g.K.Sink.held c.take.new.sink) {T = Unit {0}} (Err c.in-Err-take.stop))
    (sym (reverse-more c.args.piece.now bytes 0 0 c.requires.some)) (c.in-Err-take.ensures.took bytes first same))
