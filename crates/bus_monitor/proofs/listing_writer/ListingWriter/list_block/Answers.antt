use Rattle.std.proofs.Common.{◌≡◌, ◌+◌, ◌∷◌, ◌++◌, ℕ, length, reverse, take, sym, subst, ◌∙◌, arith}
use Rattle.std.specs.Prelude.{Err}
use Rattle.bus_capture.specs.Blocks.{ticks_of}
use Rattle.bus_monitor.specs.Scribes.{Lists, Listed}
use Rattle.bus_monitor.proofs.PartLaws.{lists-part, long-before, all-before, tick-more, stops-in}
use Rattle.bus_monitor.proofs.listing_writer.ListingWriter.list_block.Goals as goal

pub pass-at-requires-clause-past : goal.pass-at-requires-clause-past
pass-at-requires-clause-past g c =
    let past = c.requires.past.0 in
    let block = c.args.block.now in
    let lists = c.ticks.invariant.1 past c.requires.past.1 c.requires.past.2 in
    let long : length (reverse (take c.ticks.at (ticks_of block)) ++ past) ≡ c.ticks.at + length past = long-before block c.ticks.at past c.ticks.invariant.3 in
    (reverse (take c.ticks.at (ticks_of block)) ++ past, lists.lister, omega (arith, long, c.requires.few, c.requires.past.3, c.ticks.invariant.3))

pub list_tick-requires : goal.list_tick-requires
list_tick-requires g c =
    let past = c.requires.past.0 in
    let block = c.args.block.now in
    let at : ℕ = c.ticks.at + c.pass-at.result in
    let lists = c.ticks.invariant.1 past c.requires.past.1 c.requires.past.2 in
    let long : length (reverse (take at (ticks_of block)) ++ past) ≡ at + length past = long-before block at past (omega (arith, c.pass-at.ensures.within)) in (
      reverse (take at (ticks_of block)) ++ past,
      c.requires.past.1,
      lists-part g.L.Lister.stands g.L.Lister.lines block past c.requires.past.1 (g.K.Sink.held c.ticks.sink) c.ticks.self c.pass-at.new.self c.ticks.at c.pass-at.result lists
          c.pass-at.ensures.stands c.pass-at.ensures.lines,
      omega (arith, long, c.requires.few, c.requires.past.3, c.pass-at.ensures.within),
    )

pub ticks-preserved-in-Ok : goal.ticks-preserved-in-Ok
ticks-preserved-in-Ok g c =
    let block = c.args.block.now in
    let at : ℕ = c.ticks.at + c.pass-at.result in (
      c.in-Ok.ensures.reader ∙ c.ticks.invariant.0,
      λ past first l. subst (λ ps. Lists g.L.Lister.stands g.L.Lister.lines c.list_tick.new.self ps first (g.K.Sink.held c.list_tick.new.sink))
          (sym (tick-more g.L.Lister.stands g.L.Lister.lines block past first (g.K.Sink.held c.list_tick.new.sink) at c.if-at-block.true))
          (subst (λ x. Lists g.L.Lister.stands g.L.Lister.lines c.list_tick.new.self (x ∷ (reverse (take at (ticks_of block)) ++ past)) first (g.K.Sink.held c.list_tick.new.sink))
          c.tick.ensures
          (c.in-Ok.ensures.listed (reverse (take at (ticks_of block)) ++ past) first
          (lists-part g.L.Lister.stands g.L.Lister.lines block past first (g.K.Sink.held c.ticks.sink) c.ticks.self c.pass-at.new.self c.ticks.at c.pass-at.result
          (c.ticks.invariant.1 past first l) c.pass-at.ensures.stands c.pass-at.ensures.lines))),
      omega (arith, c.list_tick.ensures.cause.later, c.ticks.invariant.2),
      omega (arith, c.if-at-block.true),
    )

pub returns-in-Err-clause-listed : goal.returns-in-Err-clause-listed
returns-in-Err-clause-listed g c past first l =
    let block = c.args.block.now in
    let at : ℕ = c.ticks.at + c.pass-at.result in
    stops-in g.L.Lister.stands g.L.Lister.lines block past first (g.K.Sink.held c.list_tick.new.sink) (Unit {0}) (Unit {0}) c.list_tick.new.self at c.in-Err.stop c.if-at-block.true
    (subst (λ x. Listed g.L.Lister.stands g.L.Lister.lines c.list_tick.new.self (x ∷ (reverse (take at (ticks_of block)) ++ past)) first (g.K.Sink.held c.list_tick.new.sink) {T = Unit {0}} (Err c.in-Err.stop))
    c.tick.ensures
    (c.in-Err.ensures.listed (reverse (take at (ticks_of block)) ++ past) first
    (lists-part g.L.Lister.stands g.L.Lister.lines block past first (g.K.Sink.held c.ticks.sink) c.ticks.self c.pass-at.new.self c.ticks.at c.pass-at.result
    (c.ticks.invariant.1 past first l) c.pass-at.ensures.stands c.pass-at.ensures.lines)))

pub ticks-preserved : goal.ticks-preserved
ticks-preserved g c = (
  c.ticks.invariant.0,
  λ past first l. lists-part g.L.Lister.stands g.L.Lister.lines c.args.block.now past first (g.K.Sink.held c.ticks.sink) c.ticks.self c.pass-at.new.self c.ticks.at c.pass-at.result
      (c.ticks.invariant.1 past first l) c.pass-at.ensures.stands c.pass-at.ensures.lines,
  c.ticks.invariant.2,
  omega (arith, c.pass-at.ensures.within),
)

pub returns-clause-listed : goal.returns-clause-listed
returns-clause-listed g c past first l =
    subst (λ ps. Lists g.L.Lister.stands g.L.Lister.lines c.ticks.self ps first (g.K.Sink.held c.ticks.sink))
    (all-before c.args.block.now c.ticks.at past (omega arith)) (c.ticks.invariant.1 past first l)
