use Rattle.std.proofs.Common.{◌≡◌, ◌<◌, ◌++◌, length, reverse, take, sym, subst, ◌∙◌, arith}
use Rattle.std.proofs.lemmas.List.{take_all}
use Rattle.bus_base.specs.declared.samples.Sample.TheVariants.{Plus}
use Rattle.bus_monitor.specs.Scribes.{Lists}
use Rattle.bus_monitor.proofs.WriterLaws.{reverse-more}
use Rattle.bus_monitor.proofs.TickLaws.{few-before, listed-all}
use Rattle.bus_monitor.proofs.listing_writer.ListingWriter.list_ticks.Goals as goal

pub list_tick-requires : goal.list_tick-requires
list_tick-requires g c =
    let within : c.loop-shown.shown-index < length c.args.ticks.now = omega arith in
    let few = few-before c.args.ticks.now c.requires.0 c.loop-shown.shown-index within in (
      reverse (take c.loop-shown.shown-index c.args.ticks.now) ++ c.requires.0,
      c.requires.1,
      c.loop-shown.invariant.1 c.requires.0 c.requires.1 c.requires.2,
      omega (arith, few, c.requires.3),
    )

pub returns-in-Err-clause-listed : goal.returns-in-Err-clause-listed
returns-in-Err-clause-listed g c past first l =
    let within : c.loop-shown.shown-index < length c.args.ticks.now = omega arith in
    listed-all g.L.Lister.stands g.L.Lister.lines first (g.K.Sink.held c.list_tick.new.sink) (Unit {0}) (Unit {0}) c.list_tick.new.self
    c.args.ticks.now past c.loop-shown.shown-index (record { a = Plus; b = Plus }) c.in-Err.stop within
    (c.in-Err.ensures.listed (reverse (take c.loop-shown.shown-index c.args.ticks.now) ++ past) first (c.loop-shown.invariant.1 past first l))

pub loop-shown-preserved : goal.loop-shown-preserved
loop-shown-preserved g c =
    let within : c.loop-shown.shown-index < length c.args.ticks.now = omega arith in (
      c.in-Ok.ensures.reader ∙ c.loop-shown.invariant.0,
      λ past first l. subst (λ ps. Lists g.L.Lister.stands g.L.Lister.lines c.list_tick.new.self ps first (g.K.Sink.held c.list_tick.new.sink))
          (sym (reverse-more c.args.ticks.now past c.loop-shown.shown-index (record { a = Plus; b = Plus }) within))
          (c.in-Ok.ensures.listed (reverse (take c.loop-shown.shown-index c.args.ticks.now) ++ past) first (c.loop-shown.invariant.1 past first l)),
      omega (arith, c.list_tick.ensures.cause.later, c.loop-shown.invariant.2),
    )

pub returns-clause-listed : goal.returns-clause-listed
returns-clause-listed g c past first l =
    let all : take c.loop-shown.shown-index c.args.ticks.now ≡ c.args.ticks.now = take_all c.loop-shown.shown-index c.args.ticks.now (omega arith) in
    rw all at (c.loop-shown.invariant.1 past first l)
