use Rattle.std.proofs.Common.{◌≡◌, true, false, sym, subst}
use Rattle.bus_base.specs.declared.samples.Pair.{Pair}
use Rattle.bus_line.specs.declared.cutter.TheConstants.{LAG}
use Rattle.bus_receiver.specs.Cuts.{CuttersHear}
use Rattle.bus_receiver.specs.declared.cutters.Cuts.{Cuts}
use Rattle.bus_station.proofs.Listening.{chosen-hear, own-hears}
use Rattle.bus_station.proofs.station.Station.cuts.Goals as goal

pub cut-requires : goal.cut-requires
cut-requires c =
    let (ticks, before, st, few) = c.requires in
    (ticks, own-hears LAG c.args.own c.args.self.now before ticks c.if-own.true st, few)

pub returns-then-own-clause-hears : goal.returns-then-own-clause-hears
returns-then-own-clause-hears c = λ before after hears.
    chosen-hear LAG c.args.own c.args.self.now.terminal.cutters before c.cut.new.self.cutters after c.args.moment.now.shown c.cut.result
    (λ _. subst (λ (x : Pair). CuttersHear LAG c.args.self.now.terminal.cutters c.cut.new.self.cutters x c.cut.result) c.shown.ensures c.cut.ensures.hears)
    (λ no. (let yes : c.args.own ≡ true = c.if-own.true in absurd (cc)))

pub returns-else-own-clause-hears : goal.returns-else-own-clause-hears
returns-else-own-clause-hears c = λ before after hears.
    chosen-hear LAG c.args.own c.args.self.now.terminal.cutters before c.args.self.now.terminal.cutters after c.args.moment.now.shown c.cuts.result
    (λ yes. (let no : c.args.own ≡ false = c.if-own.false in absurd (cc)))
    (λ _. subst (λ (x : Cuts). CuttersHear LAG before after c.args.moment.now.shown x) (sym c.cuts.ensures) hears)
