use Rattle.std.proofs.Common.{arith, refl, sym, ◌∙◌}
use Rattle.std.proofs.lemmas.Option.{slice_get-get_or}
use Rattle.bus_wire.proofs.SideLaws.{strikes-at}
use Rattle.bus_wire.proofs.ExtraLaws.{none-added, sample-drives}
use Rattle.bus_wire.proofs.OnLaws.{joins-start, joins-station, joins-end, counts-few}
use Rattle.bus_wire.proofs.IdleLaws.{neither, driven-since, idle-shows}
use Rattle.bus_wire.proofs.side.Side.shown.Goals as goal

pub loop-station-init : goal.loop-station-init
loop-station-init c = record {
  few = omega arith;
  joins = λ before st at beside. joins-start c.args.faults.now c.args.channel c.args.drives.now before;
}

pub shown-requires-clause-strikes : goal.shown-requires-clause-strikes
shown-requires-clause-strikes c = λ e.
    let (before, st, at, beside) = c.requires.stands in
    strikes-at c.args.faults.now c.args.channel c.args.self.now c.args.drives.now before c.loop-station.station _ _ (omega arith)
    c.loop-station-test.true st (sample-drives c.args.channel _ (rw c.sample_on-sample.ensures at e))

pub shown-requires-clause-adds : goal.shown-requires-clause-adds
shown-requires-clause-adds c = λ e.
    let (before, st, at, beside) = c.requires.stands in
    none-added c.args.self.now c.args.tick c.loop-station.station c.args.other _ (sym c.may_add-adds.ensures ∙ e) st.extras
    (slice_get-get_or c.args.self.now.transmitters c.loop-station.station _ (omega (arith, st.all)))

pub loop-station-preserved : goal.loop-station-preserved
loop-station-preserved c = record {
  few = rw c.with-on.ensures (counts-few c.loop-station.on c.shown.result c.loop-station.station c.loop-station.invariant.few);
  joins = λ before st at beside. rw (c.with-on.ensures, c.shown.ensures, c.sample_on-sample.ensures)
      (joins-station c.args.faults.now c.args.channel c.args.drives.now before c.args.self.now c.args.other c.loop-station.station _ _ c.args.tick
      c.loop-station.on c.requires.few st at beside c.loop-station-test.true (c.loop-station.invariant.joins before st at beside));
}

-- a tick in which nothing can be shown
pub returns-then-is_idle : goal.returns-then-is_idle
returns-then-is_idle c = λ before st at beside.
    let (still, ended) = neither _ _ (sym c.is_idle.ensures ∙ c.if-is_idle.true) in
    idle-shows c.args.faults.now c.args.channel c.args.drives.now before c.args.self.now c.args.other c.args.tick c.requires.few st at beside
    (driven-since c.args.channel c.args.drives.now before c.args.self.now.driven c.args.tick _ refl st.driven_is at still) ended

pub returns : goal.returns
returns c = λ before st at beside.
    joins-end c.args.faults.now c.args.channel c.args.drives.now before c.loop-station.station c.loop-station.on (omega arith)
    (c.loop-station.invariant.joins before st at beside)
