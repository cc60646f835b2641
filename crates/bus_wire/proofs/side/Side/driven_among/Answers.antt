use Rattle.std.proofs.Common.{◌+◌, ◌≤◌, ◌∙◌, ap, arith, length, refl, sym, Some}
use Rattle.std.proofs.lemmas.Option.{slice_get-get_or}
use Rattle.bus_wire.proofs.SideLaws.{strikes-at}
use Rattle.bus_wire.proofs.ExtraLaws.{none-added, sample-drives}
use Rattle.bus_wire.proofs.OnLaws.{joins-start, joins-station, joins-end, counts-few}
use Rattle.bus_wire.proofs.PlaceLaws.{next-place, last-place, joins-up}
use Rattle.bus_wire.proofs.side.Side.driven_among.Goals as goal

pub loop-place-init : goal.loop-place-init
loop-place-init c = record {
  from = 0;
  rising = c.requires.rising;
  silent = c.requires.silent;
  few = omega arith;
  joins = λ before st at beside. joins-start c.args.faults.now c.args.channel c.args.drives.now before;
}

pub bounds-drives-station : goal.bounds-drives-station
bounds-drives-station c =
    let l = c.loop-place.invariant in
    (next-place c.args.places.now c.args.drives.now c.loop-place.place-index l.from c.from-station.result
    (slice_get-get_or c.args.places.now c.loop-place.place-index _ c.loop-place-test.true ∙ ap Some (sym c.from-station.ensures)) l.rising l.silent).within

pub bounds-self-station : goal.bounds-self-station
bounds-self-station c =
    let l = c.loop-place.invariant in
    let next = next-place c.args.places.now c.args.drives.now c.loop-place.place-index l.from c.from-station.result
    (slice_get-get_or c.args.places.now c.loop-place.place-index _ c.loop-place-test.true ∙ ap Some (sym c.from-station.ensures)) l.rising l.silent in
    omega (arith, next.within, c.requires.few)

pub shown-requires-clause-strikes : goal.shown-requires-clause-strikes
shown-requires-clause-strikes c = λ e.
    let (before, st, at, beside) = c.requires.stands in
    let l = c.loop-place.invariant in
    let next = next-place c.args.places.now c.args.drives.now c.loop-place.place-index l.from c.from-station.result
    (slice_get-get_or c.args.places.now c.loop-place.place-index _ c.loop-place-test.true ∙ ap Some (sym c.from-station.ensures)) l.rising l.silent in
    strikes-at c.args.faults.now c.args.channel c.args.self.now c.args.drives.now before c.from-station.result _ _
    (omega (arith, next.within, c.requires.few)) next.within st (sample-drives c.args.channel _ (rw c.sample_on-sample.ensures at e))

pub shown-requires-clause-adds : goal.shown-requires-clause-adds
shown-requires-clause-adds c = λ e.
    let (before, st, at, beside) = c.requires.stands in
    let l = c.loop-place.invariant in
    let next = next-place c.args.places.now c.args.drives.now c.loop-place.place-index l.from c.from-station.result
    (slice_get-get_or c.args.places.now c.loop-place.place-index _ c.loop-place-test.true ∙ ap Some (sym c.from-station.ensures)) l.rising l.silent in
    none-added c.args.self.now c.args.tick c.from-station.result c.args.other _ c.requires.ended st.extras
    (slice_get-get_or c.args.self.now.transmitters c.from-station.result _ (omega (arith, next.within, c.requires.few, st.all)))

pub with-on-requires : goal.with-on-requires
with-on-requires c =
    let l = c.loop-place.invariant in
    let next = next-place c.args.places.now c.args.drives.now c.loop-place.place-index l.from c.from-station.result
    (slice_get-get_or c.args.places.now c.loop-place.place-index _ c.loop-place-test.true ∙ ap Some (sym c.from-station.ensures)) l.rising l.silent in
    omega (arith, l.few, next.low, next.within, c.requires.few)

pub loop-place-preserved : goal.loop-place-preserved
loop-place-preserved c =
    let l = c.loop-place.invariant in
    let next = next-place c.args.places.now c.args.drives.now c.loop-place.place-index l.from c.from-station.result
    (slice_get-get_or c.args.places.now c.loop-place.place-index _ c.loop-place-test.true ∙ ap Some (sym c.from-station.ensures)) l.rising l.silent in
    record {
      from = c.from-station.result + 1;
      rising = next.rising;
      silent = next.silent;
      few = rw c.with-on.ensures (counts-few c.loop-place.on c.shown.result c.from-station.result (omega (arith, l.few, next.low)));
      joins = λ before st at beside. rw (c.with-on.ensures, c.shown.ensures, c.sample_on-sample.ensures)
          (joins-station c.args.faults.now c.args.channel c.args.drives.now before c.args.self.now c.args.other c.from-station.result _ _ c.args.tick
          c.loop-place.on c.requires.few st at beside next.within
          (joins-up c.args.faults.now c.args.channel c.args.drives.now before c.args.self.now c.args.other c.args.tick c.requires.few st at beside
          c.requires.ended c.loop-place.on l.from c.from-station.result next.low (omega (arith, next.within)) next.passed (l.joins before st at beside)));
    }

pub returns : goal.returns
returns c = λ before st at beside.
    let l = c.loop-place.invariant in
    let last = last-place c.args.places.now c.args.drives.now c.loop-place.place-index l.from (omega arith) l.rising l.silent in
    joins-end c.args.faults.now c.args.channel c.args.drives.now before (length c.args.drives.now) c.loop-place.on (omega arith)
    (joins-up c.args.faults.now c.args.channel c.args.drives.now before c.args.self.now c.args.other c.args.tick c.requires.few st at beside
    c.requires.ended c.loop-place.on l.from (length c.args.drives.now) last.low (omega arith) last.passed (l.joins before st at beside))
