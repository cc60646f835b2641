use Rattle.std.proofs.Common.{◌+◌, ◌∙◌, ap, sym, arith, length, Some}
use Rattle.std.proofs.lemmas.Option.{slice_get-get_or}
use Rattle.bus_wire.specs.WireStands.{WireStands}
use Rattle.bus_wire.proofs.PlaceLaws.{next-place, last-place, follows-up}
use Rattle.bus_wire.proofs.WireLaws.{follows-start, follows-end}
use Rattle.bus_wire.proofs.wire.Wire.follow_among.Goals as goal

pub loop-place-init : goal.loop-place-init
unfolding WireStands
loop-place-init c = (0, c.requires.rising, c.requires.silent, λ faults driven st. follows-start faults driven c.args.drives.now c.args.self.now st)

pub bounds-drives-station : goal.bounds-drives-station
bounds-drives-station c =
    let (from, rising, silent, follows) = c.loop-place.invariant in
    (next-place c.args.places.now c.args.drives.now c.loop-place.place-index from c.from-station.result
    (slice_get-get_or c.args.places.now c.loop-place.place-index _ c.loop-place-test.true ∙ ap Some (sym c.from-station.ensures)) rising silent).within

pub follow_station-requires-clause-station : goal.follow_station-requires-clause-station
follow_station-requires-clause-station c =
    let (from, rising, silent, follows) = c.loop-place.invariant in
    let next = next-place c.args.places.now c.args.drives.now c.loop-place.place-index from c.from-station.result
    (slice_get-get_or c.args.places.now c.loop-place.place-index _ c.loop-place-test.true ∙ ap Some (sym c.from-station.ensures)) rising silent in
    omega (arith, next.within, c.requires.few)

pub follow_station-requires-clause-tick : goal.follow_station-requires-clause-tick
follow_station-requires-clause-tick c =
    let (faults, driven, st, small) = c.requires.stands in
    let (from, rising, silent, follows) = c.loop-place.invariant in
    let next = next-place c.args.places.now c.args.drives.now c.loop-place.place-index from c.from-station.result
    (slice_get-get_or c.args.places.now c.loop-place.place-index _ c.loop-place-test.true ∙ ap Some (sym c.from-station.ensures)) rising silent in (
      faults,
      driven,
      c.args.drives.now,
      follows-up faults driven c.args.drives.now c.loop-place.self from c.from-station.result next.low next.passed (follows faults driven st),
      slice_get-get_or c.args.drives.now c.from-station.result _ next.within,
      small,
    )

pub loop-place-preserved : goal.loop-place-preserved
loop-place-preserved c =
    let (from, rising, silent, follows) = c.loop-place.invariant in
    let next = next-place c.args.places.now c.args.drives.now c.loop-place.place-index from c.from-station.result
    (slice_get-get_or c.args.places.now c.loop-place.place-index _ c.loop-place-test.true ∙ ap Some (sym c.from-station.ensures)) rising silent in (
      c.from-station.result + 1,
      next.rising,
      next.silent,
      λ faults driven st. c.follow_station.ensures faults driven c.args.drives.now
          (follows-up faults driven c.args.drives.now c.loop-place.self from c.from-station.result next.low next.passed (follows faults driven st))
          (slice_get-get_or c.args.drives.now c.from-station.result _ next.within),
    )

pub returns : goal.returns
unfolding WireStands
returns c = λ faults driven st.
    let (from, rising, silent, follows) = c.loop-place.invariant in
    let last = last-place c.args.places.now c.args.drives.now c.loop-place.place-index from (omega arith) rising silent in
    follows-end faults driven c.args.drives.now (length c.args.drives.now) c.loop-place.self (omega arith) c.requires.few
    (follows-up faults driven c.args.drives.now c.loop-place.self from (length c.args.drives.now) last.low last.passed (follows faults driven st))
