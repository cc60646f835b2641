use Rattle.std.proofs.Common.{arith}
use Rattle.std.proofs.lemmas.Option.{slice_get-get_or}
use Rattle.bus_wire.specs.WireStands.{WireStands}
use Rattle.bus_wire.proofs.WireLaws.{follows-start, follows-end}
use Rattle.bus_wire.proofs.wire.Wire.follow.Goals as goal

pub loop-station-init : goal.loop-station-init
unfolding WireStands
loop-station-init c = λ faults driven st. follows-start faults driven c.args.drives.now c.args.self.now st

pub follow_station-requires-clause-tick : goal.follow_station-requires-clause-tick
follow_station-requires-clause-tick c =
    let (faults, driven, st, small) = c.requires.stands in (
      faults,
      driven,
      c.args.drives.now,
      c.loop-station.invariant faults driven st,
      slice_get-get_or c.args.drives.now c.loop-station.station _
          c.loop-station-test.true,
      small,
    )

pub loop-station-preserved : goal.loop-station-preserved
loop-station-preserved c = λ faults driven st.
    c.follow_station.ensures faults driven c.args.drives.now (c.loop-station.invariant faults driven st)
    (slice_get-get_or c.args.drives.now c.loop-station.station _ c.loop-station-test.true)

pub returns : goal.returns
unfolding WireStands
returns c = λ faults driven st.
    follows-end faults driven c.args.drives.now c.loop-station.station c.loop-station.self (omega arith) c.requires.few
    (c.loop-station.invariant faults driven st)
