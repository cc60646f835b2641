use Rattle.std.proofs.Common.{refl, arith, sym}
use Rattle.bus_run.proofs.CalledLaws.{called-named}
use Rattle.bus_run.proofs.NewLaws.{begins-keeps, begins-in-step}
use Rattle.bus_run.proofs.station_row.StationRow.new.Goals as goal

pub returns : goal.returns
returns c most w loads outside begin present room taken objects = record {
  stations = record { all = begin.all; each = λ i s value found at here. begins-keeps w s value loads outside (begin.each i s value found at) };
  present_are = present;
  attempts_are = c.requires.attempts;
  room = room;
  taken_room = taken;
  objects = objects;
  delivering_is = refl;
  delivering_few = omega arith;
  receiver = c.new.ensures;
  in_step = λ i s value found at here. begins-in-step w s c.new.result value loads outside c.new.ensures (begin.each i s value found at);
  calls = record {
    few = c.requires.few;
    called = called-named c.deref-2.result.now c.args.present.items c.deref.result.now c.args.stations.items _ _
        c.deref-2.ensures.value (sym c.deref.ensures.value) refl c.places_called-places.ensures;
  };
}
