use Rattle.bus_station.proofs.Waits.{station-waits, station-stays}
use Rattle.bus_station.proofs.waiting.a_tick_without_an_end_leaves_a_station.Goals as goal

pub returns : goal.returns
returns c = record {
  tick = λ plan starts loads outside value moment past old new waits nothing st step next.
      station-waits plan starts loads outside value moment past old new waits nothing st step next;
  in_step = λ plan starts loads outside value moment past old new waits nothing st step next.
      station-stays plan starts loads outside value moment past old new waits nothing st step next;
}
