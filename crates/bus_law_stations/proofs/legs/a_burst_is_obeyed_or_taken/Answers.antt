use Rattle.bus_law_stations.proofs.BurstEnds.{obeyed, settled, passed}
use Rattle.bus_law_stations.proofs.legs.a_burst_is_obeyed_or_taken.Goals as goal

pub returns : goal.returns
returns _ = record {
  obeyed = λ k t loads memory c heard ticks now burst order small ready hears beside ended last.
      obeyed k t loads memory c heard ticks now burst ready beside ended hears small order last;
  settled = λ k t loads memory c heard ticks now burst command transmitter small ready hears beside ended last duty stands.
      settled k t loads memory c heard ticks now burst ready beside ended hears small command transmitter last duty stands;
  passed = λ k t loads memory c heard ticks now burst small ready hears beside ended last none.
      passed k t loads memory c heard ticks now burst ready beside ended hears small last none;
}
