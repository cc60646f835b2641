use Rattle.bus_law_parts.proofs.BrokenOff.{few-faded, ticks-before, leg-broken, endless-broken, ended-broken, end-broken, rests-broken}
use Rattle.bus_law_parts.proofs.broken_off.a_part_cut_short_is_a_burst.Goals as goal

pub returns : goal.returns
returns c = record {
  few = few-faded;
  ticks = ticks-before;
  leg = leg-broken;
  endless = endless-broken;
  ended = ended-broken;
  end = end-broken;
  rests = rests-broken;
}
