use Rattle.bus_law_control.proofs.Accepting.{accepted-at, accepted-early, accepted-not, accepted-other}
use Rattle.bus_law_control.proofs.offers.a_status_that_accepts_is_accepted.Goals as goal

pub returns : goal.returns
returns _ = record {
  accepted = λ k t loads memory c heard ticks first now burst words answer hears duty ended whole.
      accepted-at k t loads memory c heard ticks first answer hears now burst words duty ended whole;
  early = accepted-early;
  others = accepted-not;
  elsewhere = accepted-other;
}
