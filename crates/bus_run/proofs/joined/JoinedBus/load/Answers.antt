use Rattle.bus_run.specs.Amounts.{most_attempts}
use Rattle.bus_run.specs.Joined.{JoinedStands}
use Rattle.bus_run.proofs.joined.JoinedBus.load.Goals as goal

pub load-requires-clause-row : goal.load-requires-clause-row
unfolding JoinedStands
load-requires-clause-row c =
    let (w, found, count, shown, past, driven, st) = c.requires.stands in (most_attempts w.plan, w, found, count, shown, past, st.row)

pub returns-clause-stands : goal.returns-clause-stands
unfolding JoinedStands
returns-clause-stands c w found count shown past driven st = record {
  row = c.load.ensures.keeps (most_attempts w.plan) w found count shown past st.row;
  wire = st.wire;
  unserved = st.unserved;
  ticks_are = st.ticks_are;
  driven_are = st.driven_are;
  most_attempts_are = st.most_attempts_are;
}
