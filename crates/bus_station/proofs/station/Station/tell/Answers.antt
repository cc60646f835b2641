use Rattle.std.proofs.Common.{refl}
use Rattle.bus_line.specs.declared.cutter.TheConstants.{LAG}
use Rattle.bus_station.specs.StationStands.{StationStands, StationKeeps}
use Rattle.bus_station.proofs.Listening.{told-step}
use Rattle.bus_station.proofs.station.Station.tell.Goals as goal

-- the station stands whatever it noticed
pub returns-clause-stands : goal.returns-clause-stands
unfolding StationStands StationKeeps
returns-clause-stands c = λ plan starts loads outside past st. (
  record {
    address = st.0.address;
    controller = st.0.controller;
    terminal = st.0.terminal;
    taking = st.0.taking;
    made = st.0.made;
    taken = st.0.taken;
  },
  record { receiver = st.1.receiver; cutters = st.1.cutters },
)

pub returns-clause-keeps : goal.returns-clause-keeps
unfolding StationKeeps
returns-clause-keeps c = λ plan starts loads outside past st. record {
  address = st.address;
  controller = st.controller;
  terminal = st.terminal;
  taking = st.taking;
  made = st.made;
  taken = st.taken;
}

pub returns-clause-in_step : goal.returns-clause-in_step
returns-clause-in_step c = λ plan starts loads outside bus past st. told-step LAG plan starts loads outside c.args.self.now _ bus past refl refl st
