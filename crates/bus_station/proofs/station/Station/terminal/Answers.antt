use Rattle.bus_station.specs.StationStands.{StationStands, StationKeeps}
use Rattle.bus_station.proofs.Closed.{stands-both}
use Rattle.bus_station.proofs.station.Station.terminal.Goals as goal

pub returns-clause-stands : goal.returns-clause-stands
unfolding StationStands StationKeeps
returns-clause-stands c = λ plan starts loads outside past st. stands-both _ _ _ _ _ st.0.terminal st.1.cutters

pub returns-clause-keeps : goal.returns-clause-keeps
unfolding StationKeeps
returns-clause-keeps c = λ plan starts loads outside past st. st.terminal
