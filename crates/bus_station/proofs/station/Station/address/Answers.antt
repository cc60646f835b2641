use Rattle.bus_station.specs.StationStands.{StationKeeps}
use Rattle.bus_station.proofs.station.Station.address.Goals as goal

pub returns-clause-own : goal.returns-clause-own
unfolding StationKeeps
returns-clause-own c = λ plan starts loads outside past st. st.address
