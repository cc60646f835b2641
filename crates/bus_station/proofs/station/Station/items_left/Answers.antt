use Rattle.bus_station.specs.StationStands.{StationKeeps}
use Rattle.bus_station.proofs.station.Station.items_left.Goals as goal

pub returns : goal.returns
unfolding StationKeeps
returns c = λ plan starts loads outside past st. c.items_left.ensures plan starts _ past st.controller
