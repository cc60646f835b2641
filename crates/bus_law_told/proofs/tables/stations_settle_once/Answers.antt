use Rattle.bus_law_told.proofs.TablesFree.{silence-stations, settled-free, again-stations, again-blocks, again-free}
use Rattle.bus_law_told.proofs.tables.stations_settle_once.Goals as goal

pub returns-clause-silence : goal.returns-clause-silence
returns-clause-silence c = silence-stations

pub returns-clause-settled : goal.returns-clause-settled
returns-clause-settled c = settled-free

pub returns-clause-stations : goal.returns-clause-stations
returns-clause-stations c = again-stations

pub returns-clause-blocks : goal.returns-clause-blocks
returns-clause-blocks c = again-blocks

pub returns-clause-duties : goal.returns-clause-duties
returns-clause-duties c = again-free
