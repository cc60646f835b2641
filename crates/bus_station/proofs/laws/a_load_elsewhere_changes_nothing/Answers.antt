use Rattle.bus_line.specs.declared.cutter.TheConstants.{LAG}
use Rattle.bus_station.proofs.Foreign.{foreign-keeps, foreign-step}
use Rattle.bus_station.proofs.laws.a_load_elsewhere_changes_nothing.Goals as goal

pub returns-clause-keeps : goal.returns-clause-keeps
returns-clause-keeps c = λ plan starts loads outside load value past other st. foreign-keeps LAG plan starts loads outside load value past other st

pub returns-clause-in_step : goal.returns-clause-in_step
returns-clause-in_step c = λ plan starts loads outside load value bus past other st.
    foreign-step LAG plan starts loads outside load value bus past other st
