use Rattle.bus_law_control.proofs.Heedless.{heedless-stands, heedless-takes, heedless-silent}
use Rattle.bus_law_control.proofs.beside.a_terminal_that_heeds_nothing_stays_as_it_is.Goals as goal

pub returns : goal.returns
returns _ = record { stands = heedless-stands; takes = heedless-takes; silent = heedless-silent }
