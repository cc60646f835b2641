use Rattle.bus_law_told.proofs.HoldersReadings.{reading-keeps, second-keeps}
use Rattle.bus_law_told.proofs.holders.an_answer_without_an_offer_gives_no_control.Goals as goal

pub returns : goal.returns
returns _ = record { plain = reading-keeps; second = second-keeps }
