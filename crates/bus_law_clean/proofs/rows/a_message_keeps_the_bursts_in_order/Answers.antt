use Rattle.bus_law_clean.proofs.MessageJudged.{leaves-in-order}
use Rattle.bus_law_clean.proofs.rows.a_message_keeps_the_bursts_in_order.Goals as goal

pub returns : goal.returns
returns _ = λ k loads n item c start stations row low ranges form names stays prompt row-ok apart late.
    leaves-in-order k low loads n item ranges form names stays c start stations prompt row row-ok apart late
