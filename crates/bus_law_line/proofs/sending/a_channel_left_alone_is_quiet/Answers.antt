use Rattle.bus_law_line.proofs.Sent.{left-undriven, left-quiet, left-spent}
use Rattle.bus_law_line.proofs.sending.a_channel_left_alone_is_quiet.Goals as goal

pub returns : goal.returns
returns c = record { now = left-undriven; shown = left-quiet; spent = left-spent }
