use Rattle.bus_law_line.proofs.Sent.{one-sample, one-driver, all-samples, all-spent}
use Rattle.bus_law_line.proofs.sending.a_sender_shows_its_words.Goals as goal

pub returns : goal.returns
returns c = record { now = one-sample; alone = one-driver; shown = all-samples; spent = all-spent }
