use Rattle.bus_law_clean.proofs.MessageRow.{answer-follows, answer-waits}
use Rattle.bus_law_clean.proofs.rows.an_answer_follows_in_order.Goals as goal

pub returns : goal.returns
returns _ = record {
  follows = λ k c row w start words waiting soon due short apart. answer-follows k c row w waiting start words soon due short apart;
  waits = λ k c row w start words waiting soon due short apart. answer-waits k c row w waiting start words soon due short apart;
}
