use Rattle.bus_law_ticks.proofs.SendsFrom.{sends-from, silent-or}
use Rattle.bus_law_ticks.proofs.standing.an_answer_is_sent_from_its_due_tick_on.Goals as goal

pub returns : goal.returns
returns c = record {
  sends = λ k terminal loads hearing words acceptance small. sends-from k terminal loads hearing.memory hearing.ticks small words acceptance;
  silent = λ k terminal loads hearing small. silent-or k terminal loads hearing.memory hearing.ticks small;
}
