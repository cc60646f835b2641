use Rattle.std.proofs.Common.{ap, arith}
use Rattle.bus_model.specs.Standing.{is_owed}
use Rattle.bus_law_control.proofs.Accepting.{kept-later}
use Rattle.bus_law_control.proofs.OtherChannel.{beside-sends, duty-sends, given-silent}
use Rattle.bus_law_control.proofs.beside.an_answer_is_sent_on_beside_a_burst.Goals as goal

pub returns : goal.returns
returns _ = record {
  beside = λ k t loads memory c heard ticks words acceptance small ready hears duty on late kept endless.
      let past = ready.answer (ap is_owed duty) in
      beside-sends k t loads memory c heard ticks words acceptance duty on (omega (arith, past)) late kept endless small ready hears;
  sends = duty-sends;
  kept = kept-later;
  superseded = given-silent;
}
