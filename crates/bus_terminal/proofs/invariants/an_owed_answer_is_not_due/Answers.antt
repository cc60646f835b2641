use Rattle.std.proofs.Common.{ap}
use Rattle.bus_model.specs.Standing.{is_owed}
use Rattle.bus_terminal.proofs.invariants.an_owed_answer_is_not_due.Goals as goal

pub returns : goal.returns
returns c = record {
  owes = λ terminal loads state past s st. (ap is_owed st.sends.duty, st.kept);
  waits = λ terminal loads state past s st. st.early;
}
