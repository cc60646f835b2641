use Rattle.bus_law_control.proofs.Doubting.{doubt-waits, doubt-silent, doubt-over}
use Rattle.bus_law_control.proofs.doubts.a_doubting_offerer_keeps_control_after_eighty_quiet_ticks.Goals as goal

pub returns : goal.returns
returns _ = record {
  waits = λ k station starts takes past begun x n taken runs doubt still early. (
    doubt-waits k station starts takes past begun x taken runs doubt still n early,
    doubt-silent k station starts takes past begun x taken runs doubt still n early,
  );
  ends = λ k station starts takes past begun x n taken runs doubt still at. doubt-over k station starts takes past begun x taken runs doubt still n at;
}
