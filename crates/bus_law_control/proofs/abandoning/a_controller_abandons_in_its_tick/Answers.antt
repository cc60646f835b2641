use Rattle.bus_law_control.proofs.Answered.{first-runs, first-silent, first-abandoned}
use Rattle.bus_law_control.proofs.abandoning.a_controller_abandons_in_its_tick.Goals as goal

pub returns : goal.returns
returns _ = record {
  runs = λ k station starts takes past ticks begun e taken answered w shows kept. (
    first-runs k station starts takes past begun e taken answered w ticks shows kept,
    first-silent k station starts takes past begun e taken answered w ticks shows kept,
  );
  abandons = λ k station starts takes past ticks x begun e n taken answered w shows kept some at heard.
      first-abandoned k station starts takes past begun e taken answered w x ticks n shows kept some at heard;
}
