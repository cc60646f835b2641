use Rattle.bus_law_control.proofs.OwnChannel.{first-own, second-own, own-waits, own-silent, first-over, second-over}
use Rattle.bus_law_control.proofs.waiting.a_waiting_controller_hears_its_own_channel_alone.Goals as goal

pub returns : goal.returns
returns _ = record {
  waits = λ k station starts takes past ticks begun e taken runs w still early. (
    own-waits k station starts takes past begun e taken runs w ticks still early,
    own-silent k station starts takes past begun e taken runs w ticks still early,
  );
  first = first-own;
  second = second-own;
  first_over = λ k station starts takes past ticks x begun e taken runs w still at.
      first-over k station starts takes past begun e taken runs w x ticks still at;
  second_over = λ k station starts takes past ticks x begun e taken runs w still at.
      second-over k station starts takes past begun e taken runs w x ticks still at;
}
