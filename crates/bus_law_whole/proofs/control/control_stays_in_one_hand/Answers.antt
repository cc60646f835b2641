use Rattle.bus_law_whole.proofs.OneHand.{one-hand, kept-hand}
use Rattle.bus_law_whole.proofs.control.control_stays_in_one_hand.Goals as goal

pub returns : goal.returns
returns c = record {
  cases = λ plan t accepted early. one-hand plan ((c.each_world_does_what_its_run_says.ensures plan accepted).orderly t early).hands;
  kept = λ plan t place holder accepted plain at first early.
      kept-hand plan plain place holder at first t ((c.each_world_does_what_its_run_says.ensures plan accepted).orderly t early).hands;
}
