use Rattle.bus_law_ticks.proofs.GivenUp.{given-up-is}
use Rattle.bus_law_ticks.proofs.orders.an_answer_is_given_up_by_a_newer_command_or_a_sample.Goals as goal

pub returns : goal.returns
returns c = given-up-is
