use Rattle.std.proofs.lemmas.List.Elements.{recursion_from_All}
use Rattle.bus_formats.specs.Accepted.{HasStationRanges}
use Rattle.bus_law_whole.proofs.Begins.{may-go-on}
use Rattle.bus_law_whole.proofs.EachStands.{goes-on}
use Rattle.bus_law_whole.proofs.MessagesTold.{messages-told}
use Rattle.bus_law_whole.proofs.Present.{present-goes-on, attempt-by-present}
use Rattle.bus_law_whole.proofs.runs.a_run_goes_on_from_each_moment.Goals as goal

pub returns : goal.returns
returns _ = record {
  on = λ w t run next is. goes-on w is (messages-told w is) t run next;
  whole = λ w run is. may-go-on w w.plan.stations run is.accepted.apart (recursion_from_All HasStationRanges w.plan.stations is.accepted.ranges);
  present = λ w run is by. (present-goes-on w is.accepted run by, attempt-by-present w run is by);
}
