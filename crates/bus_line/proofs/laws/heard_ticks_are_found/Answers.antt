use Rattle.bus_line.proofs.HeardLaws.{heard_within-is, heard_within-from, first_heard-is, first_heard-found, first_heard-none, first_heard-quiet}
use Rattle.bus_line.proofs.laws.heard_ticks_are_found.Goals as goal

pub returns : goal.returns
returns c = record {
  within = λ past a b. (heard_within-is past a b, λ w. heard_within-from past a b w.0 w.1 w.2 w.3);
  first = λ past a t. (first_heard-is past a t, first_heard-found past a t);
  none = λ past a. (λ h t. first_heard-none past a t h, first_heard-quiet past a);
}
