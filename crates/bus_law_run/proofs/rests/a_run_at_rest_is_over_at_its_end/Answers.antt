use Rattle.bus_model.specs.Run.{run_end}
use Rattle.bus_law_phases.proofs.Staying.{stays-later}
use Rattle.bus_law_run.proofs.RunOver.{rests-over, is-over}
use Rattle.bus_law_run.proofs.rests.a_run_at_rest_is_over_at_its_end.Goals as goal

pub returns : goal.returns
returns _ = record {
  rests = λ w t run accepted stays none rests. rests-over w t run accepted stays rests none;
  over = λ w t run plan own accepted stays of none rests.
      is-over w run accepted (stays-later w t (run_end run) rests.soon stays) plan own of (rests-over w t run accepted stays rests none) none;
}
