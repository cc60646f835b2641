use Rattle.bus_law_run.proofs.PlainCourses.{plain-keeps, plain-doubts}
use Rattle.bus_law_run.proofs.control.control_is_kept_where_none_is_offered.Goals as goal

pub returns : goal.returns
returns _ = record {
  keeps = λ k station starts loads outside shown past plain. plain-keeps k station starts plain loads outside shown past;
  doubts = λ k station starts loads outside past plain. plain-doubts k station starts plain loads outside past;
}
