use Rattle.std.proofs.Common.{◌≡◌, ◌≤◌, []}
use Rattle.bus_formats.specs.declared.fault.Fault.{Fault}
use Rattle.bus_run.specs.Kept.{places}
use Rattle.bus_survey.specs.Alone.{with_fault_alone}
use Rattle.bus_survey.specs.Surveys.{SurveyedSoFar}
use Rattle.bus_survey.proofs.survey_writer.survey_faults.Given as goal

-- the faults before the index were tried, and nothing of the plan but its fault has changed
abbrev pub invariant-loop-i : goal.invariant-loop-i
invariant-loop-i g l = record {
  so_far : SurveyedSoFar l.fn.plan l.faults (g.K.Sink.held l.fn.sink) (g.K.Sink.held l.sink) l.i;
  later : g.K.Sink.faults l.fn.sink ≤ g.K.Sink.faults l.sink;
  same : (fault : Fault) → with_fault_alone l.plan fault ≡ with_fault_alone l.fn.plan fault;
  none : places l.plan ≡ [];
}
