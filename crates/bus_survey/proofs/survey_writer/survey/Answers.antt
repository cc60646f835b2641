use Rattle.std.proofs.Common.{◌∙◌, ap, subst}
use Rattle.bus_formats.specs.Plans.{PlanData, without_subsystems}
use Rattle.bus_survey.specs.Alone.{with_fault_alone}
use Rattle.bus_survey.specs.Surveys.{Surveys}
use Rattle.bus_survey.proofs.AloneLaws.{taken-accepted, taken-none}
use Rattle.bus_survey.proofs.SurveyLaws.{same-survey}
use Rattle.bus_survey.proofs.survey_writer.survey.Goals as goal

pub survey_faults-requires-clause-accepted : goal.survey_faults-requires-clause-accepted
survey_faults-requires-clause-accepted g c =
    taken-accepted c.args.plan _ c.as_slice.result.now (c.alone.view_is ∙ c.without_subsystems-alone.ensures)
    (c.as_slice.ensures.value ∙ ap (λ v. v.items) c.replace-faults.ensures.value) c.requires

pub survey_faults-requires-clause-none : goal.survey_faults-requires-clause-none
survey_faults-requires-clause-none g c =
    taken-none c.args.plan _ c.replace-faults.new.dest.items (c.alone.view_is ∙ c.without_subsystems-alone.ensures)

pub returns-clause-surveys : goal.returns-clause-surveys
returns-clause-surveys g c =
    let same = c.alone.view_is ∙ c.without_subsystems-alone.ensures in
    let taken = c.as_slice.ensures.value ∙ ap (λ v. v.items) c.replace-faults.ensures.value ∙ ap (λ (p : PlanData). p.faults) same in
    subst (λ fs. Surveys (without_subsystems c.args.plan) fs (g.K.Sink.held c.args.sink.now) (g.K.Sink.held c.survey_faults.new.sink) c.survey_faults.result)
    taken
    (same-survey _ (without_subsystems c.args.plan) (λ f. ap (λ (p : PlanData). with_fault_alone p f) same) c.as_slice.result.now _ _ c.survey_faults.result
    c.survey_faults.ensures.surveys)
