use Rattle.std.proofs.Common.{◌≡◌, length, sym, ◌∙◌, subst, arith, ap}
use Rattle.std.proofs.lemmas.Result.{MatchResult-at_err}
use Rattle.bus_formats.specs.Accepted.{IsAccepted}
use Rattle.bus_formats.specs.Plans.{PlanData}
use Rattle.bus_run.specs.Kept.{places}
use Rattle.bus_run.specs.Stands.{FinishedStands}
use Rattle.bus_survey.specs.Alone.{with_fault_alone}
use Rattle.bus_survey.specs.Surveys.{SurveyedSoFar}
use Rattle.bus_survey.proofs.AloneLaws.{same-places}
use Rattle.bus_survey.proofs.SurveyLaws.{one-more, front-of-line, all-tried, front-of-last}
use Rattle.bus_survey.proofs.survey_writer.survey_faults.Goals as goal

pub run_with-requires-clause-accepted : goal.run_with-requires-clause-accepted
run_with-requires-clause-accepted g c =
    subst (λ f. IsAccepted (with_fault_alone c.loop-i.plan f)) (sym c.index-faults-i.is)
    (subst IsAccepted (sym (c.loop-i.invariant.same _)) (c.requires.accepted c.loop-i.i c.index-faults-i.result c.loop-i-test.true))

pub returns-in_default-write_line-clause-surveys : goal.returns-in_default-write_line-clause-surveys
returns-in_default-write_line-clause-surveys g c =
    let fault = c.index-faults-i.result in
    let ran = subst (λ p. FinishedStands p c.in-Ok.left) (c.loop-i.invariant.same fault) c.in-Ok.ensures.ran in
    front-of-line c.args.plan c.args.faults.now _ _ _ c.loop-i.i fault c.log.result.now c.loop-i-test.true c.index-faults-i.is c.loop-i.invariant.so_far
    (c.log.ensures.tables _ ran)
    (MatchResult-at_err _ _ _ c.in_default-write_line.is c.write_line.ensures.bytes)

pub loop-i-preserved : goal.loop-i-preserved
loop-i-preserved g c =
    let fault = c.index-faults-i.result in
    let ran = subst (λ p. FinishedStands p c.in-Ok.left) (c.loop-i.invariant.same fault) c.in-Ok.ensures.ran in
    record {
      so_far = one-more c.args.plan c.args.faults.now _ _ _ c.loop-i.i fault c.log.result.now c.loop-i-test.true c.index-faults-i.is
          c.loop-i.invariant.so_far (c.log.ensures.tables _ ran) c.in-Ok-write_line.ensures.bytes;
      later = omega (arith, c.loop-i.invariant.later, c.write_line.ensures.cause.later);
      same = λ other. ap (λ (p : PlanData). with_fault_alone p other) c.in-Ok.ensures.alone ∙ c.loop-i.invariant.same other;
      none = ap places c.in-Ok.ensures.alone ∙ same-places c.loop-i.plan fault ∙ c.loop-i.invariant.none;
    }

pub returns-in-Ok-write-clause-surveys : goal.returns-in-Ok-write-clause-surveys
returns-in-Ok-write-clause-surveys g c =
    let end : c.loop-i.i ≡ length c.args.faults.now = omega (arith, c.loop-i-test.false, c.loop-i.auto.i-end) in
    all-tried c.args.plan c.args.faults.now _ _ _
    (subst (λ n. SurveyedSoFar c.args.plan c.args.faults.now (g.K.Sink.held c.args.sink.now) (g.K.Sink.held c.loop-i.sink) n) end c.loop-i.invariant.so_far)
    (rw (c.as_bytes.ensures ∙ c.surveyed_line.ensures) at c.in-Ok-write.ensures.bytes)

pub returns-clause-surveys : goal.returns-clause-surveys
returns-clause-surveys g c =
    let end : c.loop-i.i ≡ length c.args.faults.now = omega (arith, c.loop-i-test.false, c.loop-i.auto.i-end) in
    front-of-last c.args.plan c.args.faults.now _ _ _
    (subst (λ n. SurveyedSoFar c.args.plan c.args.faults.now (g.K.Sink.held c.args.sink.now) (g.K.Sink.held c.loop-i.sink) n) end c.loop-i.invariant.so_far)
    (rw (c.as_bytes.ensures ∙ c.surveyed_line.ensures) at c.in-Err.ensures.bytes)
