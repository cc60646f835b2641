-- What the answer of the command that surveys faults shows, from what its parts show.
use Rattle.std.proofs.Common.{◌≡◌, ℕ, ◌≤◌, List, length, take, Option, Some, None, Ok, refl, inl, inr, arith, ◌∙◌, ap, subst}
use Rattle.std.specs.Prelude.{◌⊎◌}
use Rattle.bus_formats.specs.Accepted.{IsAccepted}
use Rattle.bus_formats.specs.Plans.{PlanData, without_subsystems}
use Rattle.bus_formats.specs.declared.log.Delivery.{Delivery}
use Rattle.bus_outside.specs.Causes.{Rose}
use Rattle.bus_plan.specs.PlanOf.{plan_of_bytes}
use Rattle.bus_run.specs.declared.finished.FinishedBus.{FinishedBus}
use Rattle.bus_survey.specs.Surveys.{Surveys, SurveyHasCause}
use Rattle.bus_survey.specs.declared.surveyed.Surveyed.{Surveyed as Ending}
use Rattle.bus_survey.specs.declared.surveyed.Surveyed.TheVariants.{Done, NoMemory, WriteFault}
use Rattle.bus_tool.specs.Answers.{AnswersRefused, AnswersSurvey, status_after_survey}
use Rattle.bus_tool.specs.Due.{input_refusal}
use Rattle.bus_tool.specs.Ends.{ReadsInput, WasRefused, DidNothing, Surveyed, StoppedSurvey, RanOutBetween, IsFine, EndsSurvey}
use Rattle.bus_tool.specs.Objects.{AreSame}
use Rattle.bus_tool.proofs.Answering.{accepted-input}
use Rattle.bus_tool.proofs.Ending.{one_refusal, told_input}
use Rattle.bus_tool.proofs.TablesRun.{survey-told}

-- ---- the answer to an input

module _ (held0 held1 : Option (List ℕ)) (sink0 sink1 : ℕ) (input : List ℕ) where
  -- memory was wanting before the plan was read
  pub wants-plan : held1 ≡ held0 → sink0 ≤ sink1 → AnswersSurvey held0 held1 sink0 sink1 6 input
  wants-plan same later = record { later = later; answer = inr (inr (refl, same)) }

  -- the input was refused
  pub refuses-input : {bus : Option FinishedBus} (status : ℕ) (line : List ℕ) → input_refusal input ≡ Some line →
      AnswersRefused held0 held1 sink0 sink1 status bus line → AnswersSurvey held0 held1 sink0 sink1 status input
  refuses-input status line due answer = record { later = answer.later; answer = inr (inl record { line = line; due = due; wrote = answer.wrote }) }

  -- its plan was surveyed
  pub surveys-input : (plan : PlanData) (surveyed : Ending) (status : ℕ) → length input ≤ 4194304 → plan_of_bytes input ≡ Ok plan → IsAccepted plan →
      Surveys (without_subsystems plan) plan.faults held0 held1 surveyed → SurveyHasCause sink0 sink1 surveyed → status ≡ status_after_survey surveyed →
      AnswersSurvey held0 held1 sink0 sink1 status input
  surveys-input plan surveyed status short read is_accepted surveys cause is = record {
    later = cause.later;
    answer = inl record {
      accepted = accepted-input input plan short read;
      plan = plan;
      read = read;
      is_accepted = is_accepted;
      surveyed = surveyed;
      surveys = surveys;
      cause = cause;
      status_is = is;
    };
  }

-- ---- how the command ends

module _ (left0 left1 held0 held1 : Option (List ℕ)) (source0 source1 sink0 sink1 : ℕ)
    (told : List (Option (List Delivery))) (said : List (List ℕ)) (spare : List ℕ)
    (later_source : source0 ≤ source1) (later_sink : sink0 ≤ sink1) where
  same_objects : AreSame told told said said spare spare
  same_objects = record { told = refl; said = refl; spare = refl }

  done_ends : Surveyed left0 left1 held0 held1 source0 source1 sink0 sink1 0 None told told said said spare spare →
      EndsSurvey left0 left1 held0 held1 source0 source1 sink0 sink1 0 None told told said said spare spare
  done_ends surveyed = record {
    range = omega arith;
    later_source = later_source;
    later_sink = later_sink;
    no_bus = refl;
    objects = same_objects;
    ran = λ _. surveyed;
    well = λ s. omega (arith, s);
    meant = λ s. omega (arith, s);
    refused = λ s. absurd (omega (arith, s));
    read_fault = λ s. absurd (omega (arith, s));
    write_fault = λ s. absurd (omega (arith, s));
    memory = λ s. absurd (omega (arith, s));
    complete = λ _. inl refl;
  }

  refused_ends : WasRefused left0 left1 held0 held1 source0 source1 sink0 sink1 3 None told told said said spare spare →
      EndsSurvey left0 left1 held0 held1 source0 source1 sink0 sink1 3 None told told said said spare spare
  refused_ends refused = record {
    range = omega arith;
    later_source = later_source;
    later_sink = later_sink;
    no_bus = refl;
    objects = same_objects;
    ran = λ s. absurd (omega (arith, s));
    well = λ s. omega (arith, s);
    meant = λ s. omega (arith, s);
    refused = λ _. refused;
    read_fault = λ s. absurd (omega (arith, s));
    write_fault = λ s. absurd (omega (arith, s));
    memory = λ s. absurd (omega (arith, s));
    complete = λ fine. absurd (not_fine fine);
  }
    where
      not_fine : IsFine left0 left1 held0 held1 source0 source1 sink0 sink1 3 None told told said said spare spare → ⊥
      not_fine fine =
          let read : ReadsInput (Some fine.told) left1 refused.input = subst (λ l. ReadsInput l left1 refused.input) fine.left refused.read in
          let is : refused.input ≡ take 4194305 fine.told = told_input fine.told refused.input left1 read in
          let none : input_refusal refused.input ≡ None = ap input_refusal is ∙ fine.accepted in
          one_refusal (input_refusal refused.input) refused.line refused.due none

  pub read_fault_ends : Rose source0 source1 → held1 ≡ held0 →
      EndsSurvey left0 left1 held0 held1 source0 source1 sink0 sink1 4 None told told said said spare spare
  read_fault_ends rose unwritten = record {
    range = omega arith;
    later_source = later_source;
    later_sink = later_sink;
    no_bus = refl;
    objects = same_objects;
    ran = λ s. absurd (omega (arith, s));
    well = λ s. omega (arith, s);
    meant = λ s. omega (arith, s);
    refused = λ s. absurd (omega (arith, s));
    read_fault = λ _. (rose, record { unwritten = unwritten; objects = same_objects });
    write_fault = λ s. absurd (omega (arith, s));
    memory = λ s. absurd (omega (arith, s));
    complete = λ fine. absurd (fine.source rose);
  }

  stopped_ends : Rose sink0 sink1 → StoppedSurvey left0 left1 held0 held1 source0 source1 sink0 sink1 5 None told told said said spare spare →
      EndsSurvey left0 left1 held0 held1 source0 source1 sink0 sink1 5 None told told said said spare spare
  stopped_ends rose stopped = record {
    range = omega arith;
    later_source = later_source;
    later_sink = later_sink;
    no_bus = refl;
    objects = same_objects;
    ran = λ s. absurd (omega (arith, s));
    well = λ s. omega (arith, s);
    meant = λ s. omega (arith, s);
    refused = λ s. absurd (omega (arith, s));
    read_fault = λ s. absurd (omega (arith, s));
    write_fault = λ _. (rose, stopped);
    memory = λ s. absurd (omega (arith, s));
    complete = λ fine. absurd (fine.sink rose);
  }

  memory_ends : DidNothing left0 left1 held0 held1 source0 source1 sink0 sink1 6 None told told said said spare spare
      ⊎ RanOutBetween left0 left1 held0 held1 source0 source1 sink0 sink1 6 None told told said said spare spare →
      EndsSurvey left0 left1 held0 held1 source0 source1 sink0 sink1 6 None told told said said spare spare
  memory_ends wanting = record {
    range = omega arith;
    later_source = later_source;
    later_sink = later_sink;
    no_bus = refl;
    objects = same_objects;
    ran = λ s. absurd (omega (arith, s));
    well = λ s. omega (arith, s);
    meant = λ s. omega (arith, s);
    refused = λ s. absurd (omega (arith, s));
    read_fault = λ s. absurd (omega (arith, s));
    write_fault = λ s. absurd (omega (arith, s));
    memory = λ _. wanting;
    complete = λ _. inr refl;
  }

  -- memory was wanting before the input was read
  pub unread_ends : held1 ≡ held0 → EndsSurvey left0 left1 held0 held1 source0 source1 sink0 sink1 6 None told told said said spare spare
  unread_ends unwritten = memory_ends (inl record { unwritten = unwritten; objects = same_objects })

  -- the plan of an input was surveyed
  survey_ends : (input : List ℕ) → ReadsInput left0 left1 input → input_refusal input ≡ None → (plan : PlanData) → plan_of_bytes input ≡ Ok plan →
      IsAccepted plan → (surveyed : Ending) → Surveys (without_subsystems plan) plan.faults held0 held1 surveyed → SurveyHasCause sink0 sink1 surveyed →
      EndsSurvey left0 left1 held0 held1 source0 source1 sink0 sink1 (status_after_survey surveyed) None told told said said spare spare
  survey_ends input read accepted plan is_plan is_accepted Done surveys cause = done_ends record {
    input = input;
    read = read;
    accepted = accepted;
    plan = plan;
    is_plan = is_plan;
    written = surveys.written;
    tables = survey-told plan is_accepted;
  }
  survey_ends input read accepted plan is_plan is_accepted NoMemory surveys cause = memory_ends (inr record {
    input = input;
    read = read;
    accepted = accepted;
    plan = plan;
    is_plan = is_plan;
    before = surveys;
  })
  survey_ends input read accepted plan is_plan is_accepted WriteFault surveys cause = stopped_ends (cause.failed refl) record {
    input = input;
    read = read;
    bytes = _;
    due = inr (accepted, record { plan = plan; read = is_plan; bytes_are = refl });
    front = surveys.front;
  }

  -- what the answer to an input that was read shows
  pub survey_answered : (input : List ℕ) (status : ℕ) → ReadsInput left0 left1 input → AnswersSurvey held0 held1 sink0 sink1 status input →
      EndsSurvey left0 left1 held0 held1 source0 source1 sink0 sink1 status None told told said said spare spare
  survey_answered input status read answers = elim answers.answer [
    | inl ran ↦ rw ran.status_is (survey_ends input read ran.accepted ran.plan ran.read ran.is_accepted ran.surveyed ran.surveys ran.cause)
    | inr other ↦ elim other [
      | inl refused ↦ elim refused.wrote [
        | inl done ↦ rw done.0 (refused_ends
            record { input = input; read = read; line = refused.line; due = refused.due; written = done.1; objects = same_objects })
        | inr failed ↦ rw failed.0 (stopped_ends failed.1
            record { input = input; read = read; bytes = refused.line; due = inl refused.due; front = failed.2 })
      ]
      | inr wanting ↦ rw wanting.0 (memory_ends (inl record { unwritten = wanting.1; objects = same_objects }))
    ]
  ]
