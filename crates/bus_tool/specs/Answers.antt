-- What the parts of the top call answer, each over what the sink held before and after and its count of faults.
use Rattle.std.specs.Prelude.{◌≡◌, ℕ, ◌≤◌, ◌⊎◌, List, Option, Some, None, Ok}
use Rattle.std.specs.Io.KnownBytes.{Appends}
use Rattle.bus_outside.specs.Causes.{Rose, GrowsByFront}
use Rattle.bus_formats.specs.Accepted.{IsAccepted}
use Rattle.bus_formats.specs.Plans.{PlanData, without_subsystems}
use Rattle.bus_formats.specs.declared.log.Delivery.{Delivery}
use Rattle.bus_line.specs.declared.cutter.TheConstants.{LAG}
use Rattle.bus_load.specs.Lines.{load_text}
use Rattle.bus_model.specs.Log.{run_log}
use Rattle.bus_plan.specs.PlanOf.{plan_of_bytes}
use Rattle.bus_refusals.specs.Refusals.{WroteDue}
use Rattle.bus_run.specs.Stands.{FinishedStands}
use Rattle.bus_run.specs.declared.finished.FinishedBus.{FinishedBus}
use Rattle.bus_survey.specs.Surveys.{Surveys, SurveyHasCause}
use Rattle.bus_survey.specs.declared.surveyed.Surveyed.{Surveyed}
use Rattle.bus_survey.specs.declared.surveyed.Surveyed.TheVariants.{Done, NoMemory, WriteFault}
use Rattle.bus_tool.specs.Due.{input_refusal, load_refusal}
use Rattle.bus_tool.specs.Objects.{AreSame, AfterRun, AfterWant}
use Rattle.bus_tool.specs.Texts.{plan_run, text_of, status_of}
use Rattle.bus_tool.specs.declared.text.Text.{Text}

module _ (held0 held1 : Option (List ℕ)) (sink0 sink1 : ℕ) (status : ℕ) (bus : Option FinishedBus) where
  -- the answer to an input that is refused with this line
  pub record AnswersRefused (line : List ℕ) : Type 0 where
    pub later : sink0 ≤ sink1
    pub no_bus : bus ≡ None
    pub wrote : WroteDue held0 held1 sink0 sink1 status 3 line

  -- the whole text of a run was written, and the answer has the bus that ran it
  pub record WroteRun (bytes : List ℕ) (plan : PlanData) : Type 0 where
    pub left : FinishedBus
    pub has : bus ≡ Some left
    pub stands : FinishedStands plan left
    pub status_is : status ≡ status_of (run_log LAG plan)
    pub written : Appends held0 held1 bytes

  -- a front of it was written, where the sink failed
  pub record WroteFront (bytes : List ℕ) : Type 0 where
    pub status_is : status ≡ 5
    pub no_bus : bus ≡ None
    pub failed : Rose sink0 sink1
    pub front : GrowsByFront held0 held1 bytes

  -- what was written of a run
  abbrev pub Wrote : List ℕ → PlanData → Type 0
  Wrote bytes plan = WroteRun bytes plan ⊎ WroteFront bytes

module _ (held0 held1 : Option (List ℕ)) (sink0 sink1 : ℕ) (status : ℕ) (bus : Option FinishedBus)
    (told0 told1 : List (Option (List Delivery))) (said0 said1 : List (List ℕ)) (spare0 spare1 : List ℕ) where
  -- memory was wanting: nothing was written, and no object lost what it had
  pub record WantedMemory (text : Text) : Type 0 where
    pub status_is : status ≡ 6
    pub no_bus : bus ≡ None
    pub unwritten : held1 ≡ held0
    pub objects : AfterWant told0 told1 said0 said1 spare0 spare1 text

  -- the answer to a plan that is run
  pub record AnswersRun (text : Text) (plan : PlanData) : Type 0 where
    pub later : sink0 ≤ sink1
    pub answer : (AfterRun told0 told1 said0 said1 spare0 spare1 text plan × Wrote held0 held1 sink0 sink1 status bus (text_of text plan said1) plan)
        ⊎ WantedMemory text

  -- the plan that was read was run
  pub record RanPlan (text : Text) (input : List ℕ) : Type 0 where
    pub accepted : input_refusal input ≡ None
    pub plan : PlanData
    pub read : plan_of_bytes input ≡ Ok plan
    pub is_accepted : IsAccepted plan
    pub objects : AfterRun told0 told1 said0 said1 spare0 spare1 text (plan_run text plan)
    pub wrote : Wrote held0 held1 sink0 sink1 status bus (text_of text (plan_run text plan) said1) (plan_run text plan)

  -- the input was refused with its line, and the objects stay
  pub record WasRefusedWith (input : List ℕ) : Type 0 where
    pub line : List ℕ
    pub due : input_refusal input ≡ Some line
    pub answer : AnswersRefused held0 held1 sink0 sink1 status bus line
    pub objects : AreSame told0 told1 said0 said1 spare0 spare1

  -- the answer to an input
  pub record Answers (text : Text) (input : List ℕ) : Type 0 where
    pub later : sink0 ≤ sink1
    pub answer : RanPlan text input ⊎ WasRefusedWith input ⊎ WantedMemory text

-- ---- a plan whose faults are surveyed

-- the status after a survey that ended so
abbrev pub status_after_survey : Surveyed → ℕ
status_after_survey Done = 0
status_after_survey NoMemory = 6
status_after_survey WriteFault = 5

module _ (held0 held1 : Option (List ℕ)) (sink0 sink1 : ℕ) (status : ℕ) where
  -- the faults of the plan that was read were surveyed
  pub record SurveyedPlan (input : List ℕ) : Type 0 where
    pub accepted : input_refusal input ≡ None
    pub plan : PlanData
    pub read : plan_of_bytes input ≡ Ok plan
    pub is_accepted : IsAccepted plan
    pub surveyed : Surveyed
    pub surveys : Surveys (without_subsystems plan) plan.faults held0 held1 surveyed
    pub cause : SurveyHasCause sink0 sink1 surveyed
    pub status_is : status ≡ status_after_survey surveyed

  -- the input was refused with its line
  pub record RefusedSurvey (input : List ℕ) : Type 0 where
    pub line : List ℕ
    pub due : input_refusal input ≡ Some line
    pub wrote : WroteDue held0 held1 sink0 sink1 status 3 line

  -- the answer to an input
  pub record AnswersSurvey (input : List ℕ) : Type 0 where
    pub later : sink0 ≤ sink1
    pub answer : SurveyedPlan input ⊎ RefusedSurvey input ⊎ ((status ≡ 6) × (held1 ≡ held0))

-- ---- a plan whose schedule is reckoned

module _ (held0 held1 : Option (List ℕ)) (sink0 sink1 : ℕ) (status : ℕ) where
  -- the text of the plan that was read was written, or a front of it
  pub record ReckonedPlan (input : List ℕ) : Type 0 where
    pub accepted : load_refusal input ≡ None
    pub plan : PlanData
    pub read : plan_of_bytes input ≡ Ok plan
    pub is_accepted : IsAccepted plan
    pub wrote : WroteDue held0 held1 sink0 sink1 status 0 (load_text plan)

  -- the input was refused with its line
  pub record RefusedLoad (input : List ℕ) : Type 0 where
    pub line : List ℕ
    pub due : load_refusal input ≡ Some line
    pub wrote : WroteDue held0 held1 sink0 sink1 status 3 line

  -- the answer to an input
  pub record AnswersLoad (input : List ℕ) : Type 0 where
    pub later : sink0 ≤ sink1
    pub answer : ReckonedPlan input ⊎ RefusedLoad input ⊎ ((status ≡ 6) × (held1 ≡ held0))
