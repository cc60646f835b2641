-- What a survey runs, and what it wrote.
use Rattle.std.specs.Prelude.{◌≡◌, ℕ, ◌<◌, ◌≤◌, List, length, map, take, Option}
use Rattle.std.specs.Io.KnownBytes.{Appends}
use Rattle.bus_formats.specs.Logs.{LogData}
use Rattle.bus_formats.specs.Plans.{PlanData}
use Rattle.bus_formats.specs.declared.fault.Fault.{Fault}
use Rattle.bus_line.specs.declared.cutter.TheConstants.{LAG}
use Rattle.bus_model.specs.Log.{run_log}
use Rattle.bus_outside.specs.Causes.{Rose, GrowsByFront}
use Rattle.bus_survey.specs.Alone.{with_fault_alone}
use Rattle.bus_survey.specs.Lines.{fault_lines, survey_text}
use Rattle.bus_survey.specs.declared.surveyed.Surveyed.{Surveyed}
use Rattle.bus_survey.specs.declared.surveyed.Surveyed.TheVariants.{Done, NoMemory, WriteFault}

-- ---- the runs

-- the logs of the runs of a plan with each of these faults alone, by the message table
abbrev pub logs_of : PlanData → List Fault → List LogData
logs_of plan faults = map (λ fault. run_log LAG (with_fault_alone plan fault)) faults

-- ---- what was written

module _ (plan : PlanData) (faults : List Fault) (held0 held1 : Option (List ℕ)) where
  -- so many of the faults were tried, and their lines were written
  pub record SurveyedSoFar (count : ℕ) : Type 0 where
    pub written : Appends held0 held1 (fault_lines 1 (logs_of plan (take count faults)))

  -- each fault was tried, and the whole text was written
  pub record SurveyedAll : Type 0 where
    pub written : Appends held0 held1 (survey_text (logs_of plan faults))

  -- the lines of the faults before one of them were written
  pub record SurveyedBefore : Type 0 where
    pub count : ℕ
    pub within : count < length faults
    pub so_far : SurveyedSoFar count

  -- a front of the whole text was written
  pub record SurveyedFront : Type 0 where
    pub front : GrowsByFront held0 held1 (survey_text (logs_of plan faults))

  -- what each ending of a survey says
  abbrev pub Surveys : Surveyed → Type 0
  Surveys Done = SurveyedAll
  Surveys NoMemory = SurveyedBefore
  Surveys WriteFault = SurveyedFront

-- the count of the sink's faults never falls, and a write fault is told only where it rose or stands at its last value
pub record SurveyHasCause (before now : ℕ) (result : Surveyed) : Type 0 where
  pub later : before ≤ now
  pub failed : result ≡ WriteFault → Rose before now
