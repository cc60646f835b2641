-- What the program owes for an input: the line of a refusal, or the text of the run of the plan that was read.
use Rattle.std.specs.Prelude.{◌≡◌, ℕ, ◌⊎◌, nat_lt, if◌then◌else◌, List, [], ◌++◌, length, codes, decimal, Option, Some, None, Result, Ok, Err}
use Rattle.std.specs.Option.{option_or}
use Rattle.bus_formats.specs.Plans.{PlanData, without_subsystems}
use Rattle.bus_formats.specs.declared.log.Delivery.{Delivery}
use Rattle.bus_load.specs.Lines.{load_text}
use Rattle.bus_load.specs.Load.{first_offer}
use Rattle.bus_load.specs.declared.reckoned.OfferPlace.{OfferPlace}
use Rattle.bus_plan.specs.PlanOf.{plan_of_bytes}
use Rattle.bus_plan.specs.Refusals.{number_of, name_of, place_of}
use Rattle.bus_plan.specs.declared.refusal.PlanRefusal.{PlanRefusal}
use Rattle.bus_survey.specs.Lines.{survey_text}
use Rattle.bus_survey.specs.Surveys.{logs_of}
use Rattle.bus_text.specs.Texts.{line, number, spaced}
use Rattle.bus_tool.specs.Objects.{AreSame, AfterRun}
use Rattle.bus_tool.specs.Texts.{plan_run, text_of}
use Rattle.bus_tool.specs.declared.text.Text.{Text}

-- the most bytes of a plan's text
abbrev pub limit : ℕ
limit = 4194304

abbrev pub too_long : List ℕ
too_long = line (codes "input refused too-long")

abbrev pub place_text : Option (List ℕ) → List ℕ
place_text None = []
place_text (Some place) = spaced place

-- the line of a refused plan: the rule's number, its name, and the first place that breaks it
abbrev pub refusal_line : PlanRefusal → List ℕ
refusal_line refusal =
    line (codes "plan refused" ++ number (number_of refusal) ++ spaced (name_of refusal) ++ place_text (place_of refusal))

abbrev pub refusal_of : Result PlanData PlanRefusal → Option (List ℕ)
refusal_of (Err refusal) = Some (refusal_line refusal)
refusal_of (Ok plan) = None

-- the line with which an input is refused, if it is: it is too long, or it is no plan
abbrev pub input_refusal : List ℕ → Option (List ℕ)
input_refusal input = if nat_lt limit (length input) then Some too_long else refusal_of (plan_of_bytes input)

module _ (told0 told1 : List (Option (List Delivery))) (said0 said1 : List (List ℕ)) (spare0 spare1 : List ℕ) where
  -- the bytes are the text of the whole run of the plan that was read
  pub record IsRunOf (text : Text) (input bytes : List ℕ) : Type 0 where
    pub plan : PlanData
    pub read : plan_of_bytes input ≡ Ok plan
    pub objects : AfterRun told0 told1 said0 said1 spare0 spare1 text (plan_run text plan)
    pub bytes_are : bytes ≡ text_of text (plan_run text plan) said1

  -- bytes that are due for an input, with the objects as they are then: the line of a refusal, at which they stay, or the text of a run
  abbrev pub IsDue : Text → List ℕ → List ℕ → Type 0
  IsDue text input bytes =
      ((input_refusal input ≡ Some bytes) × AreSame told0 told1 said0 said1 spare0 spare1) ⊎ ((input_refusal input ≡ None) × IsRunOf text input bytes)

-- the bytes are the text of a survey of the plan that was read
pub record IsSurveyOf (input bytes : List ℕ) : Type 0 where
  pub plan : PlanData
  pub read : plan_of_bytes input ≡ Ok plan
  pub bytes_are : bytes ≡ survey_text (logs_of (without_subsystems plan) plan.faults)

-- bytes that are due for an input whose plan is surveyed: the line of a refusal, or the text of the survey
abbrev pub IsSurveyDue : List ℕ → List ℕ → Type 0
IsSurveyDue input bytes = (input_refusal input ≡ Some bytes) ⊎ ((input_refusal input ≡ None) × IsSurveyOf input bytes)

-- ---- a plan whose schedule is reckoned

-- the line of a plan of which the station that starts offers control: at the first item that does
abbrev pub offer_line : OfferPlace → List ℕ
offer_line place = line (codes "load refused 1 offer station." ++ decimal place.station ++ codes ".frame." ++ decimal place.frame ++ codes ".item." ++ decimal place.item)

abbrev pub offer_refusal_by : Option OfferPlace → Option (List ℕ)
offer_refusal_by None = None
offer_refusal_by (Some place) = Some (offer_line place)

abbrev pub offer_refusal : Result PlanData PlanRefusal → Option (List ℕ)
offer_refusal (Err refusal) = None
offer_refusal (Ok plan) = offer_refusal_by (first_offer plan)

-- the line with which an input is refused whose schedule is to be reckoned, if it is
abbrev pub load_refusal : List ℕ → Option (List ℕ)
load_refusal input = option_or (input_refusal input) (offer_refusal (plan_of_bytes input))

-- the bytes are the text of the schedule of the plan that was read
pub record IsLoadOf (input bytes : List ℕ) : Type 0 where
  pub plan : PlanData
  pub read : plan_of_bytes input ≡ Ok plan
  pub bytes_are : bytes ≡ load_text plan

-- bytes that are due for an input whose schedule is reckoned: the line of a refusal, or that text
abbrev pub IsLoadDue : List ℕ → List ℕ → Type 0
IsLoadDue input bytes = (load_refusal input ≡ Some bytes) ⊎ ((load_refusal input ≡ None) × IsLoadOf input bytes)
