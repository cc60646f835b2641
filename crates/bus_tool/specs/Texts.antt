-- The text that a command writes of a plan's run: which plan is run for it, and what the text is.
use Rattle.std.specs.Prelude.{ℕ, not, ◌||◌, if◌then◌else◌, List, []}
use Rattle.std.specs.List.{list_all}
use Rattle.bus_capture.specs.Captures.{capture_text}
use Rattle.bus_formats.specs.Logs.{LogData}
use Rattle.bus_formats.specs.Plans.{PlanData, without_subsystems}
use Rattle.bus_formats.specs.declared.log.Attempt.{Attempt}
use Rattle.bus_line.specs.declared.cutter.TheConstants.{LAG}
use Rattle.bus_law_run.specs.WorldIsRun.{plan_end}
use Rattle.bus_model.specs.Log.{all_went_well, went_well, run_log}
use Rattle.bus_model.specs.World.{world}
use Rattle.bus_report.specs.Report.{report_text}
use Rattle.bus_tool.specs.declared.text.Text.{Text}
use Rattle.bus_tool.specs.declared.text.Text.TheVariants.{Report, Capture}

-- the plan that is run: a capture's without its subsystems
abbrev pub plan_run : Text → PlanData → PlanData
plan_run Report plan = plan
plan_run Capture plan = without_subsystems plan

-- the text of a plan's run, after which the objects say this: the report of the message table's log, or the capture of the ticks up to the table's end
abbrev pub text_of : Text → PlanData → List (List ℕ) → List ℕ
text_of Report plan said = report_text (run_log LAG plan) plan said
text_of Capture plan said = capture_text (world LAG plan [] [] [] (plan_end plan))

-- the status after these attempts: 0 where the last attempt of each item went well, else 1
abbrev pub status_of_attempts : List Attempt → ℕ
status_of_attempts attempts = if list_all (λ a. not a.finishes || went_well a.outcome) attempts then 0 else 1

-- the status after a run
abbrev pub status_of : LogData → ℕ
status_of log = if all_went_well log then 0 else 1
