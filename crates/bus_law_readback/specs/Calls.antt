-- Calls of the top call, one after the other, on streams that tell what they hold.
use Rattle.std.specs.Prelude.{◌≡◌, ◌⊎◌, ℕ, ◌≤◌, List, [], ◌++◌, flat_map, Option, Some, Ok}
use Rattle.std.specs.Io.KnownBytes.{Appends}
use Rattle.bus_formats.specs.Plans.{PlanData}
use Rattle.bus_formats.specs.declared.log.Delivery.{Delivery}
use Rattle.bus_line.specs.declared.cutter.TheConstants.{LAG}
use Rattle.bus_law_clean.specs.Undisturbed.{IsUndisturbed}
use Rattle.bus_law_run.specs.WorldIsRun.{plan_end}
use Rattle.bus_model.specs.Log.{run_log}
use Rattle.bus_monitor.specs.Progress.{end_text}
use Rattle.bus_outside.specs.Causes.{Rose}
use Rattle.bus_plan.specs.PlanOf.{plan_of_bytes}
use Rattle.bus_report.specs.Report.{report_text}
use Rattle.bus_rules.specs.JudgeTexts.{verdict_line}
use Rattle.bus_run.specs.declared.finished.FinishedBus.{FinishedBus}
use Rattle.bus_text.specs.Texts.{word_line}
use Rattle.bus_tool.specs.Ends.{Ends}
use Rattle.bus_tool.specs.declared.words.Command.{Command}

-- a call: what the source had left and the sink held before and after, their counts of faults, the status and the bus that were answered, and what the
-- objects for subsystems told and said and their room
pub record Call : Type 0 where
  pub left0 : Option (List ℕ)
  pub left1 : Option (List ℕ)
  pub held0 : Option (List ℕ)
  pub held1 : Option (List ℕ)
  pub source0 : ℕ
  pub source1 : ℕ
  pub sink0 : ℕ
  pub sink1 : ℕ
  pub status : ℕ
  pub bus : Option FinishedBus
  pub told0 : List (Option (List Delivery))
  pub told1 : List (Option (List Delivery))
  pub said0 : List (List ℕ)
  pub said1 : List (List ℕ)
  pub spare0 : List ℕ
  pub spare1 : List ℕ

-- what the clause of the top call says of a call with this command
abbrev pub EndsAs : Call → Command → Type 0
EndsAs c command =
    Ends c.left0 c.left1 c.held0 c.held1 c.source0 c.source1 c.sink0 c.sink1 c.status c.bus c.told0 c.told1 c.said0 c.said1 c.spare0 c.spare1
    (Some command)

-- one plan was run, and was captured into an empty sink; and what that sink held then was given to be decoded
pub record AreJoined (plan_text : List ℕ) (ran captured decoded : Call) : Type 0 where
  pub run_reads : ran.left0 ≡ Some plan_text
  pub capture_reads : captured.left0 ≡ Some plan_text
  pub run_done : ran.status ≤ 1
  pub capture_done : captured.status ≤ 1
  pub empty : captured.held0 ≡ Some []
  pub decode_reads : decoded.left0 ≡ captured.held1

-- of one plan the run's sink got the report, and the capture is not refused, and the sink to which it was decoded got the report's lines of words, and the
-- number of ticks of the run
pub record ListTheSameWords (ran decoded : Call) : Type 0 where
  pub plan : PlanData
  pub report : Appends ran.held0 ran.held1 (report_text (run_log LAG plan) plan ran.said1)
  pub accepted : decoded.status ≡ 3 → ⊥
  pub listing : decoded.status ≡ 0 → Appends decoded.held0 decoded.held1 (flat_map word_line (run_log LAG plan).words ++ end_text (plan_end plan))

-- ---- a capture that is judged

-- a plan that names no fault, and of which no message may be abandoned, was captured into an empty sink; and what that sink held then was given to be judged
pub record AreCapturedAndJudged (plan : PlanData) (captured judged : Call) : Type 0 where
  pub plan_text : List ℕ
  pub is_plan : plan_of_bytes plan_text ≡ Ok plan
  pub undisturbed : IsUndisturbed plan
  pub capture_reads : captured.left0 ≡ Some plan_text
  pub capture_done : captured.status ≤ 1
  pub empty : captured.held0 ≡ Some []
  pub judge_reads : judged.left0 ≡ captured.held1

-- the verdict that there is no breach, the line `clean`, and the number of ticks
abbrev pub clean_text : ℕ → List ℕ
clean_text ticks = verdict_line 0 ++ end_text ticks

-- the capture of so many ticks isn't refused, and no breach is found in it: the status is 0, unless reading or writing failed; and then just that verdict was written
pub record IsFoundClean (ticks : ℕ) (judged : Call) : Type 0 where
  pub ends : (judged.status ≡ 0) ⊎ (((judged.status ≡ 4) × Rose judged.source0 judged.source1) ⊎ ((judged.status ≡ 5) × Rose judged.sink0 judged.sink1))
  pub wrote : judged.status ≡ 0 → Appends judged.held0 judged.held1 (clean_text ticks)
