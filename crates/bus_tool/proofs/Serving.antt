-- The objects that a run takes and leaves, and its report.
use Rattle.std.proofs.Common.{◌≡◌, ℕ, ◌≤◌, List, [], Option, inl}
use Rattle.std.specs.Io.KnownBytes.{Appends}
use Rattle.bus_formats.specs.Logs.{LogData}
use Rattle.bus_formats.specs.Plans.{PlanData}
use Rattle.bus_formats.specs.declared.log.Delivery.{Delivery}
use Rattle.bus_line.specs.declared.cutter.TheConstants.{LAG}
use Rattle.bus_law_run.specs.WorldIsRun.{plan_end}
use Rattle.bus_model.specs.World.{world}
use Rattle.bus_report.specs.Report.{report_text}
use Rattle.bus_run.specs.Deliveries.{Serves}
use Rattle.bus_run.specs.Kept.{places, IsPicked}
use Rattle.bus_run.specs.Tables.{TellTables}
use Rattle.bus_run.specs.declared.finished.FinishedBus.{FinishedBus}
use Rattle.bus_tool.specs.Answers.{AnswersRun, Wrote}
use Rattle.bus_tool.specs.Texts.{text_of}
use Rattle.bus_tool.specs.declared.text.Text.TheVariants.{Report}

-- the answer to a plan that was run for its report
pub served-after : (held0 held1 : Option (List ℕ)) (sink0 sink1 status : ℕ) (bus : Option FinishedBus)
    (told0 told1 : List (Option (List Delivery))) (said0 said1 : List (List ℕ)) (spare0 spare1 : List ℕ) (plan : PlanData) (before : List (Option (List Delivery)))
    → sink0 ≤ sink1 → IsPicked told0 (places plan) before → TellTables plan before told1 →
    Serves plan before (world LAG plan [] [] [] (plan_end plan)) told1 spare1 →
    Wrote held0 held1 sink0 sink1 status bus (text_of Report plan said1) plan →
    AnswersRun held0 held1 sink0 sink1 status bus told0 told1 said0 said1 spare0 spare1 Report plan
served-after held0 held1 sink0 sink1 status bus told0 told1 said0 said1 spare0 spare1 plan before later picked tables serves wrote = record {
  later = later;
  answer = inl (record { before = before; picked = picked; tables = tables; told = serves.tells }, wrote);
}

-- the report of the log that is found
pub same-report : (said : List (List ℕ)) (log found : LogData) (plan : PlanData) (held0 held1 : Option (List ℕ)) →
    log ≡ found → Appends held0 held1 (report_text log plan said) → Appends held0 held1 (report_text found plan said)
same-report said log found plan held0 held1 same bytes = rw same at bytes
