-- The capture of a run is written.
use Rattle.std.specs.Prelude.{ℕ, List, [], ◌++◌, Option, Result, MatchResult}
use Rattle.std.specs.Io.KnownBytes.{Appends}
use Rattle.bus_capture.specs.Captures.{header, capture_text}
use Rattle.bus_formats.specs.Plans.{PlanData}
use Rattle.bus_formats.specs.declared.log.Delivery.{Delivery}
use Rattle.bus_line.specs.declared.cutter.TheConstants.{LAG}
use Rattle.bus_model.specs.World.{world}
use Rattle.bus_outside.specs.Causes.{GrowsByFront}
use Rattle.bus_run.specs.Deliveries.{Serves}
use Rattle.bus_law_run.specs.WorldIsRun.{plan_end}
use Rattle.bus_run.specs.Stands.{BusStands, FinishedStands}
use Rattle.bus_run.specs.declared.bus.Bus.{Bus}
use Rattle.bus_run.specs.declared.finished.FinishedBus.{FinishedBus}
use Rattle.bus_tool.specs.CaptureWriters.{CaptureWriterStands}
use Rattle.bus_tool.specs.declared.capture_writer.CaptureWriter.{CaptureWriter}

-- the capture of the whole run was written, and this bus is left, or a front of it was written
pub record Captured {E : Type 0} (plan : PlanData) (held0 held1 : Option (List ℕ)) (result : Result FinishedBus E) : Type 0 where
  pub wrote : MatchResult result
      (λ left. FinishedStands plan left × Appends held0 held1 (capture_text (world LAG plan [] [] [] (plan_end plan))))
      (λ _. GrowsByFront held0 held1 (capture_text (world LAG plan [] [] [] (plan_end plan))))

-- in the midst of it: so many ticks ran with these objects, and the lines that they fill were written
pub record Captures (plan : PlanData) (held0 held1 : Option (List ℕ)) (bus : Bus) (writer : CaptureWriter)
    (before told : List (Option (List Delivery))) (spare : List ℕ) : Type 0 where
  pub ticks : ℕ
  pub stands : BusStands plan ticks bus
  pub serves : Serves plan before (world LAG plan [] [] [] ticks) told spare
  pub text : List ℕ
  pub lines : CaptureWriterStands writer (world LAG plan [] [] [] ticks) text
  pub written : Appends held0 held1 (header ++ text)
