-- What an answer of the top call shows that was asked for a benchmark: a plan that is drawn is run, and one line is written. Nothing is read.
use Rattle.std.specs.Prelude.{◌≡◌, ℕ, ◌≤◌, ◌⊎◌, List, Option, Some, None}
use Rattle.std.specs.Io.KnownBytes.{Appends}
use Rattle.bus_bench.specs.Generated.{bench_plan}
use Rattle.bus_bench.specs.Lines.{bench_line}
use Rattle.bus_formats.specs.declared.log.Delivery.{Delivery}
use Rattle.bus_line.specs.declared.cutter.TheConstants.{LAG}
use Rattle.bus_model.specs.Log.{run_log}
use Rattle.bus_outside.specs.Causes.{Rose, GrowsByFront}
use Rattle.bus_run.specs.Stands.{FinishedStands}
use Rattle.bus_run.specs.declared.finished.FinishedBus.{FinishedBus}
use Rattle.bus_tool.specs.Objects.{AreSame}
use Rattle.bus_tool.specs.Tables.{IsTablesRun}
use Rattle.bus_tool.specs.Texts.{status_of}

-- the line that is due: of the run by the message table of the plan with so many messages, drawn from a number on
abbrev pub bench_text : ℕ → ℕ → List ℕ
bench_text number items = bench_line items (run_log LAG (bench_plan number items))

module _ (held0 held1 : Option (List ℕ)) (sink0 sink1 : ℕ) (status : ℕ) (bus : Option FinishedBus) (number items : ℕ) where
  -- the plan was run to the tick in which its run by the message table ends, and the line was written whole; the answer has the bus, whose stations went through every
  -- tick of it, and the status is that of the table's log
  pub record RanBench : Type 0 where
    pub left : FinishedBus
    pub has : bus ≡ Some left
    pub stands : FinishedStands (bench_plan number items) left
    pub status_is : status ≡ status_of (run_log LAG (bench_plan number items))
    pub written : Appends held0 held1 (bench_text number items)
    pub tables : IsTablesRun (bench_plan number items)

  pub record AnswersBench : Type 0 where
    pub range : status ≤ 6
    pub later_sink : sink0 ≤ sink1
    -- 0 and 1: the plan was run, and the line was written
    pub ran : status ≤ 1 → RanBench
    -- in all other cases there is no bus
    pub no_bus : 2 ≤ status → bus ≡ None
    -- 2: only for words without a meaning
    pub meant : status ≡ 2 → ⊥
    -- 3 and 4: never, since nothing is read
    pub refused : status ≡ 3 → ⊥
    pub read_fault : status ≡ 4 → ⊥
    -- 5: only where the sink failed; a front of the line was written
    pub write_fault : status ≡ 5 → Rose sink0 sink1 × GrowsByFront held0 held1 (bench_text number items)
    -- 6: want of memory, and nothing was written
    pub memory : status ≡ 6 → held1 ≡ held0
    -- where the sink doesn't fail it is done, unless memory is wanting
    pub complete : (Rose sink0 sink1 → ⊥) → (status ≡ 0) ⊎ (status ≡ 1) ⊎ (status ≡ 6)

module _ (left0 left1 held0 held1 : Option (List ℕ)) (source0 source1 sink0 sink1 : ℕ) (status : ℕ) (bus : Option FinishedBus)
    (told0 told1 : List (Option (List Delivery))) (said0 said1 : List (List ℕ)) (spare0 spare1 : List ℕ) (number items : ℕ) where
  -- nothing is read, the source has no fault more, and the objects stay
  pub record EndsBench : Type 0 where
    pub unread : left1 ≡ left0
    pub untried : source1 ≡ source0
    pub objects : AreSame told0 told1 said0 said1 spare0 spare1
    pub answer : AnswersBench held0 held1 sink0 sink1 status bus number items
