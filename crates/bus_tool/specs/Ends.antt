-- What each answer of the top call shows: how it came about, what was read, what was written, and what became of the objects for
-- subsystems. Everything is said over what the source had left and the sink held before and after, where they tell it, over their counts of
-- faults, and over what the objects told and said and their room before and after, in their order.
use Rattle.std.specs.List.{AllByRecursion as Each}
use Rattle.std.specs.Prelude.{◌≡◌, ℕ, ◌+◌, ◌≤◌, ◌⊎◌, List, take, length, Option, Some, None, Ok}
use Rattle.std.specs.Io.KnownBytes.{Consumes, IsAtEnd, Appends}
use Rattle.bus_base.specs.declared.samples.Pair.{Pair}
use Rattle.bus_line.specs.declared.cutter.TheConstants.{LAG}
use Rattle.bus_monitor.specs.Listings.{word_listing, message_listing}
use Rattle.bus_monitor.specs.Progress.{word_lines, message_lines}
use Rattle.bus_monitor.specs.Scribes.{IsListed, ListingHasCause}
use Rattle.bus_monitor.specs.declared.listing.Listing.{Listing}
use Rattle.bus_monitor.specs.declared.listing.Listing.TheVariants.{Done, Refused, ReadFault, WriteFault}
use Rattle.bus_formats.specs.Plans.{PlanData, without_subsystems}
use Rattle.bus_formats.specs.declared.log.Delivery.{Delivery}
use Rattle.bus_formats.specs.Accepted.{IsAccepted}
use Rattle.bus_formats.specs.declared.fault.Fault.{Fault}
use Rattle.bus_load.specs.InTime.{with_faults, AddsNone}
use Rattle.bus_load.specs.Lines.{load_text}
use Rattle.bus_load.specs.Load.{verdict}
use Rattle.bus_load.specs.declared.reckoned.Verdict.TheVariants.{Long, Short}
use Rattle.bus_model.specs.Log.{run_log}
use Rattle.bus_outside.specs.Causes.{Rose, GrowsByFront}
use Rattle.bus_plan.specs.PlanOf.{plan_of_bytes}
use Rattle.bus_run.specs.Stands.{FinishedStands}
use Rattle.bus_run.specs.declared.finished.FinishedBus.{FinishedBus}
use Rattle.bus_survey.specs.Lines.{survey_text}
use Rattle.bus_survey.specs.Surveys.{logs_of, SurveyedBefore}
use Rattle.bus_refusals.specs.Refusals.{WroteDue, words_refused, capture_refusal_line}
use Rattle.bus_tool.specs.Due.{limit, input_refusal, load_refusal, IsDue, IsSurveyDue, IsLoadDue}
use Rattle.bus_tool.specs.EndsBench.{EndsBench}
use Rattle.bus_tool.specs.EndsBridge.{EndsBridge}
use Rattle.bus_tool.specs.EndsJudge.{EndsJudge}
use Rattle.bus_tool.specs.Objects.{AreSame, AfterRun, AfterWant}
use Rattle.bus_tool.specs.Tables.{IsTablesRun, AreTablesRuns, FramesAreInTime}
use Rattle.bus_tool.specs.Texts.{plan_run, text_of, status_of}
use Rattle.bus_tool.specs.declared.words.Command.{Command}
use Rattle.bus_tool.specs.declared.words.Command.TheVariants as commands
use Rattle.bus_tool.specs.declared.text.Text.{Text}
use Rattle.bus_tool.specs.declared.text.Text.TheVariants.{Report, Capture}

-- the source gave this input: all that was left, or one byte past the limit
pub record ReadsInput (old now : Option (List ℕ)) (input : List ℕ) : Type 0 where
  pub consumed : Consumes old now input
  pub short : length input ≤ limit + 1
  pub whole : length input ≤ limit → IsAtEnd now

-- the status after a listing that ended so, with what the sink held then and now and its count of faults then and now: 0 where it was done,
-- 4 at a read fault, 5 at a write fault; at a refusal its line was written with status 3, or a front of it with 5
abbrev pub StatusAfter : Option (List ℕ) → Option (List ℕ) → ℕ → ℕ → ℕ → Listing → Type 0
StatusAfter held held1 sink sink1 status (Done ticks) = (status ≡ 0) × (held1 ≡ held) × (sink1 ≡ sink)
StatusAfter held held1 sink sink1 status (Refused refusal) = WroteDue held held1 sink sink1 status 3 (capture_refusal_line refusal)
StatusAfter held held1 sink sink1 status ReadFault = (status ≡ 4) × (held1 ≡ held) × (sink1 ≡ sink)
StatusAfter held held1 sink sink1 status WriteFault = (status ≡ 5) × (held1 ≡ held) × (sink1 ≡ sink)

-- a capture was listed: the lines of its ticks, then the whole listing at its end; never for want of memory
module _ (left0 left1 held0 held1 : Option (List ℕ)) (source0 source1 sink0 sink1 : ℕ) (status : ℕ) where
  pub record ListsCapture (lines whole : List Pair → List ℕ) : Type 0 where
    pub listing : Listing
    pub held : Option (List ℕ)
    pub sink : ℕ
    pub listed : IsListed lines whole left0 left1 held0 held listing
    pub cause : ListingHasCause source0 source1 sink0 sink listing
    pub later : sink ≤ sink1
    pub answer : StatusAfter held held1 sink sink1 status listing

module _ (left0 left1 held0 held1 : Option (List ℕ)) (source0 source1 sink0 sink1 : ℕ) (status : ℕ) (bus : Option FinishedBus)
    (told0 told1 : List (Option (List Delivery))) (said0 said1 : List (List ℕ)) (spare0 spare1 : List ℕ) where
  -- ---- words without a meaning

  -- the status is 2, or 5 where the line's write failed; nothing is read, the source has no fault more, and the objects stay
  pub record EndsUnmeant : Type 0 where
    pub no_bus : bus ≡ None
    pub objects : AreSame told0 told1 said0 said1 spare0 spare1
    pub unread : left1 ≡ left0
    pub untried : source1 ≡ source0
    pub later : sink0 ≤ sink1
    pub wrote : WroteDue held0 held1 sink0 sink1 status 2 words_refused

  -- ---- the commands that run a plan, each with its text

  -- the input was read, its plan was run to the tick in which its run by the message table ends, and the whole text of that run was written; the answer has the
  -- bus, whose stations went through every tick of it, the objects are those of that run, and the status is that of the table's log
  pub record Ran (text : Text) : Type 0 where
    pub input : List ℕ
    pub read : ReadsInput left0 left1 input
    pub accepted : input_refusal input ≡ None
    pub plan : PlanData
    pub is_plan : plan_of_bytes input ≡ Ok plan
    pub left : FinishedBus
    pub has : bus ≡ Some left
    pub stands : FinishedStands (plan_run text plan) left
    pub objects : AfterRun told0 told1 said0 said1 spare0 spare1 text (plan_run text plan)
    pub status_is : status ≡ status_of (run_log LAG (plan_run text plan))
    pub written : Appends held0 held1 (text_of text (plan_run text plan) said1)
    -- the run is that of the message table: the world is over where it ends and not before, its log is found there, and no two stations ever drove one
    -- channel
    pub tables : IsTablesRun (plan_run text plan)

  -- the input was read and is refused, the refusal's line was written, and the objects stay
  pub record WasRefused : Type 0 where
    pub input : List ℕ
    pub read : ReadsInput left0 left1 input
    pub line : List ℕ
    pub due : input_refusal input ≡ Some line
    pub written : Appends held0 held1 line
    pub objects : AreSame told0 told1 said0 said1 spare0 spare1

  -- a front of the bytes that were due was written
  pub record Stopped (text : Text) : Type 0 where
    pub input : List ℕ
    pub read : ReadsInput left0 left1 input
    pub bytes : List ℕ
    pub due : IsDue told0 told1 said0 said1 spare0 spare1 text input bytes
    pub front : GrowsByFront held0 held1 bytes

  -- nothing was written, and the objects stay
  pub record DidNothing : Type 0 where
    pub unwritten : held1 ≡ held0
    pub objects : AreSame told0 told1 said0 said1 spare0 spare1

  -- memory was wanting: nothing was written, and no object lost what it had
  pub record RanOut (text : Text) : Type 0 where
    pub unwritten : held1 ≡ held0
    pub objects : AfterWant told0 told1 said0 said1 spare0 spare1 text

  -- the input isn't refused, and neither the source nor the sink failed
  pub record IsFine : Type 0 where
    pub told : List ℕ
    pub left : left0 ≡ Some told
    pub accepted : input_refusal (take (limit + 1) told) ≡ None
    pub source : Rose source0 source1 → ⊥
    pub sink : Rose sink0 sink1 → ⊥

  pub record EndsRun (text : Text) : Type 0 where
    pub range : status ≤ 6
    pub later_source : source0 ≤ source1
    pub later_sink : sink0 ≤ sink1
    -- 0 and 1: the input was read to its end, its plan was run, and the whole text was written
    pub ran : status ≤ 1 → Ran text
    -- in all other cases there is no bus
    pub no_bus : 2 ≤ status → bus ≡ None
    -- 2: only for words without a meaning
    pub meant : status ≡ 2 → ⊥
    -- 3: the input was read and is refused
    pub refused : status ≡ 3 → WasRefused
    -- 4: only where the source failed; nothing was written
    pub read_fault : status ≡ 4 → Rose source0 source1 × DidNothing
    -- 5: only where the sink failed; a front of the bytes that were due was written
    pub write_fault : status ≡ 5 → Rose sink0 sink1 × Stopped text
    -- 6: want of memory, and nothing was written
    pub memory : status ≡ 6 → RanOut text
    -- where all is fine it is done, unless memory is wanting
    pub complete : IsFine → (status ≡ 0) ⊎ (status ≡ 1) ⊎ (status ≡ 6)

  -- ---- the command that surveys the faults of a plan

  -- the input was read, its plan was run once for each of its faults to the end, without subsystems and with that fault alone, and the whole text
  -- of the logs of these runs was written
  pub record Surveyed : Type 0 where
    pub input : List ℕ
    pub read : ReadsInput left0 left1 input
    pub accepted : input_refusal input ≡ None
    pub plan : PlanData
    pub is_plan : plan_of_bytes input ≡ Ok plan
    pub written : Appends held0 held1 (survey_text (logs_of (without_subsystems plan) plan.faults))
    -- each of the runs is that of the message table
    pub tables : AreTablesRuns (without_subsystems plan) plan.faults

  -- a front of the bytes that were due was written
  pub record StoppedSurvey : Type 0 where
    pub input : List ℕ
    pub read : ReadsInput left0 left1 input
    pub bytes : List ℕ
    pub due : IsSurveyDue input bytes
    pub front : GrowsByFront held0 held1 bytes

  -- memory was wanting for the run of a fault, and the lines of the faults before it were written
  pub record RanOutBetween : Type 0 where
    pub input : List ℕ
    pub read : ReadsInput left0 left1 input
    pub accepted : input_refusal input ≡ None
    pub plan : PlanData
    pub is_plan : plan_of_bytes input ≡ Ok plan
    pub before : SurveyedBefore (without_subsystems plan) plan.faults held0 held1

  pub record EndsSurvey : Type 0 where
    pub range : status ≤ 6
    pub later_source : source0 ≤ source1
    pub later_sink : sink0 ≤ sink1
    -- there is never a bus, and the objects stay
    pub no_bus : bus ≡ None
    pub objects : AreSame told0 told1 said0 said1 spare0 spare1
    -- 0: the input was read to its end, its plan was run for each fault, and the whole text was written
    pub ran : status ≡ 0 → Surveyed
    -- 1: never, however the items ended
    pub well : status ≡ 1 → ⊥
    -- 2: only for words without a meaning
    pub meant : status ≡ 2 → ⊥
    -- 3: the input was read and is refused
    pub refused : status ≡ 3 → WasRefused
    -- 4: only where the source failed; nothing was written
    pub read_fault : status ≡ 4 → Rose source0 source1 × DidNothing
    -- 5: only where the sink failed; a front of the bytes that were due was written
    pub write_fault : status ≡ 5 → Rose sink0 sink1 × StoppedSurvey
    -- 6: want of memory, and nothing was written, or whole lines of the faults before
    pub memory : status ≡ 6 → DidNothing ⊎ RanOutBetween
    -- where all is fine it is done, unless memory is wanting
    pub complete : IsFine → (status ≡ 0) ⊎ (status ≡ 6)

  -- ---- the command that reckons a schedule

  -- the input was read, and the whole text of its plan's schedule was written. What the text promises holds: where it says that each frame fits in the long
  -- reckoning, each starts as planned in the run of the plan by the message table, and in its world, with whatever faults it is accepted; where it says the short one,
  -- with whatever faults but those that add words
  pub record Reckoned : Type 0 where
    pub input : List ℕ
    pub read : ReadsInput left0 left1 input
    pub accepted : load_refusal input ≡ None
    pub plan : PlanData
    pub is_plan : plan_of_bytes input ≡ Ok plan
    pub written : Appends held0 held1 (load_text plan)
    pub long : verdict plan ≡ Long → (faults : List Fault) → IsAccepted (with_faults faults plan) → FramesAreInTime (with_faults faults plan)
    pub short : verdict plan ≡ Short → (faults : List Fault) → IsAccepted (with_faults faults plan) → Each AddsNone faults →
        FramesAreInTime (with_faults faults plan)

  -- the input was read and is refused, and the refusal's line was written
  pub record WasRefusedLoad : Type 0 where
    pub input : List ℕ
    pub read : ReadsInput left0 left1 input
    pub line : List ℕ
    pub due : load_refusal input ≡ Some line
    pub written : Appends held0 held1 line

  -- a front of the bytes that were due was written
  pub record StoppedLoad : Type 0 where
    pub input : List ℕ
    pub read : ReadsInput left0 left1 input
    pub bytes : List ℕ
    pub due : IsLoadDue input bytes
    pub front : GrowsByFront held0 held1 bytes

  pub record EndsLoad : Type 0 where
    pub range : status ≤ 6
    pub later_source : source0 ≤ source1
    pub later_sink : sink0 ≤ sink1
    -- there is never a bus, and the objects stay
    pub no_bus : bus ≡ None
    pub objects : AreSame told0 told1 said0 said1 spare0 spare1
    -- 0: the input was read to its end, and the whole text was written
    pub reckoned : status ≡ 0 → Reckoned
    -- 1: never, whatever the verdict
    pub well : status ≡ 1 → ⊥
    -- 2: only for words without a meaning
    pub meant : status ≡ 2 → ⊥
    -- 3: the input was read and is refused
    pub refused : status ≡ 3 → WasRefusedLoad
    -- 4: only where the source failed; nothing was written
    pub read_fault : status ≡ 4 → Rose source0 source1 × DidNothing
    -- 5: only where the sink failed; a front of the bytes that were due was written
    pub write_fault : status ≡ 5 → Rose sink0 sink1 × StoppedLoad
    -- 6: want of memory, and nothing was written
    pub memory : status ≡ 6 → DidNothing
    -- where all is fine, and no offer is made, it is done, unless memory is wanting
    pub complete : (fine : IsFine) → load_refusal (take (limit + 1) fine.told) ≡ None → (status ≡ 0) ⊎ (status ≡ 6)

  -- ---- the commands that list a capture

  -- the objects stay
  pub record EndsListing (lines whole : List Pair → List ℕ) : Type 0 where
    pub no_bus : bus ≡ None
    pub objects : AreSame told0 told1 said0 said1 spare0 spare1
    pub lists : ListsCapture left0 left1 held0 held1 source0 source1 sink0 sink1 status lines whole

  -- ---- every command

  abbrev pub Ends : Option Command → Type 0
  Ends None = EndsUnmeant
  Ends (Some commands.Run) = EndsRun Report
  Ends (Some commands.Capture) = EndsRun Capture
  Ends (Some commands.Survey) = EndsSurvey
  Ends (Some commands.Load) = EndsLoad
  Ends (Some commands.Decode) = EndsListing (word_lines LAG) (word_listing LAG)
  Ends (Some commands.Messages) = EndsListing (message_lines LAG) (message_listing LAG)
  Ends (Some commands.Judge) = EndsJudge left0 left1 held0 held1 source0 source1 sink0 sink1 status bus told0 told1 said0 said1 spare0 spare1
  Ends (Some commands.Bridge) = EndsBridge left0 left1 held0 held1 source0 source1 sink0 sink1 status bus told0 told1 said0 said1 spare0 spare1
  Ends (Some (commands.Bench number items)) = EndsBench left0 left1 held0 held1 source0 source1 sink0 sink1 status bus told0 told1 said0 said1 spare0 spare1 number items
