-- What each answer of `bridge` shows: two buses that one device joins are run to their ends, and the text of both is written.
use Rattle.std.specs.Prelude.{◌≡◌, ℕ, ◌+◌, ◌≤◌, ◌⊎◌, nat_lt, if◌then◌else◌, List, [], ◌++◌, take, length, codes, Option, Some, None, Result, Ok, Err}
use Rattle.std.specs.Io.KnownBytes.{Consumes, IsAtEnd, Appends}
use Rattle.bus_bridge.specs.Inputs.{MayBridge, input_limit, bridge_of_bytes}
use Rattle.bus_bridge.specs.Lines.{bridge_text}
use Rattle.bus_bridge.specs.Logs.{BridgeLogData}
use Rattle.bus_bridge.specs.Worlds.{IsLogOf}
use Rattle.bus_bridge.specs.declared.inputs.BridgePlan.{BridgePlan}
use Rattle.bus_bridge.specs.declared.inputs.BridgeRefusal.{BridgeRefusal}
use Rattle.bus_bridge.specs.declared.inputs.BridgeRefusal.TheVariants.{TooLong, Header, First, Second, AddressFirst, AddressSecond}
use Rattle.bus_formats.specs.declared.log.Delivery.{Delivery}
use Rattle.bus_outside.specs.Causes.{Rose, GrowsByFront}
use Rattle.bus_plan.specs.Refusals.{number_of, name_of, place_of}
use Rattle.bus_plan.specs.declared.refusal.PlanRefusal.{PlanRefusal}
use Rattle.bus_refusals.specs.Refusals.{WroteDue}
use Rattle.bus_run.specs.declared.finished.FinishedBus.{FinishedBus}
use Rattle.bus_text.specs.Texts.{line, number, spaced}
use Rattle.bus_tool.specs.Due.{too_long, place_text}
use Rattle.bus_tool.specs.Objects.{AreSame}
use Rattle.bus_tool.specs.Texts.{status_of_attempts}

-- ---- what is due

-- a plan's refusal: the rule's number, its name, and the first place that breaks it
abbrev pub first_line : PlanRefusal → List ℕ
first_line refusal =
    line (codes "bridge refused 2 first" ++ number (number_of refusal) ++ spaced (name_of refusal) ++ place_text (place_of refusal))

abbrev pub second_line : PlanRefusal → List ℕ
second_line refusal =
    line (codes "bridge refused 3 second" ++ number (number_of refusal) ++ spaced (name_of refusal) ++ place_text (place_of refusal))

abbrev pub bridge_line : BridgeRefusal → List ℕ
bridge_line TooLong = too_long
bridge_line Header = line (codes "bridge refused 1 header")
bridge_line (First refusal) = first_line refusal
bridge_line (Second refusal) = second_line refusal
bridge_line AddressFirst = line (codes "bridge refused 4 address-first")
bridge_line AddressSecond = line (codes "bridge refused 5 address-second")

abbrev pub refusal_by : Result BridgePlan BridgeRefusal → Option (List ℕ)
refusal_by (Ok plan) = None
refusal_by (Err refusal) = Some (bridge_line refusal)

-- the line with which an input is refused, if it is
abbrev pub bridge_refusal : List ℕ → Option (List ℕ)
bridge_refusal input = refusal_by (bridge_of_bytes input)

-- the bytes are the text of both buses of the input to their ends
pub record IsBridgeOf (input bytes : List ℕ) : Type 0 where
  pub plan : BridgePlan
  pub read : bridge_of_bytes input ≡ Ok plan
  pub log : BridgeLogData
  pub is_log : IsLogOf plan log
  pub bytes_are : bytes ≡ bridge_text log

-- bytes that are due for an input: the line of a refusal, or that text
abbrev pub IsBridgeDue : List ℕ → List ℕ → Type 0
IsBridgeDue input bytes = (bridge_refusal input ≡ Some bytes) ⊎ ((bridge_refusal input ≡ None) × IsBridgeOf input bytes)

-- ---- what the parts answer

module _ (held0 held1 : Option (List ℕ)) (sink0 sink1 : ℕ) (status : ℕ) where
  -- both buses ran to their ends, and the text of their log was written, or a front of it
  pub record WroteBridge (plan : BridgePlan) : Type 0 where
    pub log : BridgeLogData
    pub is_log : IsLogOf plan log
    pub wrote : WroteDue held0 held1 sink0 sink1 status (status_of_attempts log.attempts) (bridge_text log)

  -- or memory was wanting, and nothing was written
  pub record BridgedPlan (plan : BridgePlan) : Type 0 where
    pub later : sink0 ≤ sink1
    pub answer : WroteBridge plan ⊎ ((status ≡ 6) × (held1 ≡ held0))

  -- the input was refused with its line
  pub record RefusedBridge (input : List ℕ) : Type 0 where
    pub line : List ℕ
    pub due : bridge_refusal input ≡ Some line
    pub wrote : WroteDue held0 held1 sink0 sink1 status 3 line

  -- the buses of the input ran
  pub record RanBridge (input : List ℕ) : Type 0 where
    pub plan : BridgePlan
    pub read : bridge_of_bytes input ≡ Ok plan
    pub ran : WroteBridge plan

  -- the answer to an input
  pub record AnswersBridge (input : List ℕ) : Type 0 where
    pub later : sink0 ≤ sink1
    pub answer : RanBridge input ⊎ RefusedBridge input ⊎ ((status ≡ 6) × (held1 ≡ held0))

-- ---- the command

-- the source gave this input: all that was left, or one byte past the limit
pub record ReadsUpTo (most : ℕ) (old now : Option (List ℕ)) (input : List ℕ) : Type 0 where
  pub consumed : Consumes old now input
  pub short : length input ≤ most + 1
  pub whole : length input ≤ most → IsAtEnd now

module _ (left0 left1 held0 held1 : Option (List ℕ)) (source0 source1 sink0 sink1 : ℕ) (status : ℕ) (bus : Option FinishedBus)
    (told0 told1 : List (Option (List Delivery))) (said0 said1 : List (List ℕ)) (spare0 spare1 : List ℕ) where
  -- the input was read, both buses ran to the ends of their runs, the second one over the blocks that the first one's terminal took, and the whole text
  -- of what is found in their worlds was written; the status is that of the second bus's attempts
  pub record Bridged : Type 0 where
    pub input : List ℕ
    pub read : ReadsUpTo input_limit left0 left1 input
    pub plan : BridgePlan
    pub is_plan : bridge_of_bytes input ≡ Ok plan
    pub log : BridgeLogData
    pub is_log : IsLogOf plan log
    pub status_is : status ≡ status_of_attempts log.attempts
    pub written : Appends held0 held1 (bridge_text log)

  -- the input was read and is refused, and the refusal's line was written
  pub record WasRefusedBridge : Type 0 where
    pub input : List ℕ
    pub read : ReadsUpTo input_limit left0 left1 input
    pub line : List ℕ
    pub due : bridge_refusal input ≡ Some line
    pub written : Appends held0 held1 line

  -- a front of the bytes that were due was written
  pub record StoppedBridge : Type 0 where
    pub input : List ℕ
    pub read : ReadsUpTo input_limit left0 left1 input
    pub bytes : List ℕ
    pub due : IsBridgeDue input bytes
    pub front : GrowsByFront held0 held1 bytes

  -- the input isn't refused, and neither the source nor the sink failed
  pub record BridgeIsFine : Type 0 where
    pub told : List ℕ
    pub left : left0 ≡ Some told
    pub accepted : bridge_refusal (take (input_limit + 1) told) ≡ None
    pub source : Rose source0 source1 → ⊥
    pub sink : Rose sink0 sink1 → ⊥

  pub record EndsBridge : Type 0 where
    pub range : status ≤ 6
    pub later_source : source0 ≤ source1
    pub later_sink : sink0 ≤ sink1
    -- there is never a bus to hand out, and the objects stay
    pub no_bus : bus ≡ None
    pub objects : AreSame told0 told1 said0 said1 spare0 spare1
    -- 0 and 1: the input was read to its end, both buses ran, and the whole text was written
    pub ran : status ≤ 1 → Bridged
    -- 2: only for words without a meaning
    pub meant : status ≡ 2 → ⊥
    -- 3: the input was read and is refused
    pub refused : status ≡ 3 → WasRefusedBridge
    -- 4: only where the source failed; nothing was written
    pub read_fault : status ≡ 4 → Rose source0 source1 × (held1 ≡ held0)
    -- 5: only where the sink failed; a front of the bytes that were due was written
    pub write_fault : status ≡ 5 → Rose sink0 sink1 × StoppedBridge
    -- 6: want of memory, and nothing was written
    pub memory : status ≡ 6 → held1 ≡ held0
    -- where all is fine it is done, unless memory is wanting
    pub complete : BridgeIsFine → (status ≡ 0) ⊎ (status ≡ 1) ⊎ (status ≡ 6)
