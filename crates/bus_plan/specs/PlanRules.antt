-- What the rules on a plan as a whole ask for, each as a statement on the plan alone: the fields of `IsAccepted`, taken apart by rule. That the
-- search for each rule finds nothing exactly where its statement holds is proved (laws.rt).
use Rattle.std.specs.Prelude.{◌≡◌, ◌≢◌, ℕ, ◌≤◌, true, List, codes, length, All, AllPairs, Contains, Some, IsSome}
use Rattle.toml.specs.Data.{Members}
use Rattle.bus_base.specs.Flips.{IsDetectable}
use Rattle.bus_formats.specs.Accepted.{IsAccepted, addresses, addresses_named, HasSuperseding}
use Rattle.bus_formats.specs.Forms.{form_of}
use Rattle.bus_formats.specs.Plans.{StationData, PlanData}
use Rattle.bus_formats.specs.declared.plan.Kind.{Kind}
use Rattle.bus_plan.specs.Decode.{tables_at}
use Rattle.bus_plan.specs.DecodeFaults.{plan_of, positions_at}
use Rattle.bus_plan.specs.Document.{document_of}
use Rattle.bus_plan.specs.Limits.{most_frames}
use Rattle.bus_plan.specs.PlanOf.{head_of}
use Rattle.bus_plan.specs.Positions.{may_stand}
use Rattle.bus_plan.specs.Ranges.{flip_range}
use Rattle.bus_plan.specs.Rows.{has_text}
use Rattle.bus_plan.specs.Tables.{KeepsRule}
use Rattle.bus_plan.specs.declared.rows.Head.{Head}
use Rattle.bus_plan.specs.declared.rules.Rule.{Rule}

-- each message of a plan, with the station that sends it
abbrev pub EachMessage : (StationData → Kind → Type 0) → PlanData → Type 0
EachMessage P plan = All (λ s. All (λ f. All (λ i. P s i.kind) f.items) s.frames) plan.stations

-- every address that a message names is a station's, or 31
abbrev pub NamesStations : PlanData → Type 0
NamesStations plan = EachMessage (λ s kind. All (λ a. a ≢ 31 → Contains (addresses plan) a) (addresses_named kind)) plan

-- no message names its own station, and a relay names two
abbrev pub NamesOthers : PlanData → Type 0
NamesOthers plan =
    EachMessage
    (λ s kind. (All (λ a. a ≢ 31 → a ≢ s.terminal.address) (addresses_named kind)) × (AllPairs (λ a b. a ≢ b) (addresses_named kind)))
    plan

-- every message has a form
abbrev pub HasForms : PlanData → Type 0
HasForms plan = EachMessage (λ s kind. IsSome (form_of kind)) plan

-- every answer that may be given up is followed by a message that supersedes it
abbrev pub IsSuperseding : PlanData → Type 0
IsSuperseding plan = All (λ s. All (λ f. HasSuperseding f.items) s.frames) plan.stations

-- each flip of a document, where its positions may stand in a word, can be detected
abbrev pub HasDetectableFlips : Members → Type 0
HasDetectableFlips doc =
    All
    (λ ms. has_text (codes "kind") (codes "flip") ms ≡ true → may_stand flip_range 40 (positions_at ms) ≡ true → IsDetectable (positions_at ms))
    (tables_at (λ ms. ms) (codes "fault") doc)

-- no station has more frames than the plan's version allows; the limit of version 1 is below that of `IsAccepted`
abbrev pub HasFewFrames : Head → PlanData → Type 0
HasFewFrames head plan = All (λ s. length s.frames ≤ most_frames head) plan.stations

-- the document is read as this plan: it breaks no rule on keys, kinds and ranges, its flips can be detected, and the plan that it describes is
-- accepted, with no more frames than its version allows
pub record IsReadAs (doc : Members) (plan : PlanData) : Type 0 where
  pub keys : (rule : Rule) → KeepsRule rule (head_of doc) doc
  pub described : plan ≡ plan_of (head_of doc) doc
  pub flips : HasDetectableFlips doc
  pub accepted : IsAccepted plan
  pub frames : HasFewFrames (head_of doc) plan

-- the bytes are a document that is read as this plan
abbrev pub AreReadAs : List ℕ → PlanData → Type 0
AreReadAs bytes plan = (doc : Members) × (document_of bytes ≡ Some doc) × IsReadAs doc plan
