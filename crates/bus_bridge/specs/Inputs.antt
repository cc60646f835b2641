-- What an input of a bridge says: a line that names two terminals and which subaddresses belong together, and two plans (the project's own).
use Rattle.std.specs.Prelude.{◌≡◌, ℕ, ◌+◌, Bool, true, ◌==◌, ◌&&◌, nat_lt, nat_le, if◌then◌else◌, List, length, take, drop, Option, Some, None, Result, Ok, Err}
use Rattle.std.specs.List.{list_any}
use Rattle.bus_formats.specs.Accepted.{IsAccepted}
use Rattle.bus_formats.specs.Plans.{PlanData}
use Rattle.bus_plan.specs.PlanOf.{plan_of_bytes}
use Rattle.bus_plan.specs.declared.refusal.PlanRefusal.{PlanRefusal}
use Rattle.bus_bridge.specs.Headers.{place_of, plan_limit, header_of}
use Rattle.bus_bridge.specs.declared.header.Header.{Header}
use Rattle.bus_bridge.specs.declared.inputs.BridgePlan.{BridgePlan}
use Rattle.bus_bridge.specs.declared.inputs.BridgeError.{BridgeError}
use Rattle.bus_bridge.specs.declared.inputs.BridgeError.TheVariants.{Refused, Memory}
use Rattle.bus_bridge.specs.declared.inputs.BridgeRefusal.{BridgeRefusal}
use Rattle.bus_bridge.specs.declared.inputs.BridgeRefusal.TheVariants as refusals

-- ---- the line and the texts of the plans

-- the most bytes of the line with its line feed, and of all
abbrev pub line_limit : ℕ
line_limit = 1024

abbrev pub input_limit : ℕ
input_limit = line_limit + (plan_limit + plan_limit)

pub record Parts : Type 0 where
  pub header : Header
  pub first : List ℕ
  pub second : List ℕ

-- the first plan has at most as many bytes in any case, since its line says so
abbrev pub parts_within : Header → List ℕ → List ℕ → Option Parts
parts_within header first second =
    if nat_lt plan_limit (length second) then None else Some record { header = header; first = first; second = second }

-- the first plan has as many bytes as the line says, and the second plan the others
abbrev pub cut_texts : Header → List ℕ → Option Parts
cut_texts header text =
    if nat_lt (length text) header.first then None else parts_within header (take header.first text) (drop header.first text)

abbrev pub parts_with : List ℕ → Option Header → Option Parts
parts_with text None = None
parts_with text (Some header) = cut_texts header text

-- a line of so many bytes before its line feed, and what follows it
abbrev pub parts_with_limit : ℕ → List ℕ → List ℕ → Option Parts
parts_with_limit place line text = if nat_le line_limit place then None else parts_with text (header_of line)

-- by the place of the first line feed
abbrev pub parts_by : List ℕ → Option ℕ → Option Parts
parts_by input None = None
parts_by input (Some place) = parts_with_limit place (take place input) (drop (place + 1) input)

abbrev pub parts_of : List ℕ → Option Parts
parts_of input = parts_by input (place_of 10 input)

-- ---- what is refused

abbrev pub has_station : PlanData → ℕ → Bool
has_station plan address = list_any (λ s. s.terminal.address == address) plan.stations

abbrev pub judged_plans : Header → PlanData → PlanData → Result BridgePlan BridgeRefusal
judged_plans header first second =
    if has_station first header.a
    then (if has_station second header.b
    then Ok record { first = first; second = second; a = header.a; b = header.b; pairs = header.pairs }
    else Err refusals.AddressSecond)
    else Err refusals.AddressFirst

abbrev pub judged_second : Header → PlanData → Result PlanData PlanRefusal → Result BridgePlan BridgeRefusal
judged_second header first (Err refusal) = Err (refusals.Second refusal)
judged_second header first (Ok second) = judged_plans header first second

abbrev pub judged_first : Header → Result PlanData PlanRefusal → Result PlanData PlanRefusal → Result BridgePlan BridgeRefusal
judged_first header (Err refusal) second = Err (refusals.First refusal)
judged_first header (Ok first) second = judged_second header first second

abbrev pub judged_parts : Option Parts → Result BridgePlan BridgeRefusal
judged_parts None = Err refusals.Header
judged_parts (Some parts) = judged_first parts.header (plan_of_bytes parts.first) (plan_of_bytes parts.second)

-- a refusal that is due, or want of memory, whatever the input is
abbrev pub IsRefusalOf : Result BridgePlan BridgeRefusal → BridgeError → Type 0
IsRefusalOf due (Refused refusal) = due ≡ Err refusal
IsRefusalOf due (Memory error) = Unit {0}

-- a bridge that may run: both plans are accepted, and each has the terminal
pub record MayBridge (bridge : BridgePlan) : Type 0 where
  pub first : IsAccepted bridge.first
  pub second : IsAccepted bridge.second
  pub takes : has_station bridge.first bridge.a ≡ true
  pub sends : has_station bridge.second bridge.b ≡ true

-- what an input says, or the first cause for which it is refused
unfoldable pub bridge_of_bytes : List ℕ → Result BridgePlan BridgeRefusal
bridge_of_bytes input = if nat_lt input_limit (length input) then Err refusals.TooLong else judged_parts (parts_of input)
