-- What an input of a standby says: a line that names the station that takes over and the attempt that the primary doesn't begin any more, and a plan (the
-- project's own).
use Rattle.std.specs.Prelude.{◌≡◌, ℕ, ◌+◌, Bool, true, false, not, ◌==◌, ◌&&◌, nat_lt, nat_le, if◌then◌else◌, List, [], ◌∷◌, length, take, drop, position, codes, bytes_eq, Option, Some, None, Result, Ok, Err}
use Rattle.std.specs.List.{list_any}
use Rattle.bus_decimal.specs.Decimal.{number_up_to}
use Rattle.bus_base.specs.Positions.{IsBetween}
use Rattle.bus_formats.specs.Accepted.{IsAccepted}
use Rattle.bus_formats.specs.Plans.{ItemData, FrameData, StationData, PlanData}
use Rattle.bus_load.specs.Offers.{any_offer}
use Rattle.bus_load.specs.declared.reckoned.OfferPlace.{OfferPlace}
use Rattle.bus_plan.specs.PlanOf.{plan_of_bytes}
use Rattle.bus_plan.specs.declared.refusal.PlanRefusal.{PlanRefusal}
use Rattle.bus_standby.specs.declared.header.Header.{Header}
use Rattle.bus_standby.specs.declared.inputs.StandbyPlan.{StandbyPlan}
use Rattle.bus_standby.specs.declared.inputs.StandbyError.{StandbyError}
use Rattle.bus_standby.specs.declared.inputs.StandbyError.TheVariants.{Refused, Memory}
use Rattle.bus_standby.specs.declared.inputs.StandbyRefusal.{StandbyRefusal}
use Rattle.bus_standby.specs.declared.inputs.StandbyRefusal.TheVariants as refusals

-- ---- the line

-- the most bytes of the line with its line feed, of a plan's text, and of both
abbrev pub line_limit : ℕ
line_limit = 64

abbrev pub plan_limit : ℕ
plan_limit = 4194304

abbrev pub input_limit : ℕ
input_limit = line_limit + plan_limit

abbrev pub beginning : List ℕ
beginning = codes "1553 standby "

-- the place of the first such byte
abbrev pub place_of : ℕ → List ℕ → Option ℕ
place_of byte text = position (λ other. other == byte) text

-- the attempts are counted from 1
abbrev pub header_by : Option ℕ → Option ℕ → Option Header
header_by (Some address) (Some attempt) = if nat_lt 0 attempt then Some record { address = address; attempt = attempt } else None
header_by _ _ = None

-- two numbers, the first before this place, the second after it
abbrev pub numbers_by : List ℕ → Option ℕ → Option Header
numbers_by text None = None
numbers_by text (Some place) = header_by (number_up_to 30 (take place text)) (number_up_to 1000000 (drop (place + 1) text))

-- `<address> <attempt>`: a space between them
abbrev pub numbers_in : List ℕ → Option Header
numbers_in text = numbers_by text (place_of 32 text)

abbrev pub begins_so : List ℕ → Bool
begins_so line = bytes_eq beginning (take (length beginning) line)

-- `1553 standby <address> <attempt>`; the beginning has 13 bytes
abbrev pub header_of : List ℕ → Option Header
header_of line = if begins_so line then numbers_in (drop 13 line) else None

-- ---- the line and the plan's text

pub record Parts : Type 0 where
  pub header : Header
  pub text : List ℕ

abbrev pub parts_with : List ℕ → Option Header → Option Parts
parts_with text None = None
parts_with text (Some header) = Some record { header = header; text = text }

-- a line of so many bytes before its line feed, and what follows it
abbrev pub parts_with_limits : ℕ → List ℕ → List ℕ → Option Parts
parts_with_limits place line text =
    if nat_lt place line_limit && nat_le (length text) plan_limit then parts_with text (header_of line) else None

-- by the place of the first line feed
abbrev pub parts_by : List ℕ → Option ℕ → Option Parts
parts_by input None = None
parts_by input (Some place) = parts_with_limits place (take place input) (drop (place + 1) input)

abbrev pub parts_of : List ℕ → Option Parts
parts_of input = parts_by input (place_of 10 input)

-- ---- what is refused

abbrev pub has_any : List ItemData → Bool
has_any [] = false
has_any (item ∷ items) = true

abbrev pub has_frame_items : FrameData → Bool
has_frame_items frame = has_any frame.items

-- this station can take over: it has the address, isn't the one that starts, and has an item
abbrev pub can_take_by : ℕ → ℕ → StationData → Bool
can_take_by start address station =
    (station.terminal.address == address) && not (address == start) && list_any has_frame_items station.frames

abbrev pub can_take : PlanData → ℕ → StationData → Bool
can_take plan address station = can_take_by plan.start address station

abbrev pub judged_offer : StandbyPlan → Option OfferPlace → Result StandbyPlan StandbyRefusal
judged_offer standby None = Ok standby
judged_offer standby (Some place) = Err (refusals.Offer place)

abbrev pub judged_plan : Header → Result PlanData PlanRefusal → Result StandbyPlan StandbyRefusal
judged_plan header (Err refusal) = Err (refusals.Plan refusal)
judged_plan header (Ok plan) =
    if list_any (can_take plan header.address) plan.stations
    then judged_offer record { plan = plan; address = header.address; attempt = header.attempt } (any_offer plan)
    else Err refusals.Address

abbrev pub judged_parts : Option Parts → Result StandbyPlan StandbyRefusal
judged_parts None = Err refusals.Header
judged_parts (Some parts) = judged_plan parts.header (plan_of_bytes parts.text)

-- a refusal that is due, or want of memory, whatever the input is
abbrev pub IsRefusalOf : Result StandbyPlan StandbyRefusal → StandbyError → Type 0
IsRefusalOf due (Refused refusal) = due ≡ Err refusal
IsRefusalOf due (Memory error) = Unit {0}

-- a standby that may run: its plan is accepted, its station can take over, no station offers control, and its attempts are counted from 1
pub record MayStandBy (plan : PlanData) (address attempt : ℕ) : Type 0 where
  pub accepted : IsAccepted plan
  pub able : list_any (can_take plan address) plan.stations ≡ true
  pub no_offer : any_offer plan ≡ None
  pub counted : IsBetween 1 1000000 attempt

-- what an input says, or the first cause for which it is refused
unfoldable pub standby_of_bytes : List ℕ → Result StandbyPlan StandbyRefusal
standby_of_bytes input = if nat_lt input_limit (length input) then Err refusals.TooLong else judged_parts (parts_of input)
