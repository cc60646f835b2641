-- How many ticks a frame of the station that starts takes at most, whatever its messages meet, and whether each next frame still starts in time (the
-- project's own, over the response time, MIL-STD-1553B 4.3.3.8, the terminal fail-safe, 4.4.1.3, and retries, 4.6). Two reckonings: in the short one
-- each burst has the ticks of its words; in the long one faults add words to any burst, up to the fail-safe.
use Rattle.std.specs.Prelude.{ℕ, suc, ◌+◌, ◌-◌, ◌*◌, ◌≤◌, All, nat_le, nat_lt, Bool, true, false, ◌&&◌, ◌==◌, if◌then◌else◌, List, [], ◌∷◌, drop, length, find, sum_by, Option, Some, None}
use Rattle.std.specs.Option.{option_or}
use Rattle.bus_formats.specs.Forms.{command_words, answers_of}
use Rattle.bus_formats.specs.Plans.{ItemData, FrameData, StationData, PlanData}
use Rattle.bus_formats.specs.Times.{dead_ticks, least_quiet, settling_quiet}
use Rattle.bus_formats.specs.declared.form.Shape.{Shape}
use Rattle.bus_formats.specs.declared.plan.Kind.{Kind}
use Rattle.bus_load.specs.declared.reckoned.OfferPlace.{OfferPlace}
use Rattle.bus_load.specs.declared.reckoned.Verdict.{Verdict}
use Rattle.bus_load.specs.declared.reckoned.Verdict.TheVariants.{Long, Short, Over}
use Rattle.bus_model.specs.Attempts.{is_offer}
use Rattle.bus_model.specs.Starts.{first_origin, starts}
use Rattle.bus_model.specs.Strikes.{most_words}

-- ---- a message

-- the most ticks of a burst of so many words
abbrev pub burst_ticks : Bool → ℕ → ℕ
burst_ticks long words = 40 * (if long then most_words else words)

-- the longest response time (4.3.3.8)
abbrev pub longest_response : ℕ
longest_response = 24

-- an answer that is due begins in that time, with a status word before its data words
abbrev pub answer_ticks : Bool → Option Shape → ℕ
answer_ticks long None = 0
answer_ticks long (Some shape) = dead_ticks longest_response + burst_ticks long (1 + shape.count)

-- from the first tick of a message to its last
abbrev pub message_ticks : Bool → Kind → ℕ
message_ticks long kind = burst_ticks long (length (command_words kind))
    + answer_ticks long (answers_of kind).first + answer_ticks long (answers_of kind).second

-- .. with all of its retries, and the quiet before the next message: the least gap where no answer is due, else the longer quiet after a message that
-- went badly
abbrev pub cost_by : Bool → ItemData → Option Shape → ℕ
cost_by long item None = message_ticks long item.kind + least_quiet
cost_by long item (Some shape) = (1 + length item.retry) * (message_ticks long item.kind + settling_quiet)

abbrev pub item_cost : Bool → ItemData → ℕ
item_cost long item = cost_by long item (answers_of item.kind).first

-- the quiet that an item's gap asks for beyond the least
abbrev pub gap_beyond : ItemData → ℕ
gap_beyond item = dead_ticks item.gap - least_quiet

-- ---- a frame

-- the gap of the first item of some frames, where they have one
abbrev pub next_gap_by : List ItemData → Option ℕ → Option ℕ
next_gap_by [] later = later
next_gap_by (item ∷ items) later = Some (gap_beyond item)

abbrev pub next_gap : List FrameData → Option ℕ
next_gap [] = None
next_gap (frame ∷ later) = next_gap_by frame.items (next_gap later)

-- the frames that run again after the last one
abbrev pub again_of : StationData → List FrameData
again_of station = if nat_lt 1 station.repeat then station.frames else []

-- that of the first item after a frame which these later ones follow
abbrev pub gap_after : List FrameData → List FrameData → Option ℕ
gap_after later again = option_or (next_gap later) (next_gap again)

abbrev pub ticks_of : Option ℕ → ℕ
ticks_of None = 0
ticks_of (Some gap) = gap

-- the costs of a frame's items, the gap before each but the first, and the gap of the next frame's first item
abbrev pub cost_of_items : Bool → List ItemData → Option ℕ → ℕ
cost_of_items long [] after = 0
cost_of_items long (item ∷ items) after = sum_by (item_cost long) (item ∷ items) + sum_by gap_beyond items + ticks_of after

-- the cost of the first of these frames
abbrev pub cost_of_first : Bool → List FrameData → List FrameData → ℕ
cost_of_first long [] again = 0
cost_of_first long (frame ∷ later) again = cost_of_items long frame.items (gap_after later again)

abbrev pub station_frame_cost : Bool → Option StationData → ℕ → ℕ
station_frame_cost long None frame = 0
station_frame_cost long (Some station) frame = cost_of_first long (drop (frame - 1) station.frames) (again_of station)

-- the station that starts with control
abbrev pub starting : PlanData → Option StationData
starting plan = find (starts plan) plan.stations

-- the cost of a frame of the station that starts, counted from 1
abbrev pub frame_cost : Bool → PlanData → ℕ → ℕ
frame_cost long plan frame = station_frame_cost long (starting plan) frame

-- ---- the verdict

-- a frame that is followed by another with items costs no more than its ticks
abbrev pub fits_by : ℕ → ℕ → Option ℕ → Bool
fits_by cost ticks None = true
fits_by cost ticks (Some gap) = nat_le cost ticks

abbrev pub frames_fit : Bool → List FrameData → List FrameData → Bool
frames_fit long [] again = true
frames_fit long (frame ∷ later) again =
    fits_by (cost_of_items long frame.items (gap_after later again)) frame.ticks (gap_after later again) && frames_fit long later again

-- the gap of the very first item doesn't put it off, where so many ticks of frames come before these
abbrev pub first_fits_by : ℕ → List ItemData → Bool → Bool
first_fits_by ticks [] later = later
first_fits_by ticks (item ∷ items) later = nat_le (dead_ticks item.gap) (first_origin.tick + ticks)

abbrev pub first_fits : ℕ → List FrameData → Bool
first_fits ticks [] = true
first_fits ticks (frame ∷ later) = first_fits_by ticks frame.items (first_fits (ticks + frame.ticks) later)

abbrev pub station_fits : Bool → StationData → Bool
station_fits long station = frames_fit long station.frames (again_of station) && first_fits 0 station.frames

abbrev pub station_verdict : Option StationData → Verdict
station_verdict None = Long
station_verdict (Some station) = if station_fits true station then Long else if station_fits false station then Short else Over

abbrev pub verdict : PlanData → Verdict
verdict plan = station_verdict (starting plan)

-- ---- limits

-- the schedule of a station is within the limits of an accepted plan
pub record IsWithinLimits (station : StationData) : Type 0 where
  pub frames : length station.frames ≤ 1024
  pub items : All (λ f. length f.items ≤ 4096) station.frames
  pub ticks : sum_by (λ f. f.ticks) station.frames ≤ 2048000000
  pub repeat : 1 ≤ station.repeat

-- ---- offers of control, of which no frame's cost can be told

-- the place of the first item that offers control, in a station and a frame with these numbers
abbrev pub offer_in_items : ℕ → ℕ → ℕ → List ItemData → Option OfferPlace
offer_in_items station frame place [] = None
offer_in_items station frame place (item ∷ items) =
    if is_offer item.kind then Some record { station = station; frame = frame; item = place }
    else offer_in_items station frame (suc place) items

abbrev pub offer_in_frames : ℕ → ℕ → List FrameData → Option OfferPlace
offer_in_frames station number [] = None
offer_in_frames station number (frame ∷ later) =
    option_or (offer_in_items station number 1 frame.items) (offer_in_frames station (suc number) later)

-- the first offer of the station with this address, where these stations are counted from this number on
abbrev pub offer_from : ℕ → ℕ → List StationData → Option OfferPlace
offer_from address number [] = None
offer_from address number (station ∷ later) =
    if station.terminal.address == address then offer_in_frames number 1 station.frames else offer_from address (suc number) later

-- .. of the station that starts
abbrev pub first_offer : PlanData → Option OfferPlace
first_offer plan = offer_from plan.start 1 plan.stations
