-- For how many attempts, bursts, words and deliveries room is made. That no run of an accepted plan has more is proved.
use Rattle.std.specs.Prelude.{ℕ, ◌+◌, ◌*◌, min, length, sum_by}
use Rattle.bus_formats.specs.Plans.{ItemData, FrameData, StationData, PlanData}

-- no amount is counted further than this; those of an accepted plan are below it
abbrev pub counted : ℕ → ℕ
counted amount = min 0x8000_0000 amount

-- an item's first attempt and its retries
abbrev pub attempts_of_item : ItemData → ℕ
attempts_of_item item = 1 + length item.retry

abbrev pub attempts_of_frame : FrameData → ℕ
attempts_of_frame frame = sum_by attempts_of_item frame.items

abbrev pub attempts_of_station : StationData → ℕ
attempts_of_station station = station.repeat * sum_by attempts_of_frame station.frames

-- all attempts that the items of a plan can have
unfoldable pub most_attempts : PlanData → ℕ
most_attempts plan = counted (sum_by attempts_of_station plan.stations)

-- three bursts for each attempt, each of forty words
abbrev pub most_bursts : PlanData → ℕ
most_bursts plan = 3 * most_attempts plan

abbrev pub most_words : PlanData → ℕ
most_words plan = 120 * most_attempts plan

-- a block is taken only where a burst ends
abbrev pub most_deliveries : PlanData → ℕ
most_deliveries plan = most_bursts plan
