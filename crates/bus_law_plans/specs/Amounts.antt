-- How many attempts the items of a station can have, and how many ticks its frames take (the project's own).
use Rattle.std.specs.Prelude.{◌≡◌, ℕ, ◌+◌, ◌*◌, ◌≤◌, List, [], ◌∷◌, length, sum_by, ⊤}
use Rattle.bus_formats.specs.Plans.{ItemData, FrameData, StationData}
use Rattle.bus_model.specs.Starts.{Entry, agenda}

-- an item's first attempt and its retries
abbrev pub attempts_of : ItemData → ℕ
attempts_of item = 1 + length item.retry

-- those of all items of a frame
abbrev pub attempts_in : FrameData → ℕ
attempts_in frame = sum_by attempts_of frame.items

-- those of a station's frames, which are repeated so often
abbrev pub station_attempts : StationData → ℕ
station_attempts station = station.repeat * sum_by attempts_in station.frames

-- and the ticks of its frames
abbrev pub station_ticks : StationData → ℕ
station_ticks station = station.repeat * sum_by (λ f. f.ticks) station.frames

-- the ticks of frames before the first of the items left; those of all frames where none is left
abbrev pub ticks_before : StationData → List Entry → ℕ
ticks_before station [] = station_ticks station
ticks_before station (entry ∷ later) = entry.offset

-- entry by entry the ticks of the frames before don't fall, up to those of all frames
abbrev pub Rises : StationData → List Entry → Type 0
Rises station [] = ⊤
Rises station (entry ∷ later) = (entry.offset ≤ ticks_before station later) × Rises station later

-- the agenda of a station has the attempts of its frames, and its entries are in the order of these
pub record HasAmounts (station : StationData) : Type 0 where
  pub attempts : sum_by (λ entry. 1 + length entry.item.retry) (agenda station) ≡ station_attempts station
  pub rises : Rises station (agenda station)
