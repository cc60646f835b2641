-- The items that a controller has left, from a place in its frames on.
use Rattle.std.specs.Prelude.{◌≡◌, ℕ, ◌+◌, ◌*◌, ◌<◌, ◌≤◌, Bool, ◌==◌, List, [], ◌∷◌, ◌++◌, length, drop, sum_by, All, slice_get, Some}
use Rattle.bus_base.specs.Positions.{IsBetween}
use Rattle.bus_formats.specs.Plans.{FrameData}
use Rattle.bus_formats.specs.Accepted.{HasFrameRanges}
use Rattle.bus_model.specs.Starts.{Entry, entries_in, entries_from, repeated}
use Rattle.bus_controller.specs.declared.place.Place.{Place}

-- the items of these frames, the first of which has this number and follows so many ticks of frames, from an item of it on
abbrev pub entries_at : ℕ → ℕ → ℕ → List FrameData → List Entry
entries_at number offset item [] = []
entries_at number offset item (f ∷ later) =
    entries_in number offset (item + 1) (drop item f.items) ++ entries_from (number + 1) (offset + f.ticks) later

-- the frames from a place on
abbrev pub frames_at : List FrameData → Place → List FrameData
frames_at frames place = drop place.frame frames ++ repeated place.rounds frames

-- the items from a place on
unfoldable pub entries_of : List FrameData → Place → List Entry
entries_of frames place = entries_at place.number place.offset place.item (frames_at frames place)

-- the items of all frames
abbrev pub items_of : List FrameData → ℕ
items_of frames = sum_by (λ f. length f.items) frames

-- the frames that a controller may run so many times
pub record MayRun (frames : List FrameData) (repeat : ℕ) : Type 0 where
  pub few : length frames ≤ 1024
  pub rounds : IsBetween 1 64 repeat
  pub ranges : All HasFrameRanges frames
  pub items : repeat * items_of frames ≤ 16384

-- a place among such frames: its number counts the frames up to it, of which each has at most a million ticks
pub record IsPlace (frames : List FrameData) (place : Place) : Type 0 where
  pub within : place.frame ≤ length frames
  pub wrapped : place.frame ≡ length frames → place.rounds ≡ 0
  pub counted : 0 < place.number
  pub number : place.number + 1024 * place.rounds ≤ 64513 + place.frame
  pub offset : place.offset + 1000000 ≤ place.number * 1000000

-- there is an item at the place
pub record HasItem (frames : List FrameData) (place : Place) : Type 0 where
  pub frame : FrameData
  pub is : slice_get frames place.frame ≡ Some frame
  pub within : place.item < length frame.items

-- the place is that of the first item left, where any is
pub record IsQueue (frames : List FrameData) (place : Place) (left : ℕ) : Type 0 where
  pub few : length frames ≤ 1024
  pub ranges : All HasFrameRanges frames
  pub short : items_of frames ≤ 16384
  pub place_is : IsPlace frames place
  pub left_is : left ≡ length (entries_of frames place)
  pub item : 0 < left → HasItem frames place

-- when the next item is due: its gap, the ticks of all frames before its own, and whether it is the first of its frame
pub record DueData : Type 0 where
  pub gap : ℕ
  pub offset : ℕ
  pub opens : Bool

abbrev pub due_of : Entry → DueData
due_of entry = record { gap = entry.item.gap; offset = entry.offset; opens = entry.place == 1 }
