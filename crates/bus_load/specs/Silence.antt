-- How long both channels can be quiet while a controller has items left, over frames that aren't laid out (the project's own).
use Rattle.std.specs.Prelude.{ℕ, ◌+◌, ◌-◌, max, nat_lt, if◌then◌else◌, List, [], ◌∷◌, sum_by, Option, Some, None}
use Rattle.bus_formats.specs.Plans.{ItemData, FrameData, StationData}
use Rattle.bus_formats.specs.Times.{dead_ticks, settling_quiet}
use Rattle.bus_load.specs.declared.silences.Spread.{Spread}
use Rattle.bus_model.specs.Starts.{first_origin}

-- the longest gap of items, in dead ticks
abbrev pub longest_gap : List ItemData → ℕ
longest_gap [] = 0
longest_gap (item ∷ items) = max (dead_ticks item.gap) (longest_gap items)

abbrev pub longest_gap_in : List FrameData → ℕ
longest_gap_in [] = 0
longest_gap_in (frame ∷ later) = max (longest_gap frame.items) (longest_gap_in later)

-- before the first frame
abbrev pub no_frames : Spread
no_frames = record { first = None; last = None; longest = 0 }

-- the ticks from the frame with items before to one that begins after so many
abbrev pub since : Option ℕ → ℕ → ℕ
since None ticks = 0
since (Some before) ticks = ticks - before

abbrev pub first_at : Option ℕ → ℕ → Option ℕ
first_at None ticks = Some ticks
first_at (Some first) ticks = Some first

-- one frame more, which begins after so many ticks
abbrev pub spread_by : Spread → ℕ → List ItemData → Spread
spread_by spread ticks [] = spread
spread_by spread ticks (item ∷ items) = record {
  first = first_at spread.first ticks;
  last = Some ticks;
  longest = max spread.longest (since spread.last ticks);
}

-- the frames that follow so many ticks of frames
abbrev pub spread_over : Spread → ℕ → List FrameData → Spread
spread_over spread ticks [] = spread
spread_over spread ticks (frame ∷ later) = spread_over (spread_by spread ticks frame.items) (ticks + frame.ticks) later

-- the ticks from the last frame with items to the first one, where the frames begin again after so many
abbrev pub wrapped_by : Option ℕ → Option ℕ → ℕ → ℕ
wrapped_by (Some first) (Some last) ticks = ticks + first - last
wrapped_by _ _ ticks = 0

abbrev pub wrapped : Spread → ℕ → ℕ
wrapped spread ticks = wrapped_by spread.first spread.last ticks

-- before the first item, where there is one
abbrev pub before_first : Option ℕ → ℕ
before_first None = 0
before_first (Some ticks) = first_origin.tick + ticks

-- the most ticks from a frame with items to the next, where the frames take so many ticks
abbrev pub longest_between : ℕ → Spread → ℕ → ℕ
longest_between repeat spread ticks = max spread.longest (if nat_lt 1 repeat then wrapped spread ticks else 0)

abbrev pub longest_quiet_by : ℕ → Spread → ℕ → ℕ → ℕ
longest_quiet_by repeat spread ticks gap =
    max settling_quiet (max gap (max (before_first spread.first) (longest_between repeat spread ticks)))

-- the longest that both channels can be quiet while this station lives and has items left
abbrev pub longest_quiet_of : StationData → ℕ
longest_quiet_of station =
    longest_quiet_by station.repeat (spread_over no_frames 0 station.frames) (sum_by (λ f. f.ticks) station.frames) (longest_gap_in station.frames)
