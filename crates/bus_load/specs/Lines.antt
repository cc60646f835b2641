-- What is printed of a schedule: for each frame of the station that starts its ticks and what it takes at most, and then the verdict (the project's own).
use Rattle.std.specs.Prelude.{ℕ, ◌+◌, true, false, List, [], ◌∷◌, ◌++◌, codes, Option, Some, None}
use Rattle.bus_formats.specs.Plans.{FrameData, StationData, PlanData}
use Rattle.bus_text.specs.Texts.{line, number}
use Rattle.bus_load.specs.Load.{starting, frame_cost, verdict}
use Rattle.bus_load.specs.declared.reckoned.Verdict.{Verdict}
use Rattle.bus_load.specs.declared.reckoned.Verdict.TheVariants.{Long, Short, Over}

abbrev pub frame_line : ℕ → ℕ → ℕ → ℕ → List ℕ
frame_line frame ticks short long =
    line (codes "frame" ++ number frame ++ codes " ticks" ++ number ticks ++ codes " short" ++ number short ++ codes " long" ++ number long)

-- the lines of these frames, the first of which has this number
abbrev pub frame_lines : PlanData → ℕ → List FrameData → List ℕ
frame_lines plan frame [] = []
frame_lines plan frame (f ∷ later) =
    frame_line frame f.ticks (frame_cost false plan frame) (frame_cost true plan frame) ++ frame_lines plan (frame + 1) later

abbrev pub verdict_name : Verdict → List ℕ
verdict_name Long = codes "long"
verdict_name Short = codes "short"
verdict_name Over = codes "over"

abbrev pub verdict_line : Verdict → List ℕ
verdict_line told = line (codes "load " ++ verdict_name told)

abbrev pub frames_of : Option StationData → List FrameData
frames_of None = []
frames_of (Some station) = station.frames

abbrev pub load_text : PlanData → List ℕ
load_text plan = frame_lines plan 1 (frames_of (starting plan)) ++ verdict_line (verdict plan)
