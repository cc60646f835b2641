use Rattle.std.proofs.Common.{◌≡◌, ◌-◌}
use Rattle.bus_controller.specs.Queue.{IsPlace, entries_of}
use Rattle.bus_controller.proofs.place.first_item.Given as goal

-- the items from here on are those from the place on
abbrev pub invariant-frames : goal.invariant-frames
invariant-frames l = IsPlace l.frames l.at × (entries_of l.frames l.at ≡ entries_of l.frames l.fn.place)

-- the number of frames is bounded
abbrev pub decreases-frames : goal.decreases-frames
decreases-frames l = 65538 - l.at.number
