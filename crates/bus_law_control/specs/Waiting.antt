-- A controller that starts nothing yet, and one that waits while its own channel stays quiet.
use Rattle.std.specs.Prelude.{◌≡◌, ◌<◌, List, [], ◌∷◌, ◌++◌, length}
use Rattle.bus_base.specs.declared.samples.Pair.{Pair}
use Rattle.bus_model.specs.Starts.{Entry, start_of}
use Rattle.bus_model.specs.Course.{Course, quiet_from}

-- no message starts in the tick to come: c is the course of a controller, after what the channels showed
abbrev pub StartsLater : Course → List Pair → Type 0
StartsLater c past = (entry : Entry) (later : List Entry) → c.left ≡ entry ∷ later →
    length past < start_of c.opening c.retry c.origin entry (quiet_from past)

-- nor did one in any of these ticks, which follow those of past
abbrev pub StartedNone : Course → List Pair → List Pair → Type 0
StartedNone c past [] = Unit {0}
StartedNone c past (x ∷ ticks) = StartsLater c (ticks ++ past) × StartedNone c past ticks
