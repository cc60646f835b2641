-- The ticks of a capture, read back from the times and levels of its wave.
use Rattle.std.specs.Prelude.{ℕ, zero, suc, ◌-◌, List, [], ◌∷◌, length}
use Rattle.bus_base.specs.Samples.{quiet_pair}
use Rattle.bus_base.specs.declared.samples.Channel.TheVariants.{A, B}
use Rattle.bus_base.specs.declared.samples.Pair.{Pair}
use Rattle.bus_wave.specs.Marks.{Change, time, level}

-- what a reader has seen: the ticks before the time at which it stands, the newest first, and what is shown from then on
pub record Seen : Type 0 where
  pub ticks : List Pair
  pub shown : Pair

-- so many ticks more that show the same
abbrev pub filled : ℕ → Pair → List Pair → List Pair
filled zero shown ticks = ticks
filled (suc n) shown ticks = shown ∷ filled n shown ticks

-- a time ends what was shown before it, and a level changes it on its channel; other lines say nothing of the levels
abbrev pub see : Change → Seen → Seen
see (time t) seen = record { ticks = filled (t - length seen.ticks) seen.shown seen.ticks; shown = seen.shown }
see (level A x) seen = record { ticks = seen.ticks; shown = record { a = x; b = seen.shown.b } }
see (level B x) seen = record { ticks = seen.ticks; shown = record { a = seen.shown.a; b = x } }
see _ seen = seen

abbrev pub see_all : List Change → Seen → Seen
see_all [] seen = seen
see_all (change ∷ changes) seen = see_all changes (see change seen)

-- before the first tick both channels are quiet, as the head says
abbrev pub ticks_of : List Change → List Pair
ticks_of changes = (see_all changes record { ticks = []; shown = quiet_pair }).ticks
