use Rattle.std.proofs.Common.{◌≡◌, ◌≤◌, ◌-◌, List, ◌++◌}
use Rattle.bus_base.specs.Samples.{quiet_pairs}
use Rattle.bus_base.specs.declared.samples.Pair.{Pair}
use Rattle.bus_wave.specs.Drawers.{KeepsTicks, QuietTell}
use Rattle.bus_wave.proofs.wave_lister.WaveLister.keep_quiet.Given as goal

abbrev pub invariant-ticks : goal.invariant-ticks
invariant-ticks l =
    (l.self.a ≡ l.initial.self.a) × (l.self.b ≡ l.initial.self.b) × (l.kept ≤ l.ticks)
    × ((past : List Pair) → KeepsTicks l.initial.self past → QuietTell l.ticks past → KeepsTicks l.self (quiet_pairs l.kept ++ past))

abbrev pub decreases-ticks : goal.decreases-ticks
decreases-ticks l = l.ticks - l.kept
