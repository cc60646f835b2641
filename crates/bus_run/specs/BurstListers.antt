-- For which pasts a lister of bursts stands, and what it tells of a tick.
use Rattle.std.specs.Prelude.{◌≡◌, ℕ, ◌+◌, ◌-◌, ◌*◌, ◌<◌, ◌≤◌, ◌^◌, min, if◌then◌else◌, List, Option, Some, None, is_some, count_by, ⊤}
use Rattle.bus_base.specs.declared.samples.Channel.{Channel}
use Rattle.bus_base.specs.declared.samples.Channel.TheVariants.{A, B}
use Rattle.bus_base.specs.declared.samples.Pair.{Pair}
use Rattle.bus_base.specs.declared.samples.Sample.{Sample}
use Rattle.bus_line.specs.Past.{Burst, ended_now}
use Rattle.bus_line.specs.Channels.{on_channel, valid_slots}
use Rattle.bus_line.specs.Cutting.{running_slots}
use Rattle.bus_line.specs.declared.cutter.Cut.{Cut}
use Rattle.bus_line.specs.declared.cutter.Cut.TheVariants as cuts
use Rattle.bus_formats.specs.declared.log.HeardBurst.{HeardBurst}
use Rattle.bus_run.specs.declared.burst_lister.Ear.{Ear}
use Rattle.bus_run.specs.declared.burst_lister.BurstLister.{BurstLister}

-- ---- what is told

-- a burst on a channel, as the log has it
abbrev pub heard_of : Channel → Option Burst → Option HeardBurst
heard_of c None = None
heard_of c (Some burst) = Some record { start = record { 0 = burst.first }; channel = c; ticks = burst.ticks; valid = valid_slots burst }

-- the burst of one channel whose end became known in the newest tick
abbrev pub burst_now_on : ℕ → Channel → List Sample → Option HeardBurst
burst_now_on k c past = heard_of c (ended_now k past)

-- likewise of both channels
abbrev pub burst_on : ℕ → Channel → List Pair → Option HeardBurst
burst_on k c past = burst_now_on k c (on_channel c past)

-- ---- one tick, as a function of the ear and of what its cutter told

-- a burst that ended lies before the tick
abbrev pub EndFits : ℕ → ℕ → Cut → Type 0
EndFits k tick cuts.Nothing = ⊤
EndFits k tick (cuts.Slot i word) = ⊤
EndFits k tick (cuts.Ended slots rest) = (tick < 2 ^ 32) × (40 * slots + rest + k ≤ tick)

abbrev pub one_more : ℕ → ℕ
one_more n = min (n + 1) 4294967295

abbrev pub after_cut : Cut → Ear → Ear
after_cut cuts.Nothing ear = ear
after_cut (cuts.Slot i word) ear = if is_some word then record ear { valid = one_more ear.valid } else ear
after_cut (cuts.Ended slots rest) ear = record ear { valid = 0 }

abbrev pub burst_told : ℕ → Channel → ℕ → Cut → ℕ → Option HeardBurst
burst_told k c tick cuts.Nothing valid = None
burst_told k c tick (cuts.Slot i word) valid = None
burst_told k c tick (cuts.Ended slots rest) valid =
    Some record { start = record { 0 = tick - k - (40 * slots + rest) }; channel = c; ticks = 40 * slots + rest; valid = valid }

-- ---- for which pasts they stand

-- the ear of a channel stands for what the channel showed
pub record EarStands (k : ℕ) (ear : Ear) (past : List Sample) : Type 0 where
  pub valid_is : ear.valid ≡ count_by is_some (running_slots k past)

-- the lister stands for what both channels showed
pub record BurstListerStands (k : ℕ) (lister : BurstLister) (past : List Pair) : Type 0 where
  pub a : EarStands k lister.a (on_channel A past)
  pub b : EarStands k lister.b (on_channel B past)
