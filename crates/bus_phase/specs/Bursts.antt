-- A burst that is recorded within the standard's tolerance (MIL-STD-1553B 4.5.2.1.4, 4.3.3.3): no run of it is unsure, and each crossing lies within 125 ns
-- of a whole number of ticks from the one before.
use Rattle.std.specs.Prelude.{ℕ, zero, suc, ◌+◌, ◌-◌, ◌≤◌, max, false, List, [], ◌∷◌, ◌++◌, length, replicate, Option, Some, None}
use Rattle.bus_base.specs.declared.samples.Sample.{Sample}
use Rattle.bus_base.specs.declared.samples.Sample.TheVariants.{Quiet}
use Rattle.bus_base.specs.Samples.{exchanged}
use Rattle.bus_phase.specs.Times.{nearest, error_of}
use Rattle.bus_phase.specs.Rows.{RowData, first_sample, after_first}
use Rattle.bus_phase.specs.Anchors.{reference}
use Rattle.bus_phase.specs.Phases.{no_changes, noticed, change_followed, track_told}
use Rattle.bus_phase.specs.declared.anchor.Anchor.{Anchor}
use Rattle.bus_phase.specs.declared.follower.Follower.{Follower}
use Rattle.bus_phase.specs.declared.track.Track.{Track}

-- a crossing: when it is, in picoseconds; the other channel's anchor then; and how many ticks are told after it
pub record Crossing : Type 0 where
  pub at : ℕ
  pub other : Option Anchor
  pub told : ℕ

-- a moment of a channel, whose first changes are followed before the next; how long each waits doesn't matter, as any number of ticks may be told after it
abbrev pub moment_on : ℕ → Sample → Option Anchor → ℕ → Track → Track
moment_on now level other settled t = change_followed other settled (noticed now level t)

-- a channel in a burst, at the moment of a crossing to this level: the crossing before is the anchor, and the row ends in its tick
abbrev pub track_in_burst : Sample → ℕ → ℕ → ℕ → List Sample → Track
track_in_burst level settled before now waiting = record {
  cleaner = record { sure = exchanged level; until = now; level = level; since = now; is_sure = false };
  changes = no_changes;
  follower = record {
    cleaned = exchanged level;
    since = before;
    lead = None;
    anchor = Some record { tick = settled + length waiting; at = before };
    row = record { waiting = waiting; level = exchanged level };
  };
}

-- so many ticks of a channel are told, and the channel after them
abbrev pub samples_told : ℕ → RowData → List Sample
samples_told zero row = []
samples_told (suc n) row = first_sample row ∷ samples_told n (after_first row)

abbrev pub track_after : ℕ → Track → Track
track_after zero t = t
track_after (suc n) t = track_after n (track_told t)

-- all samples of a channel from the first that isn't told: those that are told after each crossing, and those that wait after the last
abbrev pub samples_over : Sample → ℕ → Track → List Crossing → List Sample
samples_over level settled t [] = t.follower.row.waiting
samples_over level settled t (x ∷ xs) =
    samples_told x.told (moment_on x.at (exchanged level) x.other settled t).follower.row
    ++ samples_over (exchanged level) (settled + x.told) (track_after x.told (moment_on x.at (exchanged level) x.other settled t)) xs

-- the samples of the runs that end with these crossings but the last: for each run as many as are nearest to its length
abbrev pub run_samples : Sample → ℕ → ℕ → List Crossing → List Sample
run_samples level before now [] = []
run_samples level before now (x ∷ xs) = replicate (nearest (now - before)) (exchanged level) ++ run_samples (exchanged level) now x.at xs

-- each crossing lies within 125 ns of a whole number of ticks from the one before, 375 ns after it at least; no more ticks are told than the row has, and no
-- more than 64 wait
abbrev pub IsWithinTolerance : ℕ → ℕ → ℕ → List Crossing → Type 0
IsWithinTolerance waiting before now [] = Unit {0}
IsWithinTolerance waiting before now (x ∷ xs) =
    (before ≤ now) × (error_of (now - before) ≤ 125000) × (now + 375000 ≤ x.at)
    × (waiting + nearest (now - before) ≤ 64) × (x.told ≤ waiting + nearest (now - before))
    × IsWithinTolerance (waiting + nearest (now - before) - x.told) now x.at xs

-- ---- where a burst begins and ends

-- a channel after the first run of a burst that began at a time, with the quiet row before it
abbrev pub follower_at_lead : Sample → ℕ → ℕ → Option Anchor → List Sample → Follower
follower_at_lead level since from anchor waiting =
    record { cleaned = level; since = since; lead = Some from; anchor = anchor; row = record { waiting = waiting; level = Quiet } }

-- a channel in a burst after a crossing, with the anchor's tick
abbrev pub follower_in_burst : Sample → ℕ → ℕ → ℕ → List Sample → Follower
follower_in_burst level since tick at waiting =
    record { cleaned = level; since = since; lead = None; anchor = Some record { tick = tick; at = at }; row = record { waiting = waiting; level = level } }

-- the tick of the first crossing: its reference, but late enough for the whole first run
abbrev pub first_of : Option Anchor → Option Anchor → ℕ → ℕ → ℕ → List Sample → ℕ
first_of other anchor settled from at waiting = max (reference anchor other at) (settled + length waiting + nearest (at - from))
