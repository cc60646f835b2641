-- Both channels of a recording: what is known of them after each moment, and the ticks that are due.
use Rattle.std.specs.Prelude.{ℕ, zero, suc, ◌-◌, min, max, nat_le, nat_lt, Bool, true, false, if◌then◌else◌, List, [], ◌∷◌, ◌++◌, length, drop, Option, Some, None}
use Rattle.arrayvec.specs.ArrayVec.{ArrayVec}
use Rattle.bus_base.specs.declared.samples.Sample.{Sample}
use Rattle.bus_base.specs.declared.samples.Pair.{Pair}
use Rattle.bus_phase.specs.Rows.{first_sample, after_first}
use Rattle.bus_phase.specs.Cleaning.{lost_change, after_lost, found_change, after_found, after_level, unheard}
use Rattle.bus_phase.specs.Anchors.{latest, tick_in_silence, tick_at_end}
use Rattle.bus_phase.specs.Following.{followed_if, lead_placed, lead_ended, longest_lead, end_tick, unmoved}
use Rattle.bus_phase.specs.declared.anchor.Anchor.{Anchor}
use Rattle.bus_phase.specs.declared.cleaner.Change.{Change}
use Rattle.bus_phase.specs.declared.track.Track.{Track}

-- both channels; the ticks that are told, and those that may be told
pub record PhaseData : Type 0 where
  pub a : Track
  pub b : Track
  pub settled : ℕ
  pub due : ℕ

-- the ticks that are held back, since later moments may tell more of them
abbrev pub held_back : ℕ
held_back = 32

-- the most ticks of a recording: a capture has no more
abbrev pub most_ticks : ℕ
most_ticks = 4261672000

-- a change of the cleaned level is found less than 750 ns after it; so long each waits, so that the changes of both channels are followed in their order
abbrev pub hold_time : ℕ
hold_time = 750000

-- the most changes of a channel that wait; changes lie 150 ns from one another at least, so there is always room
abbrev pub most_changes : ℕ
most_changes = 8

-- the latest moment, past all others
abbrev pub latest_moment : ℕ
latest_moment = 18446744073709551615

-- ---- one channel

abbrev pub queued : Option Change → List Change → List Change
queued None changes = changes
queued (Some change) changes = if nat_lt (length changes) most_changes then changes ++ change ∷ [] else changes

-- a moment has come: the changes that it shows in the runs before wait
abbrev pub lost : Track → Track
lost t = record t { cleaner = after_lost t.cleaner; changes = record { items = queued (lost_change t.cleaner) t.changes.items } }

abbrev pub found : ℕ → Track → Track
found now t = record t { cleaner = after_found now t.cleaner; changes = record { items = queued (found_change now t.cleaner) t.changes.items } }

abbrev pub heard : ℕ → Track → Track
heard now t = found now (lost t)

-- and the level from it on
abbrev pub levelled : ℕ → Sample → Track → Track
levelled now level t = record t { cleaner = after_level now level t.cleaner }

abbrev pub noticed : ℕ → Sample → Track → Track
noticed now level t = levelled now level (heard now t)

-- the first change that waits is followed
abbrev pub front : List Change → Option Change
front [] = None
front (change ∷ changes) = Some change

abbrev pub change_followed : Option Anchor → ℕ → Track → Track
change_followed other settled t =
    record t { changes = record { items = drop 1 t.changes.items }; follower = followed_if other settled (front t.changes.items) t.follower }

abbrev pub placed : ℕ → ℕ → Option Anchor → ℕ → Track → Track
placed now least other settled t = record t { follower = lead_placed other settled least now t.follower.lead t.follower }

abbrev pub lead_over : Option Anchor → ℕ → Track → Track
lead_over other settled t = record t { follower = lead_ended other settled t.follower.lead t.follower }

-- ---- both channels

-- A comes first, and B sees its anchor
abbrev pub on_a : (Option Anchor → ℕ → Track → Track) → PhaseData → PhaseData
on_a step p = record p { a = step p.b.follower.anchor p.settled p.a }

abbrev pub on_b : (Option Anchor → ℕ → Track → Track) → PhaseData → PhaseData
on_b step p = record p { b = step p.a.follower.anchor p.settled p.b }

abbrev pub on_both : (Option Anchor → ℕ → Track → Track) → PhaseData → PhaseData
on_both step p = on_b step (on_a step p)

-- whether a channel's first change comes before the other channel's, or at the same time
abbrev pub comes_first : List Change → List Change → Bool
comes_first [] other = false
comes_first (own ∷ changes) [] = true
comes_first (own ∷ changes) (other ∷ others) = nat_le own.at other.at

abbrev pub is_first_on_a : PhaseData → Bool
is_first_on_a p = comes_first p.a.changes.items p.b.changes.items

-- whether the first change is at a moment or before it
abbrev pub begins_by : ℕ → List Change → Bool
begins_by moment [] = false
begins_by moment (change ∷ changes) = nat_le change.at moment

abbrev pub is_first_by : ℕ → PhaseData → Bool
is_first_by moment p = if is_first_on_a p then begins_by moment p.a.changes.items else begins_by moment p.b.changes.items

-- the first change of both channels is followed
abbrev pub first_followed : PhaseData → PhaseData
first_followed p = if is_first_on_a p then on_a change_followed p else on_b change_followed p

-- the changes up to a moment are followed, so many at most
abbrev pub followed_by : ℕ → ℕ → PhaseData → PhaseData
followed_by zero moment p = p
followed_by (suc n) moment p = if is_first_by moment p then followed_by n moment (first_followed p) else p

-- all that wait up to a moment
abbrev pub followed_to : ℕ → PhaseData → PhaseData
followed_to moment p = followed_by 16 moment p

-- the ticks that are due at a moment: those more than 32 before it
abbrev pub due_at : ℕ → PhaseData → ℕ
due_at now p = tick_in_silence (latest p.a.follower.anchor p.b.follower.anchor) now - held_back

-- so many ticks are due, never fewer than before
abbrev pub with_due : ℕ → PhaseData → PhaseData
with_due ticks p = record p { due = max p.due (min ticks most_ticks) }

abbrev pub with_due_at : ℕ → PhaseData → PhaseData
with_due_at now p = with_due (due_at now p) p

-- at this moment, and from it on, the channels show this pair
abbrev pub both_noticed : ℕ → Pair → PhaseData → PhaseData
both_noticed now pair p = record p { a = noticed now pair.a p.a; b = noticed now pair.b p.b }

abbrev pub advanced : ℕ → PhaseData → PhaseData
advanced moment p = on_both (placed moment longest_lead) (followed_to moment p)

abbrev pub shown : ℕ → Pair → PhaseData → PhaseData
shown now pair p = with_due_at now (advanced (now - hold_time) (both_noticed now pair p))

-- the recording ends at this moment: all changes are followed, and all ticks are due, up to the moment and to the last change
abbrev pub both_heard : ℕ → PhaseData → PhaseData
both_heard now p = record p { a = heard now p.a; b = heard now p.b }

abbrev pub last_tick : ℕ → PhaseData → ℕ
last_tick now p =
    max (tick_at_end (latest p.a.follower.anchor p.b.follower.anchor) now)
    (max (end_tick p.settled p.a.follower) (end_tick p.settled p.b.follower))

abbrev pub with_due_to_last : ℕ → PhaseData → PhaseData
with_due_to_last now p = with_due (last_tick now p) p

abbrev pub ended : ℕ → PhaseData → PhaseData
ended now p = with_due_to_last now (on_both lead_over (followed_to latest_moment (both_heard now p)))

-- ---- what is told

abbrev pub track_told : Track → Track
track_told t = record t { follower = record t.follower { row = after_first t.follower.row } }

-- the first tick that isn't told
abbrev pub pair_now : PhaseData → Pair
pair_now p = record { a = first_sample p.a.follower.row; b = first_sample p.b.follower.row }

abbrev pub after_tick : PhaseData → PhaseData
after_tick p = record { a = track_told p.a; b = track_told p.b; settled = suc p.settled; due = p.due }

-- so many ticks, and what is left after them
abbrev pub ticks_told : ℕ → PhaseData → List Pair
ticks_told zero p = []
ticks_told (suc n) p = pair_now p ∷ ticks_told n (after_tick p)

abbrev pub after_ticks : ℕ → PhaseData → PhaseData
after_ticks zero p = p
after_ticks (suc n) p = after_ticks n (after_tick p)

-- before anything is recorded
abbrev pub no_changes : ArrayVec Change
no_changes = record { items = [] }

abbrev pub track_at_start : Track
track_at_start = record { cleaner = unheard; changes = no_changes; follower = unmoved }

abbrev pub phase_at_start : PhaseData
phase_at_start = record { a = track_at_start; b = track_at_start; settled = 0; due = 0 }
