-- What becomes known of one channel in each tick, and for which pasts a cutter stands.
use Rattle.std.specs.Prelude.{◌≡◌, ℕ, suc, ◌+◌, ◌*◌, ◌%◌, ◌<◌, ◌≤◌, nat_le, true, if◌then◌else◌, List, [], ◌∷◌, ◌++◌, reverse, length, set, take, Option, Some, None, IsSome}
use Rattle.bus_base.specs.declared.samples.Sample.{Sample}
use Rattle.bus_words.specs.declared.word.Word.{Word}
use Rattle.bus_line.specs.declared.cutter.Cut.{Cut}
use Rattle.bus_line.specs.declared.cutter.Cut.TheVariants as cuts
use Rattle.bus_line.specs.declared.cutter.Cutter.{Cutter}
use Rattle.bus_line.specs.Past.{Burst, Slot, quiet, runs, first_tick, slot_word, newest_burst, rest_of, ended_now, slot_number, slot_now}

-- what an ended burst, or else a slot of the burst that begins at p, tells
abbrev pub cut_of : List Sample → ℕ → Option Burst → Option ℕ → Cut
cut_of past p (Some burst) slot = cuts.Ended (length burst.slots) (rest_of burst)
cut_of past p None (Some i) = cuts.Slot i (slot_word past p i)
cut_of past p None None = cuts.Nothing

-- what became known in the newest tick
unfoldable pub cut_now : ℕ → List Sample → Cut
cut_now k past = cut_of past (first_tick k past) (ended_now k past) (slot_number k past)

-- the words of the whole slots of the burst that runs
unfoldable pub running_slots : ℕ → List Sample → List (Option Word)
running_slots k past = if runs k past then (newest_burst k past).slots else []

-- what a cut tells of the past: at an end the newest burst, its whole slots and the ticks after them; at a slot its first tick and word
abbrev pub Tells : ℕ → List Sample → Cut → Type 0
Tells k past cuts.Nothing = (ended_now k past ≡ None) × (slot_now k past ≡ None)
Tells k past (cuts.Slot i word) =
    (ended_now k past ≡ None) × (slot_now k past ≡ Some record { first = first_tick k past + 40 * i; word = word })
Tells k past (cuts.Ended slots rest) =
    (ended_now k past ≡ Some (newest_burst k past)) × (slot_now k past ≡ None)
    × (length (newest_burst k past).slots ≡ slots) × (rest_of (newest_burst k past) ≡ rest)

-- what a cut does to the words of the whole slots of the burst that runs
abbrev pub Collects : Cut → List (Option Word) → List (Option Word) → Type 0
Collects cuts.Nothing old new = new ≡ old
Collects (cuts.Slot i word) old new = (i ≡ length old) × (new ≡ old ++ word ∷ [])
Collects (cuts.Ended slots rest) old new = (slots ≡ length old) × (new ≡ [])

-- what the end of a burst tells of the ticks before it: the burst ran, its words are those collected, and its last tick is k + 1 ticks ago
pub record Closes (k : ℕ) (x : Sample) (past : List Sample) (burst : Burst) : Type 0 where
  pub ran : runs k past ≡ true
  pub first : burst.first ≡ first_tick k past
  pub slots : burst.slots ≡ running_slots k past
  pub ended : burst.first + (40 * length burst.slots + rest_of burst) + suc k ≡ length (x ∷ past)

-- what a slot that ended tells: it is the next of the burst that runs, and ended now or up to k ticks ago, now if it has a word
pub record Fills (k : ℕ) (x : Sample) (past : List Sample) (slot : Slot) : Type 0 where
  pub ran : runs k past ≡ true
  pub first : slot.first ≡ first_tick k past + 40 * length (running_slots k past)
  pub whole : slot.first + 40 ≤ length (x ∷ past)
  pub late : length (x ∷ past) ≤ slot.first + 40 + k
  pub word : IsSome slot.word → slot.first + 40 ≡ length (x ∷ past)

-- ---- For which pasts a cutter stands. Nothing below has to be believed: a new cutter stands for quiet ticks, each sample keeps it, and
-- what `hear` answers is right for every past for which it stood.

-- the samples of the newest n ticks, in their order
abbrev pub newest_samples : ℕ → List Sample → List Sample
newest_samples n past = reverse (take n past)

-- the cutter's ticks are those of the burst that runs, where one runs
pub record Follows (k : ℕ) (cutter : Cutter) (past : List Sample) : Type 0 where
  pub forty : length cutter.samples ≡ 40
  pub short : cutter.rest < 40
  pub runs : nat_le cutter.quiet k ≡ runs k past
  pub within : cutter.quiet ≤ suc k
  pub quiet : cutter.quiet ≤ k → cutter.quiet ≡ quiet past
  pub here : cutter.quiet ≤ k → first_tick k past + (40 * cutter.slots + cutter.rest) + cutter.quiet ≡ length past
  pub kept : cutter.quiet ≤ k →
      take ((cutter.rest + cutter.quiet) % 40) cutter.samples ≡ newest_samples ((cutter.rest + cutter.quiet) % 40) past

-- the cutter after the first sample of a burst
abbrev pub begun : List Sample → Sample → Cutter
begun samples x = record { samples = set samples 0 x; slots = 0; rest = 1; quiet = 0 }

-- the cutter stands for the past: this is how it may be after hearing it
unfoldable pub CutterStands : ℕ → Cutter → List Sample → Type 0
CutterStands k cutter past = Follows k cutter past
