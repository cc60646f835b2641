-- A message that begins beside an answer that was abandoned: two stations send at once, on two channels (superseding valid commands, MIL-STD-1553B
-- 4.4.3.2; that a controller abandons answers is the project's own).
use Rattle.std.specs.Prelude.{◌≡◌, ◌⊎◌, ℕ, ◌+◌, ◌*◌, min, max, Bool, true, false, ◌&&◌, ◌||◌, ◌==◌, nat_lt, if◌then◌else◌, List, [], ◌∷◌, length, Option, Some}
use Rattle.bus_base.specs.Samples.{same_channel}
use Rattle.bus_base.specs.declared.samples.Channel.TheVariants.{A}
use Rattle.bus_base.specs.declared.samples.Sample.{Sample}
use Rattle.bus_base.specs.declared.samples.Sample.TheVariants.{Quiet}
use Rattle.bus_words.specs.declared.word.Word.{Word}
use Rattle.std.specs.List.{AllByRecursion as Each}
use Rattle.bus_formats.specs.Accepted.{IsAccepted, Supersedes}
use Rattle.bus_formats.specs.Plans.{StationData}
use Rattle.bus_formats.specs.declared.fault.Hit.{Hit}
use Rattle.bus_model.specs.Message.{Present}
use Rattle.bus_model.specs.Starts.{Entry}
use Rattle.bus_model.specs.Strikes.{ShownBurst, burst_end, ShownAnswer, own_struck, beside_command}
use Rattle.bus_law_parts.specs.Parts.{part_ticks, part_sample}
use Rattle.bus_law_phases.specs.Commands.{command_at}
use Rattle.bus_law_duties.specs.Duties.{AreApart}
use Rattle.bus_law_plans.specs.Entries.{IsEntryOf}
use Rattle.bus_law_plans.specs.Memories.{AreBlocks}
use Rattle.bus_law_stations.specs.Messages.{BeginsMessage}
use Rattle.bus_law_phases.specs.Scenarios.{Scenario, shown_at, course_of}
use Rattle.bus_law_moments.specs.Begun.{IsRanged, MessageBegan}
use Rattle.bus_law_moments.specs.OldAnswers.{BesideOldAnswer}
use Rattle.bus_law_moments.specs.Told.{MessageTold}

-- ---- what is shown of the answer

-- whether the first word of a command is valid
abbrev pub is_valid : List (Option Word) → Bool
is_valid (Some word ∷ slots) = true
is_valid _ = false

-- the ticks, counted from its first one, in which an answer is sent by itself: its words, or, of one that a cut ends, four ticks more, in which its end
-- isn't known; where a command begins on the other channel after so many ticks that aren't fewer, those
abbrev pub sent_by_itself : ShownAnswer → ℕ → ℕ
sent_by_itself old n =
    if nat_lt (length (own_struck old.hits old.sent.words)) (length old.sent.words) then part_ticks old.hits old.sent.words + 4
    else max (40 * length old.sent.words) n

-- those in which it is sent beside that command: the last tick of its first word, if that is valid, is the answer's last
abbrev pub sent_beside : ShownAnswer → ℕ → Bool → ℕ
sent_beside old n true = min (sent_by_itself old n) (n + 40)
sent_beside old n false = sent_by_itself old n

-- those in which something may be shown of it
abbrev pub shown_beside : ShownAnswer → ℕ → Bool → ℕ
shown_beside old n valid = min (part_ticks old.hits old.sent.words) (sent_beside old n valid)

-- sample i of a part of which the first m are shown
abbrev pub broken_sample : List Hit → List Word → ℕ → ℕ → Sample
broken_sample hits words m i = if nat_lt i m then part_sample hits words i else Quiet

-- ---- the bursts

-- a burst ends before another one, or in the same tick and it is on A
abbrev pub ends_before : ShownBurst → ShownBurst → Bool
ends_before old command =
    nat_lt (burst_end old) (burst_end command) || ((burst_end old == burst_end command) && same_channel old.channel A)

-- two bursts in the order of their ends, A before B
abbrev pub by_ends : ShownBurst → ShownBurst → List ShownBurst
by_ends old command = if ends_before old command then old ∷ command ∷ [] else command ∷ old ∷ []

-- ---- the message

-- beside an answer that was abandoned a message of an accepted plan begins, at the product's lag: it supersedes that answer
pub record BeginsBeside (w : Scenario) (t place : ℕ) (holder : StationData) (stations : List Present) (entry : Entry) (old : ShownAnswer) : Type 0 where
  pub lag : w.lag ≡ 3
  pub accepted : IsAccepted w.plan
  pub blocks : AreBlocks w.loads
  pub entry_of : IsEntryOf w.plan holder.terminal.address entry
  pub beside : BesideOldAnswer w t place holder stations old
  pub begins : BeginsMessage (course_of w holder (shown_at w t)) (shown_at w t) entry
  pub apart : AreApart stations
  pub ranged : Each IsRanged stations
  pub supersedes : Supersedes old.sent.address entry.item.kind

module _ (w : Scenario) (t : ℕ) (holder : StationData) (entry : Entry) (old : ShownAnswer) where
  -- the bursts that are found: the command's, and what is shown of the answer
  abbrev pub found_beside : List ShownBurst
  found_beside = by_ends (beside_command (command_at w t t holder entry) old) (command_at w t t holder entry)

  -- the message began, and the answer is over; or its first word was struck, so that nobody obeys it, and the answer runs on after its command: it is told
  -- once both are over
  abbrev pub BeganBeside : ℕ → List Present → Type 0
  BeganBeside place stations =
      MessageBegan w t holder entry place stations [] found_beside ⊎ MessageTold w t holder stations entry place [] found_beside
