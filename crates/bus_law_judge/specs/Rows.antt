-- Bursts that follow one another as the rules of timing ask, on whatever channel each of them is. A row of bursts has the newest first.
use Rattle.std.specs.Prelude.{◌≡◌, ℕ, suc, ◌+◌, ◌-◌, ◌≤◌, if◌then◌else◌, List, [], ◌∷◌, Option, None, IfSome}
use Rattle.bus_base.specs.Samples.{same_channel}
use Rattle.bus_base.specs.declared.samples.Channel.{Channel}
use Rattle.bus_line.specs.Past.{end_of}
use Rattle.bus_line.specs.Channels.{WholeBurst}
use Rattle.bus_monitor.specs.Messages.{Waiting, waits}
use Rattle.bus_rules.specs.Breaches.{longest_response, answered, ended_so}

module _ (k : ℕ) where
  -- the message that waits for an answer on a channel after these bursts
  abbrev pub waits_on : Channel → List WholeBurst → Option Waiting
  waits_on c [] = None
  waits_on c (whole ∷ older) =
      if same_channel whole.channel c then waits k (waits_on c older) whole.burst else waits_on c older

  -- a burst from this tick on begins after the end of the one before is known: more than k ticks after it, in which both channels were quiet
  abbrev pub IsApart : List WholeBurst → ℕ → Type 0
  IsApart [] first = Unit {0}
  IsApart (whole ∷ older) first = end_of whole.burst + suc k ≤ first

  -- the message that a burst answers, after these
  abbrev pub answered_by : List WholeBurst → WholeBurst → Option Waiting
  answered_by older whole = answered k (waits_on whole.channel older) whole.burst.first

  -- a burst follows these in order: apart from them; in time, where it is an answer; whole valid words, not too many of them; and a message of one of
  -- the formats, or the answer that is due
  pub record FollowsInOrder (older : List WholeBurst) (whole : WholeBurst) : Type 0 where
    pub apart : IsApart older whole.burst.first
    pub prompt : IfSome (answered_by older whole) (λ message. whole.burst.first - message.from ≤ longest_response)
    pub right : ended_so k whole.channel (answered_by older whole) whole.burst ≡ []

  -- each burst follows those before it in order
  abbrev pub AreInOrder : List WholeBurst → Type 0
  AreInOrder [] = Unit {0}
  AreInOrder (whole ∷ older) = FollowsInOrder older whole × AreInOrder older
