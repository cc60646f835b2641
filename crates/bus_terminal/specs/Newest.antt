-- Which commands a terminal knows: each channel that has one is marked, and what the last order left is newer than those on the other channel.
use Rattle.std.specs.Prelude.{◌≡◌, ℕ, ◌+◌, ◌<◌, Bool, true, false, List, Option, None}
use Rattle.bus_base.specs.Samples.{other_of}
use Rattle.bus_base.specs.declared.samples.Channel.{Channel}
use Rattle.bus_base.specs.declared.samples.Sample.{Sample}
use Rattle.bus_line.specs.Cutting.{running_slots}
use Rattle.bus_model.specs.Orders.{Duty, free, owes, promises, last_order}
use Rattle.bus_model.specs.Hearing.{Moment, heard_on}
use Rattle.bus_model.specs.Standing.{Standing, mark_on, ignored_from, is_newer, superseded}

-- an order left an answer or a promise
abbrev pub is_left : Duty → Bool
is_left free = false
is_left (owes words acceptance) = true
is_left (promises command transmitter) = true

-- a channel that isn't ignored has a mark, where the burst that runs there has a command for the terminal
abbrev pub IsMarked : ℕ → ℕ → List Sample → Option ℕ → Option ℕ → Type 0
IsMarked k own heard sent addressed = ignored_from k heard sent ≡ false → addressed ≡ None → last_order own (running_slots k heard) ≡ None

pub record AreMarked (k own : ℕ) (past : List Moment) (s : Standing) : Type 0 where
  pub on : (c : Channel) → IsMarked k own (heard_on c past) (mark_on s.sent c) (mark_on s.addressed c)

-- after n ticks: the last order was handled, and its channel has the newer command of the two, unless one on the other channel took
-- back what it left
pub record IsNewest (k n : ℕ) (s : Standing) : Type 0 where
  pub handled : s.end + k < n
  pub newest : superseded k s ≡ false → is_newer s.channel (mark_on s.addressed s.channel) (mark_on s.addressed (other_of s.channel)) ≡ true
