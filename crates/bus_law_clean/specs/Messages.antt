-- What a message leaves of the bursts of a run, where no fault strikes it and it isn't abandoned.
use Rattle.std.specs.Prelude.{◌≡◌, ℕ, ◌+◌, ◌≤◌, false, List, ◌++◌, map, reverse, Some, None}
use Rattle.bus_base.specs.Samples.{same_channel}
use Rattle.bus_base.specs.declared.samples.Channel.{Channel}
use Rattle.bus_line.specs.Channels.{WholeBurst}
use Rattle.bus_model.specs.Endings.{Passing, Ending}
use Rattle.bus_model.specs.Message.{Present, address_of_station, Message}
use Rattle.bus_model.specs.Run.{quiet_after}
use Rattle.bus_model.specs.Starts.{needed_quiet}
use Rattle.bus_monitor.specs.Messages.{Waiting}
use Rattle.bus_law_judge.specs.Rows.{waits_on, IsApart, AreInOrder}
use Rattle.bus_law_listing.specs.Listing.{burst_found}

-- the terminal is one, and answers in time
pub record IsPrompt (s : Present) : Type 0 where
  pub address : address_of_station s ≤ 31
  pub least : 8 ≤ s.plan.terminal.delay
  pub most : s.plan.terminal.delay ≤ 24

-- these bursts of a message on a channel, the newest first, follow a row of bursts in order, and the newest ends with tick last; whoever begins four ticks later
-- is apart from all of them; where the message still waits for an answer, the next one waits for forty quiet ticks; nothing changed on the other channel; no
-- answer runs on; and control passes, if it does, forty ticks after the last burst
pub record MessageKeeps (k : ℕ) (row : List WholeBurst) (c : Channel) (wholes : List WholeBurst) (last : ℕ) (ending : Ending) : Type 0 where
  pub in_order : AreInOrder k (wholes ++ row)
  pub apart : (next : ℕ) → last + 4 ≤ next → IsApart k (wholes ++ row) next
  pub waits : (w : Waiting) → waits_on k c (wholes ++ row) ≡ Some w → (w.from ≤ last) × (needed_quiet ending.ended.outcome ≡ 40)
  pub others : (e : Channel) → same_channel c e ≡ false → waits_on k e (wholes ++ row) ≡ waits_on k e row
  pub runs_on : ending.runs_on ≡ None
  pub passes : (p : Passing) → ending.passes ≡ Some p → p.tick ≡ last + 40

-- so it is with the bursts of a message of the table that starts in this tick
pub record LeavesInOrder (k : ℕ) (row : List WholeBurst) (c : Channel) (start : ℕ) (m : Message) : Type 0 where
  pub wholes : List WholeBurst
  pub are : map burst_found (reverse m.bursts) ≡ wholes
  pub last : ℕ
  pub begun : start ≤ last
  pub within : last ≤ quiet_after m.bursts
  pub keeps : MessageKeeps k row c wholes last m.ending
