-- For which pasts a monitor stands.
use Rattle.std.specs.Prelude.{◌≡◌, ℕ, ◌+◌, ◌≤◌, List, map, vec_capacity}
use Rattle.bus_base.specs.declared.samples.Pair.{Pair}
use Rattle.bus_line.specs.Channels.{quiet_both, valid, bursts}
use Rattle.bus_line.specs.declared.cutter.TheConstants.{LAG}
use Rattle.bus_model.specs.WorldLog.{heard_word, heard_burst}
use Rattle.bus_run.specs.BurstListers.{BurstListerStands}
use Rattle.bus_run.specs.declared.monitor.Monitor.{Monitor}

-- the monitor's lists stand for what both channels showed; there is room for two more than so many words and bursts
pub record ListsStand (most_words most_bursts : ℕ) (monitor : Monitor) (past : List Pair) : Type 0 where
  pub burst_lister : BurstListerStands LAG monitor.burst_lister past
  pub words_are : monitor.words.items ≡ map heard_word (valid LAG past)
  pub bursts_are : monitor.bursts.items ≡ map heard_burst (bursts LAG past)
  pub word_room : most_words + 2 ≤ vec_capacity monitor.words
  pub burst_room : most_bursts + 2 ≤ vec_capacity monitor.bursts

-- the monitor stands for it, with the count of the quiet ticks
pub record MonitorStands (most_words most_bursts : ℕ) (monitor : Monitor) (past : List Pair) : Type 0 where
  pub lists : ListsStand most_words most_bursts monitor past
  pub quiet_is : monitor.quiet ≡ quiet_both past
