-- What a run brings, by the message table: that there is room for it, and what the objects for subsystems tell after it.
use Rattle.std.specs.Prelude.{◌≡◌, ◌≤◌, ◌<◌, ℕ, List, [], length, map, slice_get, Option, Some}
use Rattle.bus_line.specs.Channels.{valid, bursts}
use Rattle.bus_line.specs.declared.cutter.TheConstants.{LAG}
use Rattle.bus_formats.specs.Plans.{StationData, PlanData}
use Rattle.bus_formats.specs.declared.log.Delivery.{Delivery}
use Rattle.bus_model.specs.Log.{delivered_to}
use Rattle.bus_model.specs.World.{world}
use Rattle.bus_model.specs.WorldLog.{heard_word, heard_burst, attempts}
use Rattle.bus_law_run.specs.WorldIsRun.{plan_run}
use Rattle.bus_run.specs.Amounts.{most_attempts, most_words, most_bursts, most_deliveries}
use Rattle.bus_run.specs.Deliveries.{delivering, served, TellsMore}

-- after so many ticks of a plan's run there were no more attempts, words, bursts and ticks with a delivery than room is made for, and the number of the tick
-- has 32 bits
pub record HasRoomFor (plan : PlanData) (t : ℕ) : Type 0 where
  pub small : t < 4294967295
  pub attempts_left : length (attempts LAG plan [] [] [] (world LAG plan [] [] [] t)) ≤ most_attempts plan
  pub words_left : length (map heard_word (valid LAG (world LAG plan [] [] [] t))) ≤ most_words plan
  pub bursts_left : length (map heard_burst (bursts LAG (world LAG plan [] [] [] t))) ≤ most_bursts plan
  pub deliveries_left : delivering plan (world LAG plan [] [] [] t) ≤ most_deliveries plan

-- objects that told `before` at the start of a run tell in addition, in order, the blocks that the run of the message table delivers to their stations.
-- What they tell, in their order
pub record TellTables (plan : PlanData) (before told : List (Option (List Delivery))) : Type 0 where
  pub all : length told ≡ length (served plan)
  pub all_before : length before ≡ length (served plan)
  pub tells : (p : ℕ) (s : StationData) (old now : Option (List Delivery)) → slice_get (served plan) p ≡ Some s → slice_get before p ≡ Some old →
      slice_get told p ≡ Some now → TellsMore old (delivered_to s.terminal.address (plan_run plan)) now
