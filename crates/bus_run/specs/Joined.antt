-- For which traces a bus stands that is joined to something outside.
use Rattle.std.specs.Prelude.{◌≡◌, ℕ, ◌∷◌, ◌++◌, [], ◌&&◌, Bool, nat_le, List, length}
use Rattle.std.specs.List.{list_all}
use Rattle.bus_base.specs.declared.samples.Pair.{Pair}
use Rattle.bus_line.specs.Channels.{quiet_both}
use Rattle.bus_line.specs.declared.cutter.TheConstants.{LAG}
use Rattle.bus_formats.specs.declared.log.Attempt.{Attempt}
use Rattle.bus_model.specs.Memory.{TimedLoad}
use Rattle.bus_formats.specs.Times.{ending_quiet}
use Rattle.bus_model.specs.World.{Trace, next_tick, is_done}
use Rattle.bus_run.specs.Amounts.{most_attempts}
use Rattle.bus_run.specs.Parts.{DrivenWireStands}
use Rattle.bus_run.specs.Settings.{Setting}
use Rattle.bus_run.specs.StationRows.{RowKeeps}
use Rattle.bus_run.specs.declared.joined.JoinedBus.{JoinedBus}

-- the bus stands for a trace, with these attempts and so many ticks with a delivery: as it is now it may have shown and driven this
pub record Joined (w : Setting) (found : List Attempt) (count : ℕ) (trace : Trace) (bus : JoinedBus) : Type 0 where
  pub row : RowKeeps (most_attempts w.plan) w found count bus.row trace.shown
  pub wire : DrivenWireStands w.plan bus.wire trace.driven
  pub unserved : w.served ≡ []
  pub ticks_are : bus.ticks ≡ length trace.shown
  pub driven_are : length trace.driven ≡ length trace.shown
  pub most_attempts_are : bus.most_attempts ≡ most_attempts w.plan

unfoldable pub JoinedStands : Setting → List Attempt → ℕ → Trace → JoinedBus → Type 0
JoinedStands w found count trace bus = Joined w found count trace bus

-- one tick more of the world
abbrev pub tick_more : Setting → Trace → Trace
tick_more w trace = next_tick LAG w.plan w.loads w.outside w.absent trace

-- with a block more that is put up for sending
abbrev pub with_load : Setting → TimedLoad → Setting
with_load w load = record w { loads = w.loads ++ load ∷ [] }

-- without the stations of an address
abbrev pub without : Setting → ℕ → Setting
without w address = record w { absent = address ∷ w.absent }

-- the run is over: every station that is present is idle, none is taking control, and both channels were quiet so long
abbrev pub is_over_after : Setting → List Pair → Bool
is_over_after w past =
    nat_le ending_quiet (quiet_both past) && list_all (is_done LAG w.plan w.loads w.outside w.absent past) w.plan.stations
