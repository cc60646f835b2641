-- For which pasts the parts of a table's lister stand. Nothing here has to be believed: a new one stands for no ticks, each tick keeps it, and
-- what it answers is right for every past for which it stood.
use Rattle.std.specs.Prelude.{◌≡◌, ◌*◌, ◌≤◌, true, false, List, ◌∷◌, length}
use Rattle.bus_base.specs.declared.samples.Channel.{Channel}
use Rattle.bus_base.specs.declared.samples.Channel.TheVariants.{A, B}
use Rattle.bus_base.specs.declared.samples.Pair.{Pair}
use Rattle.bus_line.specs.Past.{runs, stopped, first_tick}
use Rattle.bus_line.specs.Channels.{on_channel}
use Rattle.bus_line.specs.Cutting.{cut_now, running_slots}
use Rattle.bus_line.specs.declared.cutter.Cut.{Cut}
use Rattle.bus_base.specs.declared.samples.Sample.{Sample}
use Rattle.bus_line.specs.declared.cutter.TheConstants.{LAG}
use Rattle.bus_monitor.specs.Channels.{ChannelListerStands}
use Rattle.bus_table.specs.Exchanges.{exchange, facts_of, gap_before}
use Rattle.bus_table.specs.Flaws.{bad_slots}
use Rattle.bus_table.specs.Tables.{rows}
use Rattle.bus_table.specs.declared.channel_rows.ChannelRows.{ChannelRows}
use Rattle.bus_table.specs.declared.table.TableLister.{TableLister}

-- what a channel's rows have noted: of the burst that runs, else where the newest one ended; and of the bursts of the newest message
pub record NotesStand (rows : ChannelRows) (c : Channel) (past : List Pair) : Type 0 where
  pub gap : runs LAG (on_channel c past) ≡ true → rows.gap ≡ gap_before past (first_tick LAG (on_channel c past))
  pub bad : runs LAG (on_channel c past) ≡ true →
      rows.bad ≡ bad_slots (on_channel c past) (first_tick LAG (on_channel c past)) (running_slots LAG (on_channel c past))
  pub ended : runs LAG (on_channel c past) ≡ false → rows.ended ≡ stopped (on_channel c past)
  pub facts : rows.notes ≡ facts_of (exchange LAG c past)

pub record ChannelRowsStand (rows : ChannelRows) (c : Channel) (past : List Pair) : Type 0 where
  pub lister : ChannelListerStands rows.lister (on_channel c past)
  pub told : NotesStand rows c past

-- both channels', with the ticks and the rows
pub record TableStands {F : Type 0} (lister : TableLister F) (past : List Pair) : Type 0 where
  pub a : ChannelRowsStand lister.a A past
  pub b : ChannelRowsStand lister.b B past
  pub ticks : lister.ticks ≡ length past
  pub count : lister.rows ≡ length (rows LAG past)
  pub few : lister.rows ≤ 2 * length past

-- what a sample tells the rows of a channel, which stand for the past before it
pub record CutOf (rows : ChannelRows) (past : List Sample) (cut : Cut) (x : Sample) : Type 0 where
  pub lister : ChannelListerStands rows.lister past
  pub cut_is : cut ≡ cut_now LAG (x ∷ past)
