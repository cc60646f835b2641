-- The table of a capture: a row for each message where it closes, then those that are open at the end.
use Rattle.std.specs.Prelude.{ℕ, if◌then◌else◌, List, [], ◌∷◌, ◌++◌, map, flat_map, length, is_some, Option, Some, None}
use Rattle.bus_base.specs.declared.samples.Channel.{Channel}
use Rattle.bus_base.specs.declared.samples.Channel.TheVariants.{A, B}
use Rattle.bus_base.specs.declared.samples.Pair.{Pair}
use Rattle.bus_line.specs.Past.{first_tick}
use Rattle.bus_line.specs.Channels.{on_channel}
use Rattle.bus_monitor.specs.Awaited.{awaited}
use Rattle.bus_monitor.specs.Listings.{open_on}
use Rattle.bus_monitor.specs.Progress.{closed_now}
use Rattle.bus_table.specs.Exchanges.{exchange, facts_of, gap_before}
use Rattle.bus_table.specs.Rows.{Row, closed_row, open_row}
use Rattle.bus_table.specs.Texts.{row_text, names_text, end_text}
use Rattle.bus_table.specs.declared.format.Format.{Format}

module _ (k : ℕ) where
  -- the rows of the messages that close on a channel in the newest tick
  abbrev pub rows_now : Channel → List Pair → List Row
  rows_now c past = map (closed_row c (facts_of (exchange k c past))) (closed_now k (on_channel c past))

  -- the rows of the messages that closed, in the order in which they did, A before B in one tick
  unfoldable pub rows : List Pair → List Row
  rows [] = []
  rows (shown ∷ past) = rows past ++ (rows_now A (shown ∷ past) ++ rows_now B (shown ∷ past))

  -- the gap before the message that is open: the one that waits for an answer, else the one whose burst runs
  abbrev pub open_gap : Channel → List Pair → Option ℕ
  open_gap c past =
      if is_some (awaited k (on_channel c past)) then (facts_of (exchange k c past)).gap
      else gap_before past (first_tick k (on_channel c past))

  abbrev pub row_of_open : Channel → Option ℕ → Option ℕ → List Row
  row_of_open c None gap = []
  row_of_open c (Some first) gap = open_row c first gap ∷ []

  abbrev pub open_rows : Channel → List Pair → List Row
  open_rows c past = row_of_open c (open_on k c past) (open_gap c past)

  -- the rows of a whole capture
  abbrev pub all_rows : List Pair → List Row
  all_rows past = rows past ++ (open_rows A past ++ open_rows B past)

  -- what is written of the ticks, and of a whole capture
  unfoldable pub table_lines : Format → List Pair → List ℕ
  table_lines f past = names_text f ++ flat_map (row_text f) (rows past)

  unfoldable pub table_text : Format → List Pair → List ℕ
  table_text f past = names_text f ++ flat_map (row_text f) (all_rows past) ++ end_text f (length past) (length (all_rows past))
