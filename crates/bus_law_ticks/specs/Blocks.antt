-- The blocks that a terminal takes, by the ticks in which it takes them (data reception, MIL-STD-1553B 4.4.3.5).
use Rattle.std.specs.Prelude.{◌≡◌, ◌≢◌, ℕ, suc, ◌<◌, true, List, ◌∷◌, ◌++◌, length, Option, Some, is_some}
use Rattle.bus_base.specs.declared.samples.Channel.{Channel}
use Rattle.bus_words.specs.declared.word.Word.{Word}
use Rattle.bus_line.specs.Bursts.{IsEndedNow}
use Rattle.bus_line.specs.Past.{burst_from, rest_of}
use Rattle.bus_formats.specs.Plans.{TerminalData}
use Rattle.bus_formats.specs.Readings.{command_in, data_in}
use Rattle.bus_model.specs.Memory.{TimedLoad}
use Rattle.bus_model.specs.Orders.{Taken}
use Rattle.bus_model.specs.Hearing.{Moment, Hearing, heard_on}
use Rattle.bus_model.specs.Terminal.{took_now}
use Rattle.bus_law_ticks.specs.Ticks.{hearing_before}

-- the terminal took this block in tick t
pub record TookAt (k : ℕ) (terminal : TerminalData) (loads : List TimedLoad) (hearing : Hearing) (t : ℕ) (taken : Taken) : Type 0 where
  pub heard : t < length hearing.ticks
  pub took : took_now k terminal loads (hearing_before (suc t) hearing) ≡ Some taken

-- it was the last block that it took for this subaddress
pub record TookLastAt (k : ℕ) (terminal : TerminalData) (loads : List TimedLoad) (hearing : Hearing) (sub t : ℕ) (taken : Taken) : Type 0 where
  pub at : TookAt k terminal loads hearing t taken
  pub sub_is : taken.sub ≡ sub
  pub last : (u : ℕ) (other : Taken) → t < u → TookAt k terminal loads hearing u other → other.sub ≢ sub

-- the words are all data words of a burst whose end became known in the newest tick: they follow a command or status word, each is valid, and
-- nothing comes after them
pub record AreOfBurst (k : ℕ) (ticks : List Moment) (words : List ℕ) : Type 0 where
  pub channel : Channel
  pub first : ℕ
  pub count : ℕ
  pub ended : IsEndedNow k (heard_on channel ticks) first count
  pub whole : rest_of (burst_from (heard_on channel ticks) first count) ≡ 0
  pub earlier : List (Option Word)
  pub head : Option Word
  pub tail : List (Option Word)
  pub slots : (burst_from (heard_on channel ticks) first count).slots ≡ earlier ++ head ∷ tail
  pub command : is_some (command_in head) ≡ true
  pub words_are : data_in (length words) tail ≡ Some words
