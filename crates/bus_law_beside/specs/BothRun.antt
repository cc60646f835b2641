-- Two stations that send at once: the ticks of a command on one channel, after and beside those of an older answer on the other.
use Rattle.std.specs.Prelude.{◌≡◌, ℕ, List, ◌++◌, length}
use Rattle.bus_base.specs.declared.samples.Channel.{Channel}
use Rattle.bus_base.specs.declared.samples.Pair.{Pair}
use Rattle.bus_words.specs.declared.word.Word.{Word}
use Rattle.bus_line.specs.Past.{InLeg}
use Rattle.bus_line.specs.Channels.{on_channel}
use Rattle.bus_formats.specs.declared.fault.Hit.{Hit}
use Rattle.bus_law_line.specs.Shown.{first_samples}
use Rattle.bus_law_parts.specs.Parts.{part_sample}
use Rattle.bus_law_beside.specs.Beside.{broken_sample}

-- what one station sends: its place, its channel, its words, and the hits that strike them
pub record Sending : Type 0 where
  pub place : ℕ
  pub channel : Channel
  pub hits : List Hit
  pub words : List Word

-- on one channel the ticks of a command so far, the newest first, whose end isn't known in them; on the other one the ticks of an answer, the first of
-- which came before them, and of which the first m are shown
pub record ShowsBoth (k : ℕ) (command answer : Sending) (m : ℕ) (first ticks : List Pair) : Type 0 where
  pub leg : InLeg k (on_channel command.channel ticks)
  pub sent : on_channel command.channel ticks ≡ first_samples (part_sample command.hits command.words) (length ticks)
  pub old : on_channel answer.channel (ticks ++ first) ≡ first_samples (broken_sample answer.hits answer.words m) (length (ticks ++ first))
