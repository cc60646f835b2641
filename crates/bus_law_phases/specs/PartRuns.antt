-- A part of a message as the world shows it: what was shown and driven in its first ticks, while nobody else drives a channel.
use Rattle.std.specs.Prelude.{◌≡◌, ℕ, List, ◌++◌, length}
use Rattle.bus_base.specs.Samples.{other_of}
use Rattle.bus_base.specs.declared.samples.Channel.{Channel}
use Rattle.bus_base.specs.declared.samples.Drive.{Drive}
use Rattle.bus_base.specs.declared.samples.Pair.{Pair}
use Rattle.bus_line.specs.Past.{Burst, InLeg, quiet_ticks}
use Rattle.bus_words.specs.declared.word.Word.{Word}
use Rattle.bus_line.specs.Channels.{on_channel}
use Rattle.bus_formats.specs.declared.fault.Hit.{Hit}
use Rattle.bus_model.specs.Strikes.{struck}
use Rattle.bus_model.specs.World.{Trace, ticks_on}
use Rattle.bus_law_line.specs.Senders.{Sender, LeftAlone}
use Rattle.bus_law_line.specs.Shown.{first_samples}
use Rattle.bus_law_parts.specs.Parts.{part_ticks, part_sample, SentPart, CommandsAlone}
use Rattle.bus_law_phases.specs.Scenarios.{Scenario}

-- the burst that a part is which was sent from this tick on, as these hits strike it
abbrev pub burst_shown : ℕ → List Hit → List Word → Burst
burst_shown start hits words = record { first = start; ticks = part_ticks hits words; slots = struck hits words }

-- in these ticks a burst runs on a channel, and the other one is quiet
pub record RunsAlone (k : ℕ) (c : Channel) (ticks : List Pair) : Type 0 where
  pub leg : InLeg k (on_channel c ticks)
  pub quiet : on_channel (other_of c) ticks ≡ quiet_ticks (length ticks)

-- the first ticks of words that these hits strike, on one channel, the newest first, while the other one is quiet
pub record IsFirstOf (k : ℕ) (c : Channel) (hits : List Hit) (words : List Word) (ticks : List Pair) : Type 0 where
  pub alone : RunsAlone k c ticks
  pub shown : on_channel c ticks ≡ first_samples (part_sample hits words) (length ticks)

-- n ticks of a part, the newest first, after those before: a station sends it alone, and these hits strike it
pub record PartRuns (w : Scenario) (before : Trace) (s : Sender) (hits : List Hit) (n : ℕ) (ticks : List Pair) (sent : List (List Drive)) : Type 0 where
  -- these are the ticks of the world
  pub world : ticks_on w.lag w.plan w.loads w.outside w.absent before n ≡ record { shown = ticks ++ before.shown; driven = sent ++ before.driven }
  pub many : length ticks ≡ n
  pub long : length sent ≡ n
  -- the station sends its part; no other one drives its channel, nobody the other one, and no other one a command
  pub part : SentPart w.plan.faults s hits before.driven sent
  pub beside : LeftAlone w.plan.faults (other_of s.channel) before.driven sent
  pub commands : CommandsAlone s sent
  -- so its channel shows the part, as the faults strike it, and the other one is quiet
  pub shown : on_channel s.channel ticks ≡ first_samples (part_sample hits s.words) n
  pub quiet : on_channel (other_of s.channel) ticks ≡ quiet_ticks n
