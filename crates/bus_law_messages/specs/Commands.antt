-- A command that is sent: what the stations drive in its ticks, and what the channels show of it.
use Rattle.std.specs.Prelude.{◌≡◌, ℕ, ◌*◌, ◌<◌, false, List, ◌++◌, length}
use Rattle.std.specs.List.{list_any}
use Rattle.bus_base.specs.Samples.{other_of}
use Rattle.bus_base.specs.declared.samples.Drive.{Drive}
use Rattle.bus_base.specs.declared.samples.Pair.{Pair}
use Rattle.bus_base.specs.declared.samples.Part.{Part}
use Rattle.bus_base.specs.declared.samples.Part.TheVariants.{Command}
use Rattle.bus_base.specs.declared.samples.Channel.{Channel}
use Rattle.bus_words.specs.declared.word.Word.{Word}
use Rattle.bus_line.specs.Past.{quiet_ticks}
use Rattle.bus_line.specs.Channels.{on_channel}
use Rattle.bus_formats.specs.Forms.{command_words}
use Rattle.bus_formats.specs.Plans.{PlanData}
use Rattle.bus_formats.specs.declared.fault.Fault.{Fault}
use Rattle.bus_formats.specs.declared.fault.Hit.{Hit}
use Rattle.bus_model.specs.Memory.{TimedLoad}
use Rattle.bus_model.specs.Control.{OutsideTake}
use Rattle.bus_model.specs.Strikes.{hits_on}
use Rattle.bus_model.specs.Transmissions.{cut_over}
use Rattle.bus_model.specs.Attempts.{Begun}
use Rattle.bus_model.specs.World.{Trace, ticks_on}
use Rattle.bus_law_line.specs.Shown.{struck_spelling}
use Rattle.bus_law_line.specs.Senders.{Sender, attempt_to_come, SentAlone, LeftAlone, AreHeard}

-- the station at a place of the plan as it sends the command of a message
abbrev pub command_sender : ℕ → Begun → Sender
command_sender place begun =
    record { station = place; channel = begun.state.channel; part = Command; words = command_words begun.entry.item.kind }

-- the faults of the plan leave the words of this part whole, sent from the tick to come on: these hits strike them, and leave no sample quiet
pub record LeavesWhole (faults : List Fault) (part : Part) (before : List (List Drive)) (hits : List Hit) (words : List Word) : Type 0 where
  pub named : hits_on faults (attempt_to_come faults part before) part ≡ hits
  pub heard : AreHeard hits words
  pub uncut : (i : ℕ) → i < 40 * length words → list_any (cut_over i) hits ≡ false

-- in n ticks, the newest first, a station sends its words, in that many at most: what was shown and driven in them
pub record WordsSent (k : ℕ) (plan : PlanData) (loads : List TimedLoad) (outside : List OutsideTake) (absent : List ℕ) (before : Trace) (s : Sender)
    (hits : List Hit) (n : ℕ) (ticks : List Pair) (sent : List (List Drive)) : Type 0 where
  -- these are the ticks of the world
  pub world : ticks_on k plan loads outside absent before n ≡ record { shown = ticks ++ before.shown; driven = sent ++ before.driven }
  pub many : length ticks ≡ n
  pub long : length sent ≡ n
  -- the station drives its words' samples, one a tick, and no other station drives its channel
  pub alone : SentAlone plan.faults s hits before.driven sent
  -- no station drives the other one
  pub beside : LeftAlone plan.faults (other_of s.channel) before.driven sent
  -- so its channel shows the words, as the faults strike them, and the other one is quiet
  pub shown : on_channel s.channel ticks ≡ struck_spelling hits s.words n
  pub quiet : on_channel (other_of s.channel) ticks ≡ quiet_ticks n

-- the station in control sends the command of its message
abbrev pub CommandSent : ℕ → PlanData → List TimedLoad → List OutsideTake → List ℕ → Trace → ℕ → Begun → List Hit → ℕ → List Pair → List (List Drive) →
    Type 0
CommandSent k plan loads outside absent before place begun hits n ticks sent =
    WordsSent k plan loads outside absent before (command_sender place begun) hits n ticks sent

-- a station sent its words whole in the ticks before, which drove this, and j quiet ticks followed: n in all, the newest first
pub record WordsEnd (k : ℕ) (plan : PlanData) (loads : List TimedLoad) (outside : List OutsideTake) (absent : List ℕ) (before : Trace) (s : Sender)
    (hits : List Hit) (n j : ℕ) (ticks : List Pair) (sent silent : List (List Drive)) : Type 0 where
  -- these are the ticks of the world
  pub world : ticks_on k plan loads outside absent before n ≡ record { shown = ticks ++ before.shown; driven = silent ++ (sent ++ before.driven) }
  pub many : length ticks ≡ n
  pub after : length silent ≡ j
  -- the station sent them alone
  pub alone : SentAlone plan.faults s hits before.driven sent
  pub long : length sent ≡ 40 * length s.words
  -- after them no station drives a channel, nor is an extra left to show
  pub left : (d : Channel) → LeftAlone plan.faults d (sent ++ before.driven) silent
  -- so its channel shows the words, then quiet ticks, and the other one is quiet
  pub shown : on_channel s.channel ticks ≡ quiet_ticks j ++ struck_spelling hits s.words (40 * length s.words)
  pub quiet : on_channel (other_of s.channel) ticks ≡ quiet_ticks n
