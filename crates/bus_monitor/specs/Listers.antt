-- For which pasts the listers stand.
use Rattle.std.specs.Prelude.{◌≡◌, ℕ, ◌-◌, List, length, Option, None}
use Rattle.bus_base.specs.declared.samples.Channel.{Channel}
use Rattle.bus_base.specs.declared.samples.Channel.TheVariants.{A, B}
use Rattle.bus_base.specs.declared.samples.Pair.{Pair}
use Rattle.bus_line.specs.Channels.{on_channel}
use Rattle.bus_planes.specs.Cutting.{BitCutterStands}
use Rattle.bus_line.specs.declared.cutter.TheConstants.{LAG}
use Rattle.bus_line.specs.declared.cutter.Cut.{Cut}
use Rattle.bus_line.specs.declared.cutter.Cut.TheVariants as cuts
use Rattle.bus_formats.specs.declared.log.Heard.{Heard}
use Rattle.bus_monitor.specs.Progress.{heard_at}
use Rattle.bus_monitor.specs.Channels.{ChannelListerStands}
use Rattle.bus_monitor.specs.declared.messages.MessageLister.{MessageLister}
use Rattle.bus_monitor.specs.declared.word_lister.WordLister.{WordLister}

-- ---- words

-- a cut in this tick has a valid word's last tick
abbrev pub heard_in : Cut → Channel → ℕ → Option Heard
heard_in (cuts.Slot i word) c tick = heard_at c (tick - 39) word
heard_in _ c tick = None

-- the lister stands for what both channels showed
pub record WordListerStands (lister : WordLister) (past : List Pair) : Type 0 where
  pub a : BitCutterStands LAG lister.a (on_channel A past)
  pub b : BitCutterStands LAG lister.b (on_channel B past)
  pub ticks : lister.ticks ≡ length past

-- ---- messages

pub record MessageListerStands (lister : MessageLister) (past : List Pair) : Type 0 where
  pub a : ChannelListerStands lister.a (on_channel A past)
  pub b : ChannelListerStands lister.b (on_channel B past)
  pub ticks : lister.ticks ≡ length past
