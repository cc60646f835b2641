-- For which ticks a lister of waves stands, and how far a drawer is. Nothing here has to be believed.
use Rattle.std.specs.Prelude.{◌≡◌, ℕ, ◌+◌, ◌<◌, ◌≤◌, List, [], ◌++◌, length, Option}
use Rattle.bus_base.specs.declared.samples.Channel.TheVariants.{A, B}
use Rattle.bus_base.specs.declared.samples.Pair.{Pair}
use Rattle.bus_base.specs.Samples.{quiet_pair, quiet_pairs}
use Rattle.bus_capture.specs.Blocks.{tick_in}
use Rattle.bus_capture.specs.declared.block.Block.{Block}
use Rattle.bus_line.specs.Channels.{on_channel, quiet_both}
use Rattle.bus_line.specs.declared.cutter.TheConstants.{LAG}
use Rattle.bus_monitor.specs.Channels.{ChannelListerStands}
use Rattle.bus_monitor.specs.Parts.{part}
use Rattle.bus_monitor.specs.Scribes.{Owed}
use Rattle.bus_wave.specs.Delays.{LineStands, column_at, kept}
use Rattle.bus_wave.specs.Texts.{changes_text, head_text}
use Rattle.bus_wave.specs.Waves.{columns_at_end, changes_from, horizon, shown_before, told_on, undrawn}
use Rattle.bus_wave.specs.declared.drawer.Drawer.{Drawer}
use Rattle.bus_wave.specs.declared.marks.Column.{Column}
use Rattle.bus_wave.specs.declared.wave_lister.WaveLister.{WaveLister}

-- ---- the lister

-- it counted these ticks, and keeps the columns of the last ones
pub record KeepsTicks (lister : WaveLister) (past : List Pair) : Type 0 where
  pub ticks : lister.ticks ≡ length past
  pub quiet : lister.quiet ≡ quiet_both past
  pub line : LineStands lister.line (length past) (kept LAG past)

-- it heard these ticks
pub record ListerStands (lister : WaveLister) (past : List Pair) : Type 0 where
  pub a : ChannelListerStands lister.a.lister (on_channel A past)
  pub b : ChannelListerStands lister.b.lister (on_channel B past)
  pub keeps : KeepsTicks lister past

-- it lists nothing
abbrev pub no_lines : List Pair → List ℕ
no_lines past = []

-- a tick tells nothing on either channel
abbrev pub NothingTold : Pair → List Pair → Type 0
NothingTold shown past = (told_on LAG A shown past ≡ []) × (told_on LAG B shown past ≡ [])

-- nor does any of so many quiet ticks
abbrev pub QuietTell : ℕ → List Pair → Type 0
QuietTell n past = (i : ℕ) → i < n → NothingTold quiet_pair (quiet_pairs i ++ past)

-- nor does any of so many ticks of a block from one on
abbrev pub PartTells : Block → ℕ → ℕ → List Pair → Type 0
PartTells block at n past = (i : ℕ) → i < n → NothingTold (tick_in block (at + i)) (part block at i ++ past)

-- the ticks have ended, and it keeps the columns that weren't due before
pub record LineEnds (lister : WaveLister) (past : List Pair) : Type 0 where
  pub ticks : lister.ticks ≡ length past
  pub column : (t : ℕ) → t ≤ length past → length past < t + horizon → column_at lister.line t ≡ columns_at_end LAG past t

-- ---- the drawer

-- the text up to a tick
abbrev pub text_to : (ℕ → Column) → ℕ → List ℕ
text_to known n = head_text ++ changes_text (changes_from known 0 n)

-- it drew ticks that were due, and the delay line has those that are due now
pub record Draws (drawer : Drawer) (text : List ℕ) (past : List Pair) (first held : Option (List ℕ)) : Type 0 where
  pub due : drawer.tick ≤ undrawn (length past)
  pub kept_yet : length past ≤ drawer.tick + 4096
  pub last : drawer.last ≡ shown_before (kept LAG past) drawer.tick
  pub owed : Owed (text_to (kept LAG past) drawer.tick) text first held
  pub room : length text ≤ 3000

abbrev pub drawer_at : (ℕ → Column) → ℕ → Drawer
drawer_at known t = record { tick = t; last = shown_before known t }
