-- The ranges of a plan's numbers: the grammar's rows and the reading of values both name them.
use Rattle.std.specs.Prelude.{ℕ}
use Rattle.bus_plan.specs.declared.ranges.Range.{Range}

abbrev pub from_to : ℕ → ℕ → Range
from_to low high = record { low = low; high = high }

-- the plan's version
abbrev pub version_range : Range
version_range = from_to 1 2

-- the second version, which alone knows repeats and fades
abbrev pub second_version : Range
second_version = from_to 2 2

-- an address that a command may name, of which 31 means all terminals
abbrev pub address_range : Range
address_range = from_to 0 31

-- an address that a terminal may have
abbrev pub terminal_range : Range
terminal_range = from_to 0 30

-- the address of a station that is a controller alone
abbrev pub controller_range : Range
controller_range = from_to 31 31

-- the gap before an answer, in ticks
abbrev pub delay_range : Range
delay_range = from_to 8 24

-- a data word
abbrev pub word_range : Range
word_range = from_to 0 65535

-- a subaddress that a load fills and that a terminal may refuse
abbrev pub own_sub_range : Range
own_sub_range = from_to 1 29

-- a subaddress that a message may name, of which 30 is the wrap-around
abbrev pub sub_range : Range
sub_range = from_to 1 30

-- a number of data words
abbrev pub count_range : Range
count_range = from_to 1 32

-- how often a station runs its frames
abbrev pub repeat_range : Range
repeat_range = from_to 1 64

-- the ticks from a frame's planned start to the next frame's
abbrev pub frame_range : Range
frame_range = from_to 0 1000000

-- the gap before an item's command, in ticks
abbrev pub gap_range : Range
gap_range = from_to 8 2000

-- the ticks after which an item is abandoned
abbrev pub abandon_range : Range
abandon_range = from_to 25 1600

-- a mode code, and the transmit bit beside it
abbrev pub code_range : Range
code_range = from_to 0 31

abbrev pub transmit_range : Range
transmit_range = from_to 0 1

-- the subaddress 31 of a mode command, where 0 serves as well
abbrev pub mode_sub_range : Range
mode_sub_range = from_to 31 31

-- an attempt that a fault strikes
abbrev pub attempt_range : Range
attempt_range = from_to 1 1000000

-- a word of a burst that a fault strikes
abbrev pub struck_range : Range
struck_range = from_to 0 39

-- how many words a cut leaves, and how many of a controller's burst
abbrev pub after_range : Range
after_range = from_to 0 32

abbrev pub command_after_range : Range
command_after_range = from_to 1 32

-- how many words an extra adds
abbrev pub extra_range : Range
extra_range = from_to 1 39

-- the positions in a word's samples that a flip and a fade may strike
abbrev pub flip_range : Range
flip_range = from_to 0 39

abbrev pub fade_range : Range
fade_range = from_to 3 38
