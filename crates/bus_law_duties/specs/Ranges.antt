-- Word ranges of what a terminal may send: each word that it keeps or that is put up for sending has sixteen bits.
use Rattle.std.specs.Prelude.{◌<◌, All}
use Rattle.bus_formats.specs.Accepted.{AreWords, HasTerminalRanges}
use Rattle.bus_model.specs.Memory.{Memory, TimedLoad}
use Rattle.bus_model.specs.Message.{Present}

-- the last command and the words of each block
pub record HasMemoryRanges (memory : Memory) : Type 0 where
  pub last : memory.registers.last < 65536
  pub received : All AreWords memory.received
  pub transmit : All AreWords memory.transmit

-- a station that is present: what is planned of its terminal, and what that keeps
pub record HasPresentRanges (station : Present) : Type 0 where
  pub terminal : HasTerminalRanges station.plan.terminal
  pub memory : HasMemoryRanges station.memory

-- the words of a block that is put up for sending
abbrev pub HasTimedLoadRanges : TimedLoad → Type 0
HasTimedLoadRanges load = AreWords load.words
