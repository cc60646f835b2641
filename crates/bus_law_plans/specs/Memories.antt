-- What terminals keep in each run of an accepted plan: blocks of at most 32 words, and words of sixteen bits (MIL-STD-1553B 4.3.3.5.1.5).
use Rattle.std.specs.Prelude.{ℕ, ◌<◌, ◌≤◌, List, length, All}
use Rattle.std.specs.List.{AllByRecursion as Each}
use Rattle.bus_words.specs.declared.word.Word.{Word}
use Rattle.bus_formats.specs.Accepted.{AreWords}
use Rattle.bus_formats.specs.declared.log.Registers.{Registers}
use Rattle.bus_model.specs.Memory.{Memory, TimedLoad}
use Rattle.bus_model.specs.Message.{Present}
use Rattle.bus_model.specs.Run.{Run}

-- a block of a message: at most 32 data words
pub record IsBlock (words : List ℕ) : Type 0 where
  pub few : length words ≤ 32
  pub spelled : AreWords words

-- blocks that are put up for sending in the course of a run
abbrev pub AreBlocks : List TimedLoad → Type 0
AreBlocks loads = Each (λ load. IsBlock load.words) loads

-- the words in the registers
pub record HasRegisterRanges (registers : Registers) : Type 0 where
  pub last : registers.last < 65536
  pub sync : registers.sync_word < 65536

-- the registers, and each block
pub record HasMemoryRanges (memory : Memory) : Type 0 where
  pub registers : HasRegisterRanges memory.registers
  pub received : Each IsBlock memory.received
  pub transmit : Each IsBlock memory.transmit

-- what the terminal keeps, and what it may send beside that: the vector word, the BIT word, and its address in the status word
pub record HasWordRanges (station : Present) : Type 0 where
  pub memory : HasMemoryRanges station.memory
  pub vector : station.plan.terminal.vector < 65536
  pub bit : station.plan.terminal.bit < 65536
  pub address : station.plan.terminal.address ≤ 31

-- so it is with each station of the run
abbrev pub KeepsWordRanges : Run → Type 0
KeepsWordRanges run = Each HasWordRanges run.stations

-- an answer: a status word and at most 32 others, each of sixteen bits
pub record HasAnswerRanges (words : List Word) : Type 0 where
  pub fit : All (λ (word : Word). word.bits < 65536) words
  pub some : 0 < length words
  pub few : length words ≤ 33
