use Rattle.std.proofs.Common.{◌≡◌, take}
use Rattle.bus_buffers.proofs.buffers.block_of.Given as goal

-- the words so far
abbrev pub invariant-loop-word : goal.invariant-loop-word
invariant-loop-word l = l.block ≡ take l.word-index l.words
