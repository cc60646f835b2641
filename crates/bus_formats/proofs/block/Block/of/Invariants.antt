use Rattle.std.proofs.Common.{◌≡◌, take}
use Rattle.bus_formats.proofs.block.Block.of.Given as goal

-- it holds the words so far
abbrev pub invariant-loop-word : goal.invariant-loop-word
invariant-loop-word l = l.held.items ≡ take l.word-index l.words
