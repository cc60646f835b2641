use Rattle.std.proofs.Common.{◌≡◌, ◌++◌, map, take}
use Rattle.bus_formats.specs.Forms as spec
use Rattle.bus_formats.proofs.message.append_data.Given as goal

-- the words so far stand behind what the burst held
abbrev pub invariant-loop-word : goal.invariant-loop-word
invariant-loop-word l = l.burst.items ≡ l.fn.burst.items ++ map spec.data_word (take l.word-index l.words)
