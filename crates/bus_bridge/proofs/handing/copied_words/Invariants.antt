use Rattle.std.proofs.Common.{◌≡◌, take}
use Rattle.bus_formats.specs.Accepted.{AreWords}
use Rattle.bus_bridge.proofs.handing.copied_words.Given as goal

-- the words so far, each of sixteen bits
abbrev pub invariant-loop-word : goal.invariant-loop-word
invariant-loop-word l = record {
  copied : l.copied ≡ take l.word-index l.words;
  words : AreWords (take l.word-index l.words);
}
