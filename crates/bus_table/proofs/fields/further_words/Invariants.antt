use Rattle.std.proofs.Common.{◌≡◌, ◌≤◌, ◌+◌, ◌*◌, ◌++◌, length, take}
use Rattle.bus_table.specs.Fields.{further_words}
use Rattle.bus_table.proofs.fields.further_words.Given as goal

-- the words before the index stand after what the line had, seven bytes each at most
abbrev pub invariant-loop-word : goal.invariant-loop-word
invariant-loop-word l = record {
  text : l.line ≡ l.initial.line ++ further_words l.format (take l.word-index l.words);
  grows : length l.line ≤ length l.initial.line + 7 * l.word-index;
}
