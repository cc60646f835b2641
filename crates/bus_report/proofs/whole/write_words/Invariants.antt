use Rattle.std.proofs.Common.{◌≤◌, take}
use Rattle.std.specs.Prelude.{flat_map}
use Rattle.std.specs.Io.KnownBytes.{Appends}
use Rattle.bus_text.specs.Texts.{word_line}
use Rattle.bus_report.proofs.whole.write_words.Given as goal

-- the lines before the index were added
abbrev pub invariant-loop-heard : goal.invariant-loop-heard
invariant-loop-heard g l = record {
  lines : Appends (g.K.Sink.held l.fn.sink) (g.K.Sink.held l.sink) (flat_map word_line (take l.heard-index l.words));
  later : g.K.Sink.faults l.fn.sink ≤ g.K.Sink.faults l.sink;
}
