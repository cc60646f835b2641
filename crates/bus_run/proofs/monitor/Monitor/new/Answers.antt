use Rattle.std.proofs.Common.{◌∙◌, sym, refl}
use Rattle.bus_line.specs.declared.cutter.TheConstants.{LAG}
use Rattle.bus_run.proofs.MonitorLaws.{words-none, bursts-none}
use Rattle.bus_run.proofs.monitor.Monitor.new.Goals as goal

pub returns : goal.returns
returns c most_words most_bursts word_room burst_room = record {
  lists = record {
    burst_lister = c.new.ensures;
    words_are = c.requires.words ∙ sym (words-none LAG);
    bursts_are = c.requires.bursts ∙ sym (bursts-none LAG);
    word_room = word_room;
    burst_room = burst_room;
  };
  quiet_is = refl;
}
