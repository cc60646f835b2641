use Rattle.std.proofs.Common.{sym, ◌∙◌, arith}
use Rattle.bus_base.specs.declared.samples.Channel.TheVariants.{A, B}
use Rattle.bus_line.specs.Channels.{on_channel}
use Rattle.bus_line.specs.declared.cutter.TheConstants.{LAG}
use Rattle.bus_monitor.proofs.ChannelLaws.{length-on_channel}
use Rattle.bus_wave.proofs.DrawLaws.{ended-ticks}
use Rattle.bus_wave.proofs.KeptLaws.{ended-next}
use Rattle.bus_wave.proofs.wave_lister.WaveLister.end.Goals as goal

pub returns : goal.returns
returns c past s = record {
  ticks = s.keeps.ticks;
  column = λ t early near.
      ended-ticks c.args.self.now.line c.begin.new.self c.finish.new.line c.finish-2.new.line c.args.self.now.ticks past s.keeps.ticks s.keeps.line c.begin.ensures
      (c.finish.ensures (on_channel A past) s.a (length-on_channel A past ∙ sym s.keeps.ticks))
      (c.finish-2.ensures (on_channel B past) s.b (length-on_channel B past ∙ sym s.keeps.ticks)) t (omega (arith, early)) (omega (arith, near))
      ∙ ended-next LAG past t near;
}
