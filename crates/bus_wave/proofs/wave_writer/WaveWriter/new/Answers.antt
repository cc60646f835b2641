use Rattle.std.proofs.Common.{◌++◌, [], ap, ◌∙◌}
use Rattle.bus_wave.specs.Texts.{head_text}
use Rattle.bus_wave.proofs.TakeLaws.{follows-hears, begun-drew}
use Rattle.bus_wave.proofs.wave_writer.WaveWriter.new.Goals as goal

pub returns : goal.returns
returns c first = record {
  hears = follows-hears c.new-3.result [] first first (c.new-3.ensures first);
  drew = begun-drew (record { hearing = c.new-3.result; drawer = c.new-4.result; stamp = c.of.result; text = c.text.new.self }) first c.new-4.ensures
      (c.text.ensures.text ∙ ap (λ t. t ++ head_text) c.new-text.ensures);
}
