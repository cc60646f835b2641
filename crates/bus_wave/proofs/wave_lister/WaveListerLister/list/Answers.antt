use Rattle.std.proofs.Common.{◌≤◌, ◌∷◌, [], suc, length, refl, ap, sym, ◌∙◌, subst, arith, append-nil}
use Rattle.std.specs.Prelude.{if◌then◌else◌}
use Rattle.bus_base.specs.declared.samples.Channel.TheVariants.{A, B}
use Rattle.bus_line.specs.Channels.{on_channel, both_quiet, quiet_both}
use Rattle.bus_monitor.proofs.ChannelLaws.{length-on_channel}
use Rattle.bus_wave.specs.Drawers.{ListerStands}
use Rattle.bus_wave.specs.declared.wave_lister.WaveLister.{WaveLister}
use Rattle.bus_wave.proofs.ColumnLaws.{quiet-few}
use Rattle.bus_wave.proofs.DrawLaws.{heard-tick}
use Rattle.bus_wave.proofs.wave_lister.WaveListerLister.list.Goals as goal

pub hear-requires : goal.hear-requires
hear-requires c =
    let (past, s, short) = c.requires.past in
    record { past = (on_channel A past, s.a, length-on_channel A past ∙ sym s.keeps.ticks, rw s.keeps.ticks short) }

pub hear-requires-2 : goal.hear-requires-2
hear-requires-2 c =
    let (past, s, short) = c.requires.past in
    record { past = (on_channel B past, s.b, length-on_channel B past ∙ sym s.keeps.ticks, rw s.keeps.ticks short) }

pub count-requires : goal.count-requires
count-requires c =
    let (past, s, short) = c.requires.past in
    let few : quiet_both past ≤ length past = quiet-few past in
    (rw s.keeps.ticks short, rw s.keeps.quiet (omega (arith, few, short)))

pub returns-clause-stands : goal.returns-clause-stands
returns-clause-stands c past s =
    let k = s.keeps in
    subst (λ (l : WaveLister). ListerStands l (c.args.shown ∷ past)) (sym c.count.ensures) record {
      a = c.hear.ensures.stands (on_channel A past) s.a (length-on_channel A past ∙ sym k.ticks);
      b = c.hear-2.ensures.stands (on_channel B past) s.b (length-on_channel B past ∙ sym k.ticks);
      keeps = record {
        ticks = omega (arith, k.ticks);
        quiet = ap (λ q. if both_quiet c.args.shown then suc q else 0) k.quiet;
        line = heard-tick c.args.self.now.line c.begin.new.self c.hear.new.line c.hear-2.new.line c.args.self.now.ticks c.args.self.now.quiet c.gap-gap.result
            c.args.shown past k.ticks k.quiet c.gap-gap.ensures k.line c.begin.ensures
            (c.hear.ensures.marked (on_channel A past) s.a (length-on_channel A past ∙ sym k.ticks))
            (c.hear-2.ensures.marked (on_channel B past) s.b (length-on_channel B past ∙ sym k.ticks));
      };
    }

pub returns-clause-lines : goal.returns-clause-lines
returns-clause-lines c past s = ([], refl, sym (append-nil c.args.text.now))
