use Rattle.std.proofs.Common.{◌++◌, sym, subst}
use Rattle.bus_base.specs.Samples.{quiet_pairs}
use Rattle.bus_base.specs.declared.samples.Channel.TheVariants.{A, B}
use Rattle.bus_line.specs.Channels.{on_channel}
use Rattle.bus_monitor.specs.Channels.{ChannelListerStands}
use Rattle.bus_monitor.proofs.IdleLaws.{idle-ticks}
use Rattle.bus_monitor.proofs.QuietLaws.{on-quiet}
use Rattle.bus_wave.specs.declared.marking.Marker.{Marker}
use Rattle.bus_wave.proofs.DrawLaws.{AreIdle, are-idle, idle-quiet}
use Rattle.bus_wave.proofs.wave_lister.WaveListerLister.skip.Goals as goal

pub keep_quiet-requires : goal.keep_quiet-requires
keep_quiet-requires c =
    let (past, s, short) = c.requires.past in
    let i : AreIdle c.args.self.now.a.lister c.args.self.now.b.lister = are-idle c.args.self.now.a.lister c.args.self.now.b.lister c.requires.idle in
    (past, s.keeps, idle-quiet c.args.self.now.a.lister c.args.self.now.b.lister c.args.ticks past i s.a s.b, short)

pub returns-clause-stands : goal.returns-clause-stands
returns-clause-stands c past s =
    let n = c.args.ticks in
    let a = c.args.self.now.a.lister in
    let b = c.args.self.now.b.lister in
    let i : AreIdle a b = are-idle a b c.requires.idle in
    record {
      a = subst (λ (m : Marker). ChannelListerStands m.lister (on_channel A (quiet_pairs n ++ past))) (sym c.keep_quiet.ensures.a)
          (subst (ChannelListerStands a) (sym (on-quiet A n past)) (idle-ticks a n (on_channel A past) i.rests_a i.none_a s.a));
      b = subst (λ (m : Marker). ChannelListerStands m.lister (on_channel B (quiet_pairs n ++ past))) (sym c.keep_quiet.ensures.b)
          (subst (ChannelListerStands b) (sym (on-quiet B n past)) (idle-ticks b n (on_channel B past) i.rests_b i.none_b s.b));
      keeps = c.keep_quiet.ensures.keeps past s.keeps (idle-quiet a b n past i s.a s.b);
    }
