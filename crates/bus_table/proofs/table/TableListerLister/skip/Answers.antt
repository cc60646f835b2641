use Rattle.std.proofs.Common.{◌≡◌, ◌+◌, ◌++◌, length, ap, sym, ◌∙◌, arith}
use Rattle.bus_base.specs.Samples.{quiet_pairs}
use Rattle.bus_base.specs.declared.samples.Channel.TheVariants.{A, B}
use Rattle.bus_monitor.proofs.QuietLaws.{long-more}
use Rattle.bus_table.proofs.TableLaws.{AreIdle, are-idle, idle-rows, rows-idle, lines-same}
use Rattle.bus_table.proofs.table.TableListerLister.skip.Goals as goal

pub returns-clause-stands : goal.returns-clause-stands
returns-clause-stands g c past s =
    let old = c.args.self.now in
    let n = c.args.ticks in
    let i : AreIdle old.a.lister old.b.lister = are-idle old.a.lister old.b.lister c.requires.idle in
    let long : length (quiet_pairs n ++ past) ≡ n + length past = long-more n past in
    let t : old.ticks ≡ length past = s.ticks in
    let few = s.few in
    record {
      a = idle-rows old.a A n past i.rests_a i.none_a s.a;
      b = idle-rows old.b B n past i.rests_b i.none_b s.b;
      ticks = omega (arith, t, long);
      count = s.count ∙ ap length (sym (rows-idle old.a old.b n past i.rests_a i.none_a i.rests_b i.none_b s.a s.b));
      few = omega (arith, few, long);
    }

pub returns-clause-lines : goal.returns-clause-lines
returns-clause-lines g c past s =
    let old = c.args.self.now in
    let i : AreIdle old.a.lister old.b.lister = are-idle old.a.lister old.b.lister c.requires.idle in
    lines-same g.F.TableFormat.kind (quiet_pairs c.args.ticks ++ past) past (rows-idle old.a old.b c.args.ticks past i.rests_a i.none_a i.rests_b i.none_b s.a s.b)
