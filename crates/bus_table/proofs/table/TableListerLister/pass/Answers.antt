use Rattle.std.proofs.Common.{◌≡◌, ◌+◌, ◌≤◌, ◌<◌, ◌++◌, length, sym, ap, subst, ◌∙◌, arith, length-append}
use Rattle.bus_base.specs.declared.samples.Channel.TheVariants.{A, B}
use Rattle.bus_line.specs.Channels.{on_channel}
use Rattle.bus_line.specs.declared.cutter.TheConstants.{LAG}
use Rattle.bus_planes.specs.Still.{TellNothing}
use Rattle.bus_monitor.specs.Channels.{ChannelListerStands}
use Rattle.bus_monitor.specs.Parts.{part, InTime, CloseNone}
use Rattle.bus_monitor.proofs.ChannelLaws.{length-on_channel}
use Rattle.bus_monitor.proofs.PartLaws.{part-a, part-b, on-append, long-part}
use Rattle.bus_table.proofs.RowLaws.{relisted}
use Rattle.bus_table.proofs.TableLaws.{still-notes, rows-still, lines-same}
use Rattle.bus_table.proofs.table.TableListerLister.pass.Goals as goal

pub pass-requires-clause-still : goal.pass-requires-clause-still
pass-requires-clause-still g c = c.still.ensures.still c.min-ticks.result (grind (arith))

pub pass-requires-2-clause-still : goal.pass-requires-2-clause-still
pass-requires-2-clause-still g c = c.still-2.ensures.still c.min-ticks.result (grind (arith))

pub pass-requires-clause-past : goal.pass-requires-clause-past
pass-requires-clause-past g c = let (past, s, short) = c.requires.past in (on_channel A past, s.a.lister)

pub pass-requires-2-clause-past : goal.pass-requires-2-clause-past
pass-requires-2-clause-past g c = let (past, s, short) = c.requires.past in (on_channel B past, s.b.lister)

pub returns-clause-stands : goal.returns-clause-stands
returns-clause-stands g c past s =
    let old = c.args.self.now in
    let at = c.args.at in
    let n = c.min-ticks.result in
    let block = c.args.block.now in
    let few : at + n ≤ block.ticks = grind (arith) in
    let some : 0 < n = grind (arith) in
    let ticks : old.ticks ≡ length past = s.ticks in
    let time-a : InTime old.a.lister (length (on_channel A past)) n =
    subst (λ now. InTime old.a.lister now n) (ticks ∙ sym (length-on_channel A past)) (c.still.ensures.time n some (grind (arith))) in
    let time-b : InTime old.b.lister (length (on_channel B past)) n =
    subst (λ now. InTime old.b.lister now n) (ticks ∙ sym (length-on_channel B past)) (c.still-2.ensures.time n some (grind (arith))) in
    let long : length (part block at n ++ past) ≡ n + length past =
    length-append (part block at n) past ∙ ap (λ m. m + length past) (long-part block at n few) in
    let told-a : TellNothing LAG (on_channel A (part block at n)) (on_channel A past) =
    subst (λ xs. TellNothing LAG xs (on_channel A past)) (sym (part-a block at n few)) (c.pass.ensures.tells (on_channel A past) s.a.lister) in
    let told-b : TellNothing LAG (on_channel B (part block at n)) (on_channel B past) =
    subst (λ xs. TellNothing LAG xs (on_channel B past)) (sym (part-b block at n few)) (c.pass-2.ensures.tells (on_channel B past) s.b.lister) in
    let closes-a : CloseNone (on_channel A (part block at n)) (on_channel A past) =
    subst (λ xs. CloseNone xs (on_channel A past)) (sym (part-a block at n few)) (c.pass.ensures.closes (on_channel A past) s.a.lister time-a) in
    let closes-b : CloseNone (on_channel B (part block at n)) (on_channel B past) =
    subst (λ xs. CloseNone xs (on_channel B past)) (sym (part-b block at n few)) (c.pass-2.ensures.closes (on_channel B past) s.b.lister time-b) in
    let bound = s.few in
    record {
      a = record {
        lister = subst (ChannelListerStands c.pass.new.self) (sym (on-append A (part block at n) past ∙ ap (λ xs. xs ++ on_channel A past) (part-a block at n few)))
            (c.pass.ensures.stands (on_channel A past) s.a.lister time-a);
        told = relisted old.a c.pass.new.self A (part block at n ++ past) (still-notes old.a A (part block at n) past told-a s.a.told).0;
      };
      b = record {
        lister = subst (ChannelListerStands c.pass-2.new.self) (sym (on-append B (part block at n) past ∙ ap (λ xs. xs ++ on_channel B past) (part-b block at n few)))
            (c.pass-2.ensures.stands (on_channel B past) s.b.lister time-b);
        told = relisted old.b c.pass-2.new.self B (part block at n ++ past) (still-notes old.b B (part block at n) past told-b s.b.told).0;
      };
      ticks = grind (arith, ticks, long);
      count = s.count ∙ ap length (sym (rows-still (part block at n) past closes-a closes-b));
      few = omega (arith, bound, long);
    }

pub returns-clause-lines : goal.returns-clause-lines
returns-clause-lines g c past s =
    let old = c.args.self.now in
    let at = c.args.at in
    let n = c.min-ticks.result in
    let block = c.args.block.now in
    let few : at + n ≤ block.ticks = grind (arith) in
    let some : 0 < n = grind (arith) in
    let ticks : old.ticks ≡ length past = s.ticks in
    let time-a : InTime old.a.lister (length (on_channel A past)) n =
    subst (λ now. InTime old.a.lister now n) (ticks ∙ sym (length-on_channel A past)) (c.still.ensures.time n some (grind (arith))) in
    let time-b : InTime old.b.lister (length (on_channel B past)) n =
    subst (λ now. InTime old.b.lister now n) (ticks ∙ sym (length-on_channel B past)) (c.still-2.ensures.time n some (grind (arith))) in
    lines-same g.F.TableFormat.kind (part block at n ++ past) past
    (rows-still (part block at n) past
    (subst (λ xs. CloseNone xs (on_channel A past)) (sym (part-a block at n few)) (c.pass.ensures.closes (on_channel A past) s.a.lister time-a))
    (subst (λ xs. CloseNone xs (on_channel B past)) (sym (part-b block at n few)) (c.pass-2.ensures.closes (on_channel B past) s.b.lister time-b)))
