use Rattle.std.proofs.Common.{◌≡◌, ◌+◌, ◌≤◌, ◌++◌, length, sym, ap, subst, ◌∙◌, arith, length-append}
use Rattle.bus_base.specs.declared.samples.Channel.TheVariants.{A, B}
use Rattle.bus_line.specs.Channels.{on_channel}
use Rattle.bus_planes.specs.Cutting.{BitCutterStands}
use Rattle.bus_planes.specs.Still.{TellNothing}
use Rattle.bus_line.specs.declared.cutter.TheConstants.{LAG}
use Rattle.bus_monitor.specs.Parts.{part}
use Rattle.bus_monitor.proofs.PartLaws.{part-a, part-b, on-append, long-part}
use Rattle.bus_monitor.proofs.word_lister.WordLister.pass.Goals as goal

pub pass-requires-clause-still : goal.pass-requires-clause-still
pass-requires-clause-still c = c.still.ensures.still c.min-ticks.result (grind (arith))

pub pass-requires-2-clause-still : goal.pass-requires-2-clause-still
pass-requires-2-clause-still c = c.still-2.ensures.still c.min-ticks.result (grind (arith))

pub returns-clause-stands : goal.returns-clause-stands
returns-clause-stands c past s =
    let at = c.args.at in
    let n = c.min-ticks.result in
    let block = c.args.block.now in
    let few : at + n ≤ block.ticks = grind (arith) in
    let ticks : c.args.self.now.ticks ≡ length past = s.ticks in
    let long : length (part block at n ++ past) ≡ n + length past =
    length-append (part block at n) past ∙ ap (λ m. m + length past) (long-part block at n few) in
    record {
      a = subst (BitCutterStands LAG c.pass.new.self) (sym (on-append A (part block at n) past ∙ ap (λ xs. xs ++ on_channel A past) (part-a block at n few)))
          (c.pass.ensures.stands (on_channel A past) s.a);
      b = subst (BitCutterStands LAG c.pass-2.new.self) (sym (on-append B (part block at n) past ∙ ap (λ xs. xs ++ on_channel B past) (part-b block at n few)))
          (c.pass-2.ensures.stands (on_channel B past) s.b);
      ticks = grind (arith, ticks, long);
    }

pub returns-clause-tells : goal.returns-clause-tells
returns-clause-tells c past s =
    let at = c.args.at in
    let n = c.min-ticks.result in
    let block = c.args.block.now in
    let few : at + n ≤ block.ticks = grind (arith) in (
      subst (λ xs. TellNothing LAG xs (on_channel A past)) (sym (part-a block at n few)) (c.pass.ensures.tells (on_channel A past) s.a),
      subst (λ xs. TellNothing LAG xs (on_channel B past)) (sym (part-b block at n few)) (c.pass-2.ensures.tells (on_channel B past) s.b),
    )
