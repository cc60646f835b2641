use Rattle.std.proofs.Common.{◌+◌, ◌≤◌, ◌<◌, ◌++◌, sym, subst, arith}
use Rattle.bus_base.specs.declared.samples.Channel.TheVariants.{A, B}
use Rattle.bus_line.specs.Channels.{on_channel}
use Rattle.bus_monitor.specs.Channels.{ChannelListerStands}
use Rattle.bus_monitor.specs.Parts.{part}
use Rattle.bus_monitor.proofs.PartLaws.{part-a, part-b}
use Rattle.bus_wave.specs.declared.marking.Marker.{Marker}
use Rattle.bus_wave.proofs.DrawLaws.{Passed, passed, part-tells}
use Rattle.bus_wave.proofs.wave_lister.WaveListerLister.pass.Goals as goal

pub pass-requires-clause-still : goal.pass-requires-clause-still
pass-requires-clause-still c = c.still.ensures.still c.min-ticks.result (grind (arith))

pub pass-requires-2-clause-still : goal.pass-requires-2-clause-still
pass-requires-2-clause-still c = c.still-2.ensures.still c.min-ticks.result (grind (arith))

pub pass-requires-clause-past : goal.pass-requires-clause-past
pass-requires-clause-past c = let (past, s, short) = c.requires.past in (on_channel A past, s.a)

pub pass-requires-2-clause-past : goal.pass-requires-2-clause-past
pass-requires-2-clause-past c = let (past, s, short) = c.requires.past in (on_channel B past, s.b)

pub keep_part-requires-clause-past : goal.keep_part-requires-clause-past
keep_part-requires-clause-past c =
    let (past, s, short) = c.requires.past in
    let at = c.args.at in
    let n = c.min-ticks.result in
    let block = c.args.block.now in
    let few : at + n ≤ block.ticks = grind (arith) in
    let some : 0 < n = grind (arith) in
    let a : Passed c.pass.new.self A block at n past =
    passed c.args.self.now.a.lister c.pass.new.self A block at n c.args.self.now.ticks past _ (part-a block at n few) s.keeps.ticks
    (c.still.ensures.time n some (grind (arith))) s.a c.pass.ensures.stands c.pass.ensures.closes c.pass.ensures.tells in
    let b : Passed c.pass-2.new.self B block at n past =
    passed c.args.self.now.b.lister c.pass-2.new.self B block at n c.args.self.now.ticks past _ (part-b block at n few) s.keeps.ticks
    (c.still-2.ensures.time n some (grind (arith))) s.b c.pass-2.ensures.stands c.pass-2.ensures.closes c.pass-2.ensures.tells in (
      past,
      record { ticks = s.keeps.ticks; quiet = s.keeps.quiet; line = s.keeps.line },
      part-tells block at n past few a.still b.still,
      short,
    )

pub returns-clause-stands : goal.returns-clause-stands
returns-clause-stands c past s =
    let at = c.args.at in
    let n = c.min-ticks.result in
    let block = c.args.block.now in
    let few : at + n ≤ block.ticks = grind (arith) in
    let some : 0 < n = grind (arith) in
    let a : Passed c.pass.new.self A block at n past =
    passed c.args.self.now.a.lister c.pass.new.self A block at n c.args.self.now.ticks past _ (part-a block at n few) s.keeps.ticks
    (c.still.ensures.time n some (grind (arith))) s.a c.pass.ensures.stands c.pass.ensures.closes c.pass.ensures.tells in
    let b : Passed c.pass-2.new.self B block at n past =
    passed c.args.self.now.b.lister c.pass-2.new.self B block at n c.args.self.now.ticks past _ (part-b block at n few) s.keeps.ticks
    (c.still-2.ensures.time n some (grind (arith))) s.b c.pass-2.ensures.stands c.pass-2.ensures.closes c.pass-2.ensures.tells in
    record {
      a = subst (λ (m : Marker). ChannelListerStands m.lister (on_channel A (part block at n ++ past))) (sym c.keep_part.ensures.a) a.stands;
      b = subst (λ (m : Marker). ChannelListerStands m.lister (on_channel B (part block at n ++ past))) (sym c.keep_part.ensures.b) b.stands;
      keeps = c.keep_part.ensures.keeps past record { ticks = s.keeps.ticks; quiet = s.keeps.quiet; line = s.keeps.line }
          (part-tells block at n past few a.still b.still);
    }
