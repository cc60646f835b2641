use Rattle.std.proofs.Common.{◌≡◌, ◌+◌, ◌<◌, ◌≤◌, ◌++◌, ◌∷◌, length, suc, ap, sym, ◌∙◌, subst, arith, length-append}
use Rattle.bus_base.specs.declared.samples.Pair.{Pair}
use Rattle.bus_monitor.specs.Parts.{part}
use Rattle.bus_monitor.proofs.PartLaws.{long-part}
use Rattle.bus_wave.proofs.DrawLaws.{part-more}
use Rattle.bus_wave.specs.Drawers.{KeepsTicks}
use Rattle.bus_wave.proofs.wave_lister.WaveLister.keep_part.Goals as goal

pub keep-requires : goal.keep-requires
keep-requires c =
    let (past, k, told, short) = c.requires.past in
    let n = c.ticks.kept in
    let few : c.args.at + n ≤ c.args.block.now.ticks = omega (arith, c.requires.within) in
    let long : length (part c.args.block.now c.args.at n ++ past) ≡ n + length past =
    length-append (part c.args.block.now c.args.at n) past ∙ ap (λ m. m + length past) (long-part c.args.block.now c.args.at n few) in
    (part c.args.block.now c.args.at n ++ past, c.ticks.invariant.3 past k told, omega (arith, long, short, c.requires.within, c.requires.few))

pub ticks-preserved : goal.ticks-preserved
ticks-preserved c =
    let block = c.args.block.now in
    let at = c.args.at in
    let n = c.ticks.kept in
    let more : suc n ≡ n + 1 = omega arith in
    let within : at + n < block.ticks = omega (arith, c.requires.within) in (
      c.keep.ensures.a ∙ c.ticks.invariant.0,
      c.keep.ensures.b ∙ c.ticks.invariant.1,
      omega arith,
      λ past k told. subst (λ m. KeepsTicks c.keep.new.self (part block at m ++ past)) more
          (subst (λ ts. KeepsTicks c.keep.new.self (ts ++ past)) (sym (part-more block at n within))
          (subst (λ (x : Pair). KeepsTicks c.keep.new.self (x ∷ (part block at n ++ past))) c.tick.ensures
          (c.keep.ensures.keeps (part block at n ++ past) (c.ticks.invariant.3 past k told) (rw c.tick.ensures (told n (omega arith)))))),
    )

pub returns-clause-keeps : goal.returns-clause-keeps
returns-clause-keeps c past k told =
    let all : c.ticks.kept ≡ c.args.ticks = omega (arith, c.ticks.invariant.2) in
    subst (λ m. KeepsTicks c.ticks.self (part c.args.block.now c.args.at m ++ past)) all (c.ticks.invariant.3 past k told)
