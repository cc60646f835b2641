use Rattle.std.proofs.Common.{◌≡◌, ◌+◌, ◌++◌, length, suc, ◌∙◌, subst, arith}
use Rattle.bus_base.specs.Samples.{quiet_pairs}
use Rattle.bus_monitor.proofs.QuietLaws.{long-more}
use Rattle.bus_wave.specs.Drawers.{KeepsTicks}
use Rattle.bus_wave.proofs.wave_lister.WaveLister.keep_quiet.Goals as goal

pub keep-requires : goal.keep-requires
keep-requires c =
    let (past, k, told, short) = c.requires in
    let n = c.ticks.kept in
    let long : length (quiet_pairs n ++ past) ≡ n + length past = long-more n past in
    (quiet_pairs n ++ past, c.ticks.invariant.3 past k told, omega (arith, long, short))

pub ticks-preserved : goal.ticks-preserved
ticks-preserved c =
    let n = c.ticks.kept in
    let more : suc n ≡ n + 1 = omega arith in (
      c.keep.ensures.a ∙ c.ticks.invariant.0,
      c.keep.ensures.b ∙ c.ticks.invariant.1,
      omega arith,
      λ past k told. subst (λ m. KeepsTicks c.keep.new.self (quiet_pairs m ++ past)) more
          (c.keep.ensures.keeps (quiet_pairs n ++ past) (c.ticks.invariant.3 past k told) (told n (omega arith))),
    )

pub returns-clause-keeps : goal.returns-clause-keeps
returns-clause-keeps c past k told =
    let all : c.ticks.kept ≡ c.args.ticks = omega (arith, c.ticks.invariant.2) in
    subst (λ m. KeepsTicks c.ticks.self (quiet_pairs m ++ past)) all (c.ticks.invariant.3 past k told)
