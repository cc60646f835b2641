use Rattle.std.proofs.Common.{◌≡◌, ◌+◌, ◌-◌, ◌<◌, length, take, sym, ◌∙◌, arith, append-nil}
use Rattle.std.proofs.lemmas.List.{take_more_set}
use Rattle.bus_phase.proofs.RowLaws.{level_more, fit_long}
use Rattle.bus_phase.proofs.row.fill.Goals as goal

pub loop-place-init : goal.loop-place-init
loop-place-init c =
    let none : c.args.from - c.args.from ≡ 0 = omega arith in
    rw none (sym (append-nil (take c.args.from c.args.samples.now)))

pub loop-place-preserved : goal.loop-place-preserved
loop-place-preserved c =
    let within : c.loop-place.place < length c.loop-place.samples = omega arith in
    let after : c.loop-place.place + 1 - c.args.from ≡ (c.loop-place.place - c.args.from) + 1 = omega arith in
    rw (take_more_set c.loop-place.samples c.loop-place.place c.args.level within, after, c.loop-place.invariant)
    (level_more (take c.args.from c.args.samples.now) c.args.level (c.loop-place.place - c.args.from))

pub returns : goal.returns
returns c =
    let last : c.loop-place.place ≡ c.args.to = omega arith in
    rw last at c.loop-place.invariant ∙ sym (fit_long c.args.to c.args.from c.args.level c.args.samples.now c.requires.order c.requires.within)
