use Rattle.std.proofs.Common.{length, sym, ap, ◌∙◌, arith}
use Rattle.bus_controller.proofs.Words.{take-room, take-full}
use Rattle.bus_controller.proofs.expecting.keep_slot.Goals as goal

pub returns : goal.returns
returns c =
    let same = ap length c.as_slice.ensures.value in
    c.push.ensures.items ∙ sym (take-room 34 c.args.slots.now.items c.args.word (omega (arith, same)))

pub returns-then-as_slice-ge-MOST_SLOTS : goal.returns-then-as_slice-ge-MOST_SLOTS
returns-then-as_slice-ge-MOST_SLOTS c =
    let same = ap length c.as_slice.ensures.value in
    let fits = c.as_slice.ensures.fits in
    sym (take-full 34 c.args.slots.now.items c.args.word (omega (arith, same, fits)))
