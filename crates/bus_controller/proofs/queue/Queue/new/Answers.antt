use Rattle.std.proofs.Common.{◌*◌, refl, sym}
use Rattle.bus_controller.proofs.Places.{length-all, queue-is}
use Rattle.bus_controller.proofs.queue.Queue.new.Goals as goal

pub first_place-place-requires-clause-left : goal.first_place-place-requires-clause-left
first_place-place-requires-clause-left c =
    rw (c.deref-2.ensures.value, c.count_items.ensures, c.deref.ensures.value) (sym (length-all c.args.repeat c.args.frames.items))

pub invariant_of-result : goal.invariant_of-result
invariant_of-result c =
    queue-is c.args.frames.items c.args.repeat (c.args.repeat * c.count_items.result) c.first_place-place.result c.requires
    (rw (c.count_items.ensures, c.deref.ensures.value) refl)
    (rw c.deref-2.ensures.value at c.first_place-place.ensures.all)
    (rw c.deref-2.ensures.value at c.first_place-place.ensures.place)
    (rw c.deref-2.ensures.value at c.first_place-place.ensures.item)
