use Rattle.std.proofs.Common.{◌<◌, refl, arith}
use Rattle.bus_controller.specs.Queue.{items_of}
use Rattle.bus_controller.proofs.Places.{rest-is, item-few}
use Rattle.bus_controller.proofs.place.after_item.Goals as goal

pub overflow_add-result : goal.overflow_add-result
overflow_add-result c = let few : c.args.place.item < items_of c.args.frames.now = item-few c.args.frames.now c.args.place c.requires.item in omega (arith, few, c.requires.short)

pub returns-clause-rest : goal.returns-clause-rest
returns-clause-rest c = rest-is c.args.frames.now c.args.place _ c.requires.item refl
