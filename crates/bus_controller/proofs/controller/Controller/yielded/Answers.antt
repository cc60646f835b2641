use Rattle.std.proofs.Common.{refl}
use Rattle.bus_model.specs.Course.{course}
use Rattle.bus_controller.specs.AgendaOf.{IsAgendaOf}
use Rattle.bus_controller.specs.ControllerStands.{ControllerStands, ControllerKeeps}
use Rattle.bus_controller.proofs.controller.Controller.yielded.Goals as goal

pub returns : goal.returns
unfolding ControllerStands ControllerKeeps IsAgendaOf course
returns c = λ station whole. (
  c.new.ensures,
  record {
    state = record { keeps = record { is = whole.is; ranges = rw whole.is at whole.ranges }; runs = refl; holds = refl };
    so_far = tt;
  },
)
