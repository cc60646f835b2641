use Rattle.std.proofs.Common.{true, [], refl, arith}
use Rattle.bus_line.specs.declared.cutter.TheConstants.{LAG}
use Rattle.bus_model.specs.Course.{course, at_first}
use Rattle.bus_controller.specs.AgendaOf.{IsAgendaOf}
use Rattle.bus_controller.specs.ControllerStands.{ControllerStands, ControllerKeeps}
use Rattle.bus_controller.specs.declared.opening.Opening.TheVariants as openings
use Rattle.bus_controller.proofs.Waiting.{waits-stand}
use Rattle.bus_controller.proofs.controller.Controller.starting.Goals as goal

pub returns : goal.returns
unfolding ControllerStands ControllerKeeps IsAgendaOf course
returns c = λ station whole. (
  c.new.ensures,
  record {
    state = rw c.wait.ensures (waits-stand (at_first station true) [] LAG c.args.agenda (openings.Usual 4) record {
      keeps = record { is = whole.is; ranges = rw whole.is at whole.ranges };
      runs = refl;
      holds = refl;
      opens = (refl, omega arith);
      due = λ entry later here. omega arith;
    });
    so_far = tt;
  },
)
