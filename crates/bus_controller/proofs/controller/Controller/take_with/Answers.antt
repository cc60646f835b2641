use Rattle.std.proofs.Common.{length, arith}
use Rattle.bus_line.specs.declared.cutter.TheConstants.{LAG}
use Rattle.bus_model.specs.Course.{course}
use Rattle.bus_controller.specs.ControllerStands.{ControllerKeeps}
use Rattle.bus_controller.proofs.Wholes.{course-taken, later-taken, takes-stand}
use Rattle.bus_controller.proofs.controller.Controller.take_with.Goals as goal

pub returns-clause-stands : goal.returns-clause-stands
unfolding ControllerKeeps
returns-clause-stands c = λ station starts takes past st free later next quiet.
    let law = takes-stand LAG (course LAG station starts takes past) past c.args.self.now.state c.args.first st.state free later in
    record {
      state = rw (course-taken LAG station starts takes c.args.first.0 past, c.take_at.ensures.state, next, quiet) law;
      so_far = later-taken takes _ (length past) st.so_far (omega arith);
    }
