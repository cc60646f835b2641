use Rattle.std.proofs.Common.{sym, subst}
use Rattle.bus_line.specs.declared.cutter.TheConstants.{LAG}
use Rattle.bus_receiver.specs.Moments.{ReceiverStands}
use Rattle.bus_receiver.specs.declared.receiver.Receiver.{Receiver}
use Rattle.bus_controller.specs.ControllerStands.{ControllerStands}
use Rattle.bus_controller.proofs.controller.Controller.take.Goals as goal

pub returns : goal.returns
unfolding ControllerStands
returns c = λ station starts takes past st free later. (
  subst (λ (receiver : Receiver). ReceiverStands LAG receiver past) (sym c.take_with.ensures.receiver) st.0,
  c.take_with.ensures.stands station starts takes past st.1 free later (c.next-next.ensures past st.0) (c.quiet-quiet.ensures past st.0),
)
