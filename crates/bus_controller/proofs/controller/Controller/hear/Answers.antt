use Rattle.std.proofs.Common.{◌∷◌, sym, ap, subst, refl}
use Rattle.bus_line.specs.declared.cutter.TheConstants.{LAG}
use Rattle.bus_receiver.specs.Moments.{ReceiverStands}
use Rattle.bus_receiver.specs.declared.receiver.Receiver.{Receiver}
use Rattle.bus_receiver.specs.declared.receiver.Moment.{Moment}
use Rattle.bus_base.specs.declared.samples.Pair.{Pair}
use Rattle.bus_controller.specs.ControllerStands.{ControllerStands, ControllerKeeps}
use Rattle.bus_controller.proofs.Serving.{keeps-alike, shown-is}
use Rattle.bus_controller.proofs.controller.Controller.hear.Goals as goal

pub receive-moment-requires : goal.receive-moment-requires
unfolding ControllerStands
receive-moment-requires c = (c.requires.3, c.requires.4.0, c.requires.5, c.requires.6)

pub returns-clause-event : goal.returns-clause-event
unfolding ControllerStands
returns-clause-event c = λ station starts takes past st.
    let is = c.receive-moment.ensures.moment past st.0 in
    shown-is LAG station starts takes past c.receive-moment.result c.args.heard c.learn.result is
    (c.learn.ensures.event station starts takes past (keeps-alike LAG station starts takes past c.args.self.now c.receive-moment.new.self
    c.receive-moment.ensures.state st.1) (rw is refl))

pub returns-clause-stands : goal.returns-clause-stands
unfolding ControllerStands
returns-clause-stands c = λ station starts takes past st.
    let is = c.receive-moment.ensures.moment past st.0 in (
      subst (λ (receiver : Receiver). ReceiverStands LAG receiver (c.args.heard ∷ past)) (sym c.learn.ensures.receiver) (c.receive-moment.ensures.stands past st.0),
      subst (λ (x : Pair). ControllerKeeps LAG station starts takes c.learn.new.self (x ∷ past)) (ap (λ (m : Moment). m.shown) is)
          (c.learn.ensures.stands station starts takes past (keeps-alike LAG station starts takes past c.args.self.now c.receive-moment.new.self
          c.receive-moment.ensures.state st.1) (rw is refl)),
    )
