use Rattle.std.proofs.Common.{◌≡◌, ◌∷◌, Bool, refl, sym, ap, ◌∙◌, subst, arith}
use Rattle.bus_base.specs.declared.samples.Pair.{Pair}
use Rattle.bus_line.specs.declared.cutter.TheConstants.{LAG}
use Rattle.bus_receiver.specs.Moments.{ReceiverStands}
use Rattle.bus_receiver.specs.declared.receiver.Moment.{Moment}
use Rattle.bus_receiver.specs.declared.receiver.Receiver.{Receiver}
use Rattle.bus_station.specs.declared.station.Station.{Station}
use Rattle.bus_station.specs.Noticed.{noticed}
use Rattle.bus_station.specs.Told.{attempts_told, delivery_told, ended_newest, delivered_newest}
use Rattle.bus_station.proofs.Own.{stands-hears, ready, heard}
use Rattle.bus_station.proofs.station.Station.hear.Goals as goal

pub receive-moment-requires : goal.receive-moment-requires
receive-moment-requires c =
    let (plan, starts, loads, outside, past, st, here, small) = c.requires in
    let own = stands-hears LAG plan starts loads outside c.args.self.now past st in
    (past, subst (λ (s : Station). ReceiverStands LAG s.controller.receiver past) (sym c.forget.ensures) own.receiver, sym here, omega (arith, here, small))

pub step-requires : goal.step-requires
step-requires c =
    let (plan, starts, loads, outside, past, st, here, small) = c.requires in
    let value : Station = record c.forget.new.self { controller = c.receive-moment.new.self } in
    let first = ready LAG plan starts loads outside c.args.self.now c.forget.new.self value c.args.heard c.receive-moment.result past c.forget.ensures refl
    c.receive-moment.ensures.state c.receive-moment.ensures.moment c.receive-moment.ensures.hears st in
    (plan, starts, loads, outside, past, _, _, first.keeps, first.hears, first.next, omega (arith, here, small))

pub returns-then-step-clause-stands : goal.returns-then-step-clause-stands
returns-then-step-clause-stands c = λ plan starts loads outside past st.
    let value : Station = record c.forget.new.self { controller = c.receive-moment.new.self } in
    let first = ready LAG plan starts loads outside c.args.self.now c.forget.new.self value c.args.heard c.receive-moment.result past c.forget.ensures refl
    c.receive-moment.ensures.state c.receive-moment.ensures.moment c.receive-moment.ensures.hears st in
    let own = stands-hears LAG plan starts loads outside c.args.self.now past st in
    let receiver = subst (λ (s : Station). ReceiverStands LAG s.controller.receiver past) (sym c.forget.ensures) own.receiver in
    let after = c.step.ensures.tick plan starts loads outside past _ _ first.keeps first.hears first.next in
    c.tell.ensures.stands plan starts loads outside (c.args.heard ∷ past) (heard LAG plan starts loads outside c.step.new.self c.args.heard c.receive-moment.result past
    (ap (λ (m : Moment). m.shown) (c.receive-moment.ensures.moment past receiver)) after.stands
    (subst (λ (r : Receiver). ReceiverStands LAG r (c.args.heard ∷ past)) (sym c.step.ensures.receiver) (c.receive-moment.ensures.stands past receiver))
    (c.step.ensures.hears plan starts loads outside past _ _ first.keeps first.hears first.next refl))

pub returns-then-step-clause-ended : goal.returns-then-step-clause-ended
returns-then-step-clause-ended c = λ plan starts loads outside past st.
    let value : Station = record c.forget.new.self { controller = c.receive-moment.new.self } in
    let first = ready LAG plan starts loads outside c.args.self.now c.forget.new.self value c.args.heard c.receive-moment.result past c.forget.ensures refl
    c.receive-moment.ensures.state c.receive-moment.ensures.moment c.receive-moment.ensures.hears st in
    let own = stands-hears LAG plan starts loads outside c.args.self.now past st in
    let receiver = subst (λ (s : Station). ReceiverStands LAG s.controller.receiver past) (sym c.forget.ensures) own.receiver in
    let shown : c.receive-moment.result.shown ≡ c.args.heard = ap (λ (m : Moment). m.shown) (c.receive-moment.ensures.moment past receiver) in
    ap attempts_told (c.tell.ensures.event ∙ sym (ap (λ (b : Bool). noticed b c.step.new.self.event) c.if-step.true))
    ∙ (c.step.ensures.tick plan starts loads outside past _ _ first.keeps first.hears first.next).ended
    ∙ ap (λ (x : Pair). ended_newest LAG plan starts loads outside (x ∷ past)) shown

pub returns-then-step-clause-took : goal.returns-then-step-clause-took
returns-then-step-clause-took c = λ plan starts loads outside past st.
    let value : Station = record c.forget.new.self { controller = c.receive-moment.new.self } in
    let first = ready LAG plan starts loads outside c.args.self.now c.forget.new.self value c.args.heard c.receive-moment.result past c.forget.ensures refl
    c.receive-moment.ensures.state c.receive-moment.ensures.moment c.receive-moment.ensures.hears st in
    let own = stands-hears LAG plan starts loads outside c.args.self.now past st in
    let receiver = subst (λ (s : Station). ReceiverStands LAG s.controller.receiver past) (sym c.forget.ensures) own.receiver in
    let shown : c.receive-moment.result.shown ≡ c.args.heard = ap (λ (m : Moment). m.shown) (c.receive-moment.ensures.moment past receiver) in
    ap delivery_told (c.tell.ensures.event ∙ sym (ap (λ (b : Bool). noticed b c.step.new.self.event) c.if-step.true))
    ∙ (c.step.ensures.tick plan starts loads outside past _ _ first.keeps first.hears first.next).took
    ∙ ap (λ (x : Pair). delivered_newest LAG plan starts loads outside (x ∷ past)) shown

pub returns-else-step-clause-stands : goal.returns-else-step-clause-stands
returns-else-step-clause-stands c = λ plan starts loads outside past st.
    let value : Station = record c.forget.new.self { controller = c.receive-moment.new.self } in
    let first = ready LAG plan starts loads outside c.args.self.now c.forget.new.self value c.args.heard c.receive-moment.result past c.forget.ensures refl
    c.receive-moment.ensures.state c.receive-moment.ensures.moment c.receive-moment.ensures.hears st in
    let own = stands-hears LAG plan starts loads outside c.args.self.now past st in
    let receiver = subst (λ (s : Station). ReceiverStands LAG s.controller.receiver past) (sym c.forget.ensures) own.receiver in
    let after = c.step.ensures.tick plan starts loads outside past _ _ first.keeps first.hears first.next in
    heard LAG plan starts loads outside c.step.new.self c.args.heard c.receive-moment.result past
    (ap (λ (m : Moment). m.shown) (c.receive-moment.ensures.moment past receiver)) after.stands
    (subst (λ (r : Receiver). ReceiverStands LAG r (c.args.heard ∷ past)) (sym c.step.ensures.receiver) (c.receive-moment.ensures.stands past receiver))
    (c.step.ensures.hears plan starts loads outside past _ _ first.keeps first.hears first.next refl)

pub returns-else-step-clause-ended : goal.returns-else-step-clause-ended
returns-else-step-clause-ended c = λ plan starts loads outside past st.
    let value : Station = record c.forget.new.self { controller = c.receive-moment.new.self } in
    let first = ready LAG plan starts loads outside c.args.self.now c.forget.new.self value c.args.heard c.receive-moment.result past c.forget.ensures refl
    c.receive-moment.ensures.state c.receive-moment.ensures.moment c.receive-moment.ensures.hears st in
    let own = stands-hears LAG plan starts loads outside c.args.self.now past st in
    let receiver = subst (λ (s : Station). ReceiverStands LAG s.controller.receiver past) (sym c.forget.ensures) own.receiver in
    let shown : c.receive-moment.result.shown ≡ c.args.heard = ap (λ (m : Moment). m.shown) (c.receive-moment.ensures.moment past receiver) in
    ap attempts_told (sym (ap (λ (b : Bool). noticed b c.step.new.self.event) c.if-step.false))
    ∙ (c.step.ensures.tick plan starts loads outside past _ _ first.keeps first.hears first.next).ended
    ∙ ap (λ (x : Pair). ended_newest LAG plan starts loads outside (x ∷ past)) shown

pub returns-else-step-clause-took : goal.returns-else-step-clause-took
returns-else-step-clause-took c = λ plan starts loads outside past st.
    let value : Station = record c.forget.new.self { controller = c.receive-moment.new.self } in
    let first = ready LAG plan starts loads outside c.args.self.now c.forget.new.self value c.args.heard c.receive-moment.result past c.forget.ensures refl
    c.receive-moment.ensures.state c.receive-moment.ensures.moment c.receive-moment.ensures.hears st in
    let own = stands-hears LAG plan starts loads outside c.args.self.now past st in
    let receiver = subst (λ (s : Station). ReceiverStands LAG s.controller.receiver past) (sym c.forget.ensures) own.receiver in
    let shown : c.receive-moment.result.shown ≡ c.args.heard = ap (λ (m : Moment). m.shown) (c.receive-moment.ensures.moment past receiver) in
    ap delivery_told (sym (ap (λ (b : Bool). noticed b c.step.new.self.event) c.if-step.false))
    ∙ (c.step.ensures.tick plan starts loads outside past _ _ first.keeps first.hears first.next).took
    ∙ ap (λ (x : Pair). delivered_newest LAG plan starts loads outside (x ∷ past)) shown
