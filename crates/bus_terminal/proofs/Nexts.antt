-- What an order that is handled leaves, and what is told of it, in the words of the definition.
use Rattle.std.proofs.Common.{◌≡◌, ℕ, suc, Bool, List, ◌∷◌, length, Option, Some, None, refl, sym, ap, ◌∙◌, subst}
use Rattle.bus_base.specs.declared.samples.Channel.{Channel}
use Rattle.bus_formats.specs.Plans.{TerminalData}
use Rattle.bus_model.specs.Memory.{Memory, TimedLoad}
use Rattle.bus_model.specs.Orders.{Obeyed}
use Rattle.bus_model.specs.Orders as orders
use Rattle.bus_model.specs.Hearing.{Moment}
use Rattle.bus_model.specs.Standing.{Standing, obeys, settles, runs_out, Handled, superseded}
use Rattle.bus_model.specs.Terminal.{done_by, after_order, marked_by, order_now, after_tick, ordered, taken_by}
use Rattle.bus_orders.specs.Meant.{taken_meant}
use Rattle.bus_orders.specs.declared.done.Taken.{Taken}
use Rattle.bus_terminal.specs.Holding.{EarsStand}
use Rattle.bus_terminal.specs.Handling.{PerformedIs}
use Rattle.bus_terminal.specs.Stands.{CommonStands, StateStands, NextStands, TakenIs, AcceptedIs, channel_of}
use Rattle.bus_terminal.specs.Steps.{stands_told, event_told}
use Rattle.bus_terminal.specs.declared.common.Common.{Common}
use Rattle.bus_terminal.specs.declared.handling.Performed.{Performed}
use Rattle.bus_terminal.specs.declared.state.TerminalState.{TerminalState}
use Rattle.bus_terminal.specs.declared.state.TerminalEvent.{TerminalEvent}
use Rattle.bus_terminal.proofs.Acting.{acted}

-- a tick with an order
tick-is : (k : ℕ) (terminal : TerminalData) (loads : List TimedLoad) (before : Common) (past : List Moment) (now : Moment) (s : Standing) (order : Handled) →
    CommonStands k terminal loads before past s → order_now k terminal (now ∷ past) s ≡ Some order →
    after_tick k terminal loads now past s ≡ marked_by k terminal now past s (after_order s order (done_by k terminal s before.memory now.has_items order))
tick-is k terminal loads before past now s order st is =
    ap (λ (o : Option Handled). marked_by k terminal now past s (ordered k terminal loads (length past) now.has_items s o)) is
    ∙ ap (λ (m : Memory). marked_by k terminal now past s (after_order s order (done_by k terminal s m now.has_items order))) (sym st.memory)

taken-is : (k : ℕ) (terminal : TerminalData) (loads : List TimedLoad) (before : Common) (past : List Moment) (now : Moment) (s : Standing) (order : Handled) →
    CommonStands k terminal loads before past s → order_now k terminal (now ∷ past) s ≡ Some order →
    taken_by k terminal loads (length past) now.has_items s (order_now k terminal (now ∷ past) s) ≡ (done_by k terminal s before.memory now.has_items order).taken
taken-is k terminal loads before past now s order st is =
    ap (λ (o : Option Handled). taken_by k terminal loads (length past) now.has_items s o) is
    ∙ ap (λ (m : Memory). (done_by k terminal s m now.has_items order).taken) (sym st.memory)

event-taken : (tick : ℕ) (c : Channel) (t : Option Taken) (o : Option orders.Taken) → taken_meant t ≡ o → TakenIs (event_told tick c t) tick c o
event-taken tick c None o e = sym e
event-taken tick c (Some taken) o e = (refl, refl, sym e)

-- an order alone tells nothing of acceptance
orders-silent : (tick : ℕ) (c : Channel) (t : Option Taken) → AcceptedIs (event_told tick c t) None
orders-silent tick c None = refl
orders-silent tick c (Some taken) = refl

order-channel : (s : Standing) (order : Handled) (o : Obeyed) → (after_order s order o).channel ≡ channel_of s (Some order)
order-channel s (obeys c end order rest) o = refl
order-channel s (settles end slots rest) o = refl
order-channel s runs_out o = refl

pub next-stands : (k : ℕ) (terminal : TerminalData) (loads : List TimedLoad) (before common : Common) (memory : Memory) (past : List Moment)
    (now : Moment) (s : Standing) (order : Handled)
    (performed : Performed) (b may : Bool) (n tick : ℕ) (state : TerminalState) (event : TerminalEvent) →
    CommonStands k terminal loads before past s → order_now k terminal (now ∷ past) s ≡ Some order → common.plan ≡ before.plan → common.memory ≡ before.memory →
    ((after : Standing) → EarsStand k terminal.address common.ears (now ∷ past) (marked_by k terminal now past s after)) → tick ≡ length past →
    now.has_items ≡ may → n ≡ suc tick →
    PerformedIs performed memory s order (done_by k common.plan s common.memory may order) →
    ((left : Standing) → EarsStand k terminal.address common.ears (now ∷ past) left → left.channel ≡ performed.channel → left.end ≡ performed.end →
    b ≡ superseded k left) →
    state ≡ stands_told (record { plan = common.plan; memory = memory; ears = common.ears }) b n performed.channel performed.end performed.part
    performed.done.duty →
    event ≡ event_told tick performed.channel performed.done.taken →
    NextStands k terminal loads (record { state = state; event = event }) past now s None
next-stands k terminal loads before common memory past now s order performed b may n tick state event st is plan kept hear here may_is after_now does
    newer state_is event_is =
    let o : Obeyed = done_by k terminal s before.memory now.has_items order in
    let same : done_by k common.plan s common.memory may order ≡ o =
    ap (λ (p : TerminalData). done_by k p s common.memory may order) (plan ∙ st.plan)
    ∙ ap (λ (m : Memory). done_by k terminal s m may order) kept
    ∙ ap (λ (b : Bool). done_by k terminal s before.memory b order) (sym may_is) in
    let done : PerformedIs performed memory s order o = subst (λ (x : Obeyed). PerformedIs performed memory s order x) same does in
    let left : Standing = marked_by k terminal now past s (after_order s order o) in
    let heard : EarsStand k terminal.address common.ears (now ∷ past) left = hear (after_order s order o) in
    let on : TerminalState = stands_told
    (record { plan = before.plan; memory = memory; ears = common.ears }) b n performed.channel performed.end performed.part performed.done.duty in
    let state_on : state ≡ on =
    state_is ∙ ap (λ (p : TerminalData). stands_told
    (record { plan = p; memory = memory; ears = common.ears }) b n performed.channel performed.end performed.part performed.done.duty) plan in
    let stands : StateStands k terminal loads on (now ∷ past) left =
    acted k terminal loads before memory common.ears past now s order performed b n st is (after_now ∙ ap suc here) done heard
    (newer left heard (sym done.channel) (sym done.end)) in
    let channel : performed.channel ≡ channel_of s (order_now k terminal (now ∷ past) s) =
    done.channel ∙ order-channel s order o ∙ ap (channel_of s) (sym is) in
    let told : TakenIs (event_told tick performed.channel performed.done.taken) tick performed.channel o.taken = event-taken tick performed.channel
    performed.done.taken o.taken done.done.taken in
    let told_here : TakenIs (event_told tick performed.channel performed.done.taken) (length past) (channel_of s (order_now k terminal
    (now ∷ past) s)) o.taken =
    subst (λ (c : Channel). TakenIs (event_told tick performed.channel performed.done.taken) (length past) c o.taken) channel
    (subst (λ (t : ℕ). TakenIs (event_told tick performed.channel performed.done.taken) t performed.channel o.taken) here told) in
    record {
      state = subst (λ (left : Standing). StateStands k terminal loads state (now ∷ past) left) (sym (tick-is k terminal loads before past now s order st is))
          (subst (λ (t : TerminalState). StateStands k terminal loads t (now ∷ past) left) (sym state_on) stands);
      taken = subst (λ (t : Option orders.Taken). TakenIs event (length past) (channel_of s (order_now k terminal (now ∷ past) s)) t)
          (sym (taken-is k terminal loads before past now s order st is))
          (subst (λ (e : TerminalEvent). TakenIs e (length past) (channel_of s (order_now k terminal (now ∷ past) s)) o.taken) (sym event_is) told_here);
      accepted = subst (λ (e : TerminalEvent). AcceptedIs e None) (sym event_is) (orders-silent tick performed.channel performed.done.taken);
    }
