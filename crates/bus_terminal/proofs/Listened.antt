-- A terminal that owes nothing hears a tick.
use Rattle.std.proofs.Common.{◌≡◌, ℕ, ◌^◌, ◌<◌, ◌≤◌, ◌∙◌, false, List, ◌∷◌, length, Some, None, refl, sym, subst, arith}
use Rattle.bus_formats.specs.Plans.{TerminalData}
use Rattle.bus_model.specs.Memory.{Memory, TimedLoad}
use Rattle.bus_model.specs.Hearing.{Moment}
use Rattle.bus_model.specs.Standing.{Standing, Handled}
use Rattle.bus_model.specs.Terminal.{marked_by, order_now}
use Rattle.bus_terminal.specs.Holding.{EarsStand, AreListened}
use Rattle.bus_terminal.specs.Hearing.{HasListened}
use Rattle.bus_terminal.specs.Handling.{HandledIs, AreHandled, EndFits, handled_told, Awaits}
use Rattle.bus_terminal.specs.Stands.{CommonStands, ListeningStands, NextStands, StateStands}
use Rattle.bus_terminal.specs.declared.common.Common.{Common}
use Rattle.bus_terminal.specs.declared.common.Listened.{Listened}
use Rattle.bus_terminal.specs.declared.handling.Handled.{Handled as HandledTold}
use Rattle.bus_terminal.specs.declared.listening.Listening.{Listening}
use Rattle.bus_terminal.specs.declared.state.TerminalState.{TerminalState}
use Rattle.bus_terminal.specs.declared.state.TerminalState.TheVariants as states
use Rattle.bus_terminal.specs.declared.state.TerminalEvent.TheVariants as events
use Rattle.bus_terminal.proofs.Found.{all-found}
use Rattle.bus_terminal.proofs.Ends.{now-ends}
use Rattle.bus_terminal.proofs.Ticks.{tick-none, taken-none, common-same, rests-stays, rests-awaits, none-out, handled-fits}

-- what is found without a promise
pub found-free : (k : ℕ) (terminal : TerminalData) (past : List Moment) (now : Moment) (s : Standing) (heard : Listened) → Awaits k None s →
    AreListened k terminal.address heard (now ∷ past) past s → AreHandled (handled_told heard None false) (order_now k terminal (now ∷ past) s) s
found-free k terminal past now s heard awaits told =
    all-found k terminal past now s heard None false told awaits (none-out k terminal (now ∷ past) s awaits)

pub rests-heard : (k : ℕ) (terminal : TerminalData) (loads : List TimedLoad) (state : Listening) (past : List Moment) (now : Moment) (s : Standing)
    (heard : Listened) →
    ListeningStands k terminal loads state past s → AreListened k terminal.address heard (now ∷ past) past s →
    AreHandled (handled_told heard None false) (order_now k terminal (now ∷ past) s) s
rests-heard k terminal loads state past now s heard st told = found-free k terminal past now s heard (rests-awaits k terminal past s st.rests_now) told

pub fits-of : (k : ℕ) (terminal : TerminalData) (loads : List TimedLoad) (common : Common) (past : List Moment) (now : Moment) (s : Standing)
    (handled : HandledTold) (order : Handled) (n : ℕ) →
    CommonStands k terminal loads common past s → length past ≡ n → n < 2 ^ 60 → order_now k terminal (now ∷ past) s ≡ Some order →
    HandledIs handled order s → EndFits handled
fits-of k terminal loads common past now s handled order n st here small is handled_is =
    handled-fits k (now ∷ past) s handled order handled_is (now-ends k terminal now past s order is) (omega (arith, st.ended, here, small)) (omega
    (arith, here, small))

-- the terminal's address, after the ears have heard the tick
pub address-of : (k : ℕ) (terminal : TerminalData) (loads : List TimedLoad) (before common : Common) (past : List Moment) (now : Moment) (s : Standing) →
    CommonStands k terminal loads before past s → HasListened k terminal before common past now s → common.plan.address ≤ 31
address-of k terminal loads before common past now s st listened =
    subst (λ (p : TerminalData). p.address ≤ 31) (sym (listened.plan ∙ st.plan)) st.fits.address

-- a state after a tick without an order, by its parts
pub none-next : (k : ℕ) (terminal : TerminalData) (loads : List TimedLoad) (state : TerminalState) (past : List Moment) (now : Moment) (s : Standing) →
    order_now k terminal (now ∷ past) s ≡ None → StateStands k terminal loads state (now ∷ past) (marked_by k terminal now past s s) →
    NextStands k terminal loads (record { state = state; event = events.Nothing }) past now s None
none-next k terminal loads state past now s none stands = record {
  state = subst (λ (left : Standing). StateStands k terminal loads state (now ∷ past) left) (sym (tick-none k terminal loads past now s none)) stands;
  taken = taken-none k terminal loads past now s none;
  accepted = refl;
}

-- what is common, where plan and memory are as before
pub common-kept : (k : ℕ) (terminal : TerminalData) (loads : List TimedLoad) (before common : Common) (past : List Moment) (now : Moment) (s : Standing) →
    CommonStands k terminal loads before past s → common.plan ≡ before.plan → common.memory ≡ before.memory →
    EarsStand k terminal.address common.ears (now ∷ past) (marked_by k terminal now past s s) →
    CommonStands k terminal loads common (now ∷ past) (marked_by k terminal now past s s)
common-kept k terminal loads before common past now s st plan memory hear =
    let left : Standing = marked_by k terminal now past s s in
    let first : CommonStands k terminal loads (record { plan = before.plan; memory = before.memory; ears = common.ears }) (now ∷ past) left =
    common-same k terminal loads before common.ears past now s st hear in
    subst (λ (m : Memory). CommonStands k terminal loads (record { plan = common.plan; memory = m; ears = common.ears }) (now ∷ past) left) (sym memory)
    (subst (λ (p : TerminalData). CommonStands k terminal loads (record { plan = p; memory = before.memory; ears = common.ears }) (now ∷ past) left)
    (sym plan) first)

pub rests-none : (k : ℕ) (terminal : TerminalData) (loads : List TimedLoad) (state : Listening) (common : Common) (past : List Moment) (now : Moment)
    (s : Standing) →
    ListeningStands k terminal loads state past s → order_now k terminal (now ∷ past) s ≡ None → common.plan ≡ state.common.plan →
    common.memory ≡ state.common.memory →
    EarsStand k terminal.address common.ears (now ∷ past) (marked_by k terminal now past s s) →
    NextStands k terminal loads (record { state = states.Listening record { common = common }; event = events.Nothing }) past now s None
rests-none k terminal loads state common past now s st none plan memory hear =
    none-next k terminal loads (states.Listening record { common = common }) past now s none record {
      common = common-kept k terminal loads state.common common past now s st.common plan memory hear;
      rests_now = rests-stays k terminal.address terminal state.common.ears now past s s.duty st.common.ears st.rests_now;
    }
