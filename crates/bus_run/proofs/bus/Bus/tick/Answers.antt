use Rattle.std.proofs.Common.{sym, ◌∙◌, arith}
use Rattle.bus_run.specs.Stands.{BusStands}
use Rattle.bus_run.proofs.TableRun.{of-plan, goes-on, over-there, on-before}
use Rattle.bus_run.proofs.bus.Bus.tick.Goals as goal

pub is_over-requires : goal.is_over-requires
is_over-requires g c =
    let (plan, t, before, st, serves) = c.requires in
    (plan, t, st)

pub returns-then-is_over-clause-shown : goal.returns-then-is_over-clause-shown
unfolding BusStands
returns-then-is_over-clause-shown g c plan t st early =
    let there = over-there plan st.accepted t st.within (sym (c.is_over.ensures plan t st) ∙ c.if-is_over.true) in
    absurd (omega (arith, there, early))

pub returns-then-is_over-clause-orderly : goal.returns-then-is_over-clause-orderly
unfolding BusStands
returns-then-is_over-clause-orderly g c plan t st early = (of-plan plan st.accepted).orderly t early

pub returns-then-is_over-clause-serves : goal.returns-then-is_over-clause-serves
unfolding BusStands
returns-then-is_over-clause-serves g c plan t before st early serves =
    let there = over-there plan st.accepted t st.within (sym (c.is_over.ensures plan t st) ∙ c.if-is_over.true) in
    absurd (omega (arith, there, early))

pub step-requires : goal.step-requires
unfolding BusStands
step-requires g c =
    let (plan, t, before, st, serves) = c.requires in
    (plan, t, before, st, on-before plan st.accepted t st.within (sym (c.is_over.ensures plan t st) ∙ c.if-is_over.false), serves)

pub returns-clause-ended : goal.returns-clause-ended
unfolding BusStands
returns-clause-ended g c plan t st there =
    let early = on-before plan st.accepted t st.within (sym (c.is_over.ensures plan t st) ∙ c.if-is_over.false) in
    absurd (omega (arith, there, early))

pub returns-clause-orderly : goal.returns-clause-orderly
unfolding BusStands
returns-clause-orderly g c plan t st early = (of-plan plan st.accepted).orderly t early

pub returns-clause-nearer : goal.returns-clause-nearer
unfolding BusStands
returns-clause-nearer g c some =
    let (plan, t, before, st, serves) = c.requires in
    let small = (goes-on plan st.accepted t st.within).small in
    let ticks = st.ticks_are in
    (omega (arith, small, ticks), c.step.ensures.ticks)
