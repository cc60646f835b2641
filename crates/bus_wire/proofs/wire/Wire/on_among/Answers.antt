use Rattle.std.proofs.Common.{arith}
use Rattle.bus_base.specs.declared.samples.Channel.TheVariants.{A, B}
use Rattle.bus_wire.specs.WireStands.{WireStands}
use Rattle.bus_wire.proofs.wire.Wire.on_among.Goals as goal

pub overflow_sub-tick : goal.overflow_sub-tick
unfolding WireStands
overflow_sub-tick c = omega (arith, c.requires.stands.2.next)

pub shown_among-requires-clause-stands : goal.shown_among-requires-clause-stands
unfolding WireStands
shown_among-requires-clause-stands c =
    let (faults, before, st) = c.requires.stands in
    (before, rw (c.in-A.is, c.deref.ensures.value, st.faults_are) (st.sides A), omega (arith, st.next), rw (c.in-A.is, c.driven.ensures) (st.sides B).driven_is)

pub shown_among-requires-in-B-clause-stands : goal.shown_among-requires-in-B-clause-stands
unfolding WireStands
shown_among-requires-in-B-clause-stands c =
    let (faults, before, st) = c.requires.stands in (
      before,
      rw (c.in-B.is, c.deref-in-B.ensures.value, st.faults_are) (st.sides B),
      omega (arith, st.next),
      rw (c.in-B.is, c.driven-in-B.ensures)
          (st.sides A).driven_is,
    )

pub returns-in-A : goal.returns-in-A
unfolding WireStands
returns-in-A c = λ faults before st.
    rw (c.deref.ensures.value, st.faults_are) at (c.shown_among.ensures before (rw (c.in-A.is, c.deref.ensures.value, st.faults_are) (st.sides A)) (omega
    (arith, st.next))
    (rw (c.in-A.is, c.driven.ensures) (st.sides B).driven_is))

pub returns-in-B : goal.returns-in-B
unfolding WireStands
returns-in-B c = λ faults before st.
    rw (c.deref-in-B.ensures.value, st.faults_are) at (c.shown_among-in-B.ensures before (rw (c.in-B.is, c.deref-in-B.ensures.value, st.faults_are) (st.sides B))
    (omega (arith, st.next))
    (rw (c.in-B.is, c.driven-in-B.ensures) (st.sides A).driven_is))
