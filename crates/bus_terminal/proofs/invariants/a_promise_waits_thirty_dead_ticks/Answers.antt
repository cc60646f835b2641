use Rattle.bus_line.specs.declared.cutter.TheConstants.{LAG}
use Rattle.bus_terminal.proofs.TickLaws.{waits-or-awaited}
use Rattle.bus_terminal.proofs.Awaited.{promised-here}
use Rattle.bus_terminal.proofs.invariants.a_promise_waits_thirty_dead_ticks.Goals as goal

pub returns : goal.returns
returns c = record {
  promises = λ terminal loads state past s st. promised-here LAG state.waiting s (st.waiting, st.fresh);
  waits = λ terminal loads state past s st. waits-or-awaited LAG terminal loads state past s st;
}
