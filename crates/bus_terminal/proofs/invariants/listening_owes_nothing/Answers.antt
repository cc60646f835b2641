use Rattle.bus_line.specs.declared.cutter.TheConstants.{LAG}
use Rattle.bus_terminal.proofs.TickLaws.{rests-owed}
use Rattle.bus_terminal.proofs.Ticks.{rests-awaits}
use Rattle.bus_terminal.proofs.invariants.listening_owes_nothing.Goals as goal

pub returns : goal.returns
returns c = record {
  answers = λ terminal loads state past s st owed. rests-owed LAG terminal past s s.duty st.rests_now owed;
  promises = λ terminal loads state past s st. rests-awaits LAG terminal past s st.rests_now;
}
