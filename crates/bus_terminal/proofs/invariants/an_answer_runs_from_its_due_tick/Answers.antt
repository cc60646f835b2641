use Rattle.std.proofs.Common.{ap, arith}
use Rattle.bus_line.specs.declared.cutter.TheConstants.{LAG}
use Rattle.bus_model.specs.Standing.{is_owed}
use Rattle.bus_terminal.proofs.TickLaws.{answer-runs}
use Rattle.bus_terminal.proofs.invariants.an_answer_runs_from_its_due_tick.Goals as goal

pub returns : goal.returns
returns c = record {
  owes = λ terminal loads state past s st. (ap is_owed st.sends.duty, st.kept);
  due = λ terminal loads state past s st. omega (arith, st.sent);
  runs = λ terminal loads state past s st. answer-runs LAG terminal loads state past s st;
}
