-- What an answer to a benchmark shows, from what its parts show.
use Rattle.std.proofs.Common.{◌≡◌, ℕ, ◌≤◌, List, Option, Some, None, refl, inl, inr, arith}
use Rattle.bus_bench.specs.Generated.{bench_plan}
use Rattle.bus_bench.proofs.Accepted.{plan-accepted}
use Rattle.bus_line.specs.declared.cutter.TheConstants.{LAG}
use Rattle.bus_model.specs.Log.{run_log}
use Rattle.bus_run.specs.declared.finished.FinishedBus.{FinishedBus}
use Rattle.bus_tool.specs.Answers.{Wrote}
use Rattle.bus_tool.specs.EndsBench.{AnswersBench, bench_text}
use Rattle.bus_tool.proofs.Ending.{zero-or-one, status-few}
use Rattle.bus_tool.proofs.TablesRun.{each-run}

module _ (held0 held1 : Option (List ℕ)) (sink0 sink1 : ℕ) (status : ℕ) (bus : Option FinishedBus) (number items : ℕ) (later : sink0 ≤ sink1) where
  -- a run was made, and its line or a front of it was written
  pub bench-ran : items ≤ 4096 → Wrote held0 held1 sink0 sink1 status bus (bench_text number items) (bench_plan number items) →
      AnswersBench held0 held1 sink0 sink1 status bus number items
  bench-ran few (inl wrote) =
      let is = wrote.status_is in
      let low = status-few (run_log LAG (bench_plan number items)) in
      let within : status ≤ 1 = omega (arith, is, low) in
      record {
        range = omega (arith, within);
        later_sink = later;
        ran = λ _. record {
          left = wrote.left;
          has = wrote.has;
          stands = wrote.stands;
          status_is = wrote.status_is;
          written = wrote.written;
          tables = each-run (bench_plan number items) (plan-accepted number items few);
        };
        no_bus = λ s. absurd (omega (arith, s, within));
        meant = λ s. omega (arith, s, within);
        refused = λ s. omega (arith, s, within);
        read_fault = λ s. omega (arith, s, within);
        write_fault = λ s. absurd (omega (arith, s, within));
        memory = λ s. absurd (omega (arith, s, within));
        complete = λ _. zero-or-one status within;
      }
  bench-ran few (inr front) =
      let is = front.status_is in
      record {
        range = omega (arith, is);
        later_sink = later;
        ran = λ s. absurd (omega (arith, s, is));
        no_bus = λ _. front.no_bus;
        meant = λ s. omega (arith, s, is);
        refused = λ s. omega (arith, s, is);
        read_fault = λ s. omega (arith, s, is);
        write_fault = λ _. (front.failed, front.front);
        memory = λ s. absurd (omega (arith, s, is));
        complete = λ fine. absurd (fine front.failed);
      }

-- memory was wanting
pub bench-wanted : (held : Option (List ℕ)) (sink number items : ℕ) → AnswersBench held held sink sink 6 None number items
bench-wanted held sink number items = record {
  range = omega arith;
  later_sink = omega arith;
  ran = λ s. absurd (omega (arith, s));
  no_bus = λ _. refl;
  meant = λ s. omega (arith, s);
  refused = λ s. omega (arith, s);
  read_fault = λ s. omega (arith, s);
  write_fault = λ s. absurd (omega (arith, s));
  memory = λ _. refl;
  complete = λ _. inr (inr refl);
}
