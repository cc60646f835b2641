use Rattle.std.proofs.Common.{arith}
use Rattle.std.proofs.lemmas.Bool.Decides.{nat_tests}
use Rattle.std.specs.Prelude.{◌≡◌, nat_lt, false}
use Rattle.bus_phase.proofs.BurstLaws.{first_run, last_run}
use Rattle.bus_phase.proofs.laws.a_burst_begins_and_ends_with_whole_runs.Goals as goal

pub returns : goal.returns
returns c = record {
  begins = first_run;
  ends = λ level other settled since before at waiting sign order few.
      let after : nat_lt at before ≡ false = grind (arith, nat_tests) in
      last_run level other settled since before at waiting sign after few;
}
