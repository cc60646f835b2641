use Rattle.std.proofs.Common.{sym, subst, [], arith}
use Rattle.bus_line.specs.declared.cutter.TheConstants.{LAG}
use Rattle.bus_load.specs.InTime.{with_faults}
use Rattle.bus_load.specs.Living.{IsAlwaysContinued}
use Rattle.bus_load.specs.Load.{starting}
use Rattle.bus_load.proofs.Continued.{always-of, beyond}
use Rattle.bus_model.specs.Outside.{silence, longest_quiet, entries_of}
use Rattle.bus_load.proofs.silences.silence.Goals as goal

pub returns : goal.returns
unfolding silence
returns c = record {
  value = c.silence_of.ensures;
  lives = λ none faults accepted.
      subst (IsAlwaysContinued LAG [] (with_faults faults c.args.plan.now)) (sym (beyond (longest_quiet (entries_of (starting c.args.plan.now))) _ c.silence_of.ensures))
      (always-of LAG (with_faults faults c.args.plan.now) [] (omega arith) accepted none);
}
