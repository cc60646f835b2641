use Rattle.std.proofs.Common.{◌∙◌, sym, [], arith}
use Rattle.bus_line.specs.declared.cutter.TheConstants.{LAG}
use Rattle.bus_load.specs.InTime.{with_faults}
use Rattle.bus_load.proofs.Verdicts.{long-starts, short-starts}
use Rattle.bus_load.proofs.fits.verdict.Goals as goal

pub returns : goal.returns
returns c = record {
  value = c.verdict_of.ensures;
  long = λ is faults accepted. long-starts LAG (with_faults faults c.args.plan.now) [] (omega arith) accepted c.requires.no_offer (sym c.verdict_of.ensures ∙ is);
  short = λ is faults accepted brief.
      short-starts LAG (with_faults faults c.args.plan.now) [] (omega arith) accepted c.requires.no_offer (sym c.verdict_of.ensures ∙ is) brief;
}
