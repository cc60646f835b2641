use Rattle.bus_law_parts.proofs.Fits.{hits-fit}
use Rattle.bus_law_parts.proofs.fitting.the_hits_of_a_plan_fit.Goals as goal

pub returns : goal.returns
returns c = hits-fit
