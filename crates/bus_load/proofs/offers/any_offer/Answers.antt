use Rattle.std.proofs.Common.{◌∙◌, sym}
use Rattle.bus_load.proofs.NoOffers.{none-first}
use Rattle.bus_load.proofs.offers.any_offer.Goals as goal

pub returns : goal.returns
returns c = record {
  value = c.first_among.ensures;
  none = λ is. none-first c.args.plan.now (sym c.first_among.ensures ∙ is);
}
