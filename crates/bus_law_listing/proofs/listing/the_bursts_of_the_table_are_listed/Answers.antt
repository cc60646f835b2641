use Rattle.bus_law_listing.proofs.Found.{listed-bursts}
use Rattle.bus_law_listing.proofs.listing.the_bursts_of_the_table_are_listed.Goals as goal

pub returns : goal.returns
returns c = listed-bursts
