use Rattle.bus_law_listing.proofs.Words.{listed-words}
use Rattle.bus_law_listing.proofs.listing.the_words_of_the_table_are_listed.Goals as goal

pub returns : goal.returns
returns c = λ k past bs small found rests. listed-words k past bs found small rests
