use Rattle.bus_rules.proofs.NamedLaws.{words-named, longs-named, unknowns-named}
use Rattle.bus_rules.proofs.laws.the_listing_tells_which_bursts_are_breaches.Goals as goal

pub returns-clause-words : goal.returns-clause-words
returns-clause-words c k ch past = words-named k ch past

pub returns-clause-longs : goal.returns-clause-longs
returns-clause-longs c k ch past = longs-named k ch past

pub returns-clause-unknowns : goal.returns-clause-unknowns
returns-clause-unknowns c k ch past short = unknowns-named k ch past short
