use Rattle.bus_monitor.proofs.list.list.Goals as goal

pub returns-clause-listed : goal.returns-clause-listed
returns-clause-listed g c = c.list_by-listing.ensures.listed.listed
