use Rattle.bus_wire.proofs.wire.Wire.show_among.Goals as goal

pub returns-in-Some-clause-pair : goal.returns-in-Some-clause-pair
returns-in-Some-clause-pair c = λ faults driven st. (c.show_only.ensures.shows faults driven c.in-Some.shown c.in-Some.is st).pair

pub returns-in-Some-clause-drivers : goal.returns-in-Some-clause-drivers
returns-in-Some-clause-drivers c = λ faults driven st. (c.show_only.ensures.shows faults driven c.in-Some.shown c.in-Some.is st).drivers
