use Rattle.bus_base.specs.declared.samples.Channel.TheVariants.{A, B}
use Rattle.bus_wire.proofs.WireLaws.{follows-silent, follows-drives, follows-fits}
use Rattle.bus_wire.proofs.wire.Wire.follow_station.Goals as goal

pub returns-in-Silent : goal.returns-in-Silent
returns-in-Silent c = λ faults driven drives f here. follows-silent faults driven drives c.args.station c.args.self.now (rw c.in-Silent.is at here) f

pub follow-self-requires-clause-fits : goal.follow-self-requires-clause-fits
follow-self-requires-clause-fits c =
    let (faults, driven, drives, f, here, small) = c.requires.tick in
    rw c.deref.ensures.value (follows-fits faults driven drives c.args.station c.args.self.now A f)

pub follow-self-requires-in-B-clause-fits : goal.follow-self-requires-in-B-clause-fits
follow-self-requires-in-B-clause-fits c =
    let (faults, driven, drives, f, here, small) = c.requires.tick in
    rw c.deref-in-B.ensures.value (follows-fits faults driven drives c.args.station c.args.self.now B f)

pub returns-in-A : goal.returns-in-A
returns-in-A c = λ faults driven drives f here.
    follows-drives faults driven drives c.args.station c.args.self.now A c.in-On.sample c.in-On.part c.in-On.last c.follow-self.new.self c.follow-self.result
    (rw (c.in-On.is, c.in-A.is) at here) (rw c.deref.ensures.value at c.follow-self.ensures) f

pub returns-in-B : goal.returns-in-B
returns-in-B c = λ faults driven drives f here.
    follows-drives faults driven drives c.args.station c.args.self.now B c.in-On.sample c.in-On.part c.in-On.last c.follow-self-in-B.new.self
    c.follow-self-in-B.result
    (rw (c.in-On.is, c.in-B.is) at here) (rw c.deref-in-B.ensures.value at c.follow-self-in-B.ensures) f
