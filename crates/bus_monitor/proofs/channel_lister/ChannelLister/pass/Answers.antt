use Rattle.std.proofs.Common.{reverse}
use Rattle.bus_planes.specs.Still.{samples_in}
use Rattle.bus_monitor.proofs.StayLaws.{Stays, stays, long-shown}
use Rattle.bus_monitor.proofs.channel_lister.ChannelLister.pass.Goals as goal

pub pass-requires-clause-past : goal.pass-requires-clause-past
pass-requires-clause-past c = (c.requires.past.0, c.requires.past.1.cutter)

pub returns-clause-stands : goal.returns-clause-stands
returns-clause-stands c past s time =
    let xs = reverse (samples_in c.args.heard c.args.plus c.args.ticks) in
    let on : Stays c.args.self.now xs past = stays c.args.self.now xs past c.args.ticks s (c.pass.ensures.tells past s.cutter) time (long-shown c.args.heard c.args.plus c.args.ticks) in
    record { cutter = c.pass.ensures.stands past s.cutter; running = on.running; slots = on.slots; waiting = on.waiting }

pub returns-clause-closes : goal.returns-clause-closes
returns-clause-closes c past s time =
    let xs = reverse (samples_in c.args.heard c.args.plus c.args.ticks) in
    let on : Stays c.args.self.now xs past = stays c.args.self.now xs past c.args.ticks s (c.pass.ensures.tells past s.cutter) time (long-shown c.args.heard c.args.plus c.args.ticks) in
    on.closes
