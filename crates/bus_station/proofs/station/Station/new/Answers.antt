use Rattle.std.proofs.Common.{refl, sym, ap}
use Rattle.bus_line.specs.declared.cutter.TheConstants.{LAG}
use Rattle.bus_formats.specs.Plans.{StationData, TerminalData}
use Rattle.bus_station.proofs.Starting.{begins}
use Rattle.bus_station.proofs.station.Station.new.Goals as goal

pub returns-clause-stands : goal.returns-clause-stands
returns-clause-stands c =
    begins LAG c.args.plan c.args.starts _ c.plan.inside.terminal (ap (λ (s : StationData). s.terminal) c.plan.view_is)
    (ap (λ (t : TerminalData). t.address) c.terminal.view_is)
    (c.controller_with.ensures c.args.plan (c.new-agenda.ensures.whole c.args.plan
    (sym (ap (λ (s : StationData). s.frames) c.plan.view_is)) (sym (ap (λ (s : StationData). s.repeat) c.plan.view_is))
    (sym (ap (λ (s : StationData). s.channel) c.plan.view_is))))
    (c.new.ensures 0) refl
