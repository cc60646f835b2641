use Rattle.std.proofs.Common.{[], length, arith, ap, ◌∙◌, sym}
use Rattle.bus_line.specs.declared.cutter.TheConstants.{LAG}
use Rattle.bus_model.specs.World.{Trace, world, trace}
use Rattle.bus_model.specs.WorldLog.{attempts}
use Rattle.bus_run.specs.Deliveries.{taken_in}
use Rattle.bus_bridge.specs.Runs.{with_loads}
use Rattle.bus_bridge.proofs.Ticks.{world-long, trace-next, runs-more}
use Rattle.bus_bridge.proofs.handing.next_tick.Goals as goal

pub tick-requires : goal.tick-requires
tick-requires c =
    let (plan, loads, t, runs, room) = c.requires in (
      with_loads plan loads,
      attempts LAG plan loads [] [] (world LAG plan loads [] [] t),
      runs.0,
      trace LAG plan loads [] [] t,
      runs.1,
      room.attempts_few,
      (let long = world-long plan loads t in let small = room.small in omega (arith, long, small)),
    )

pub returns-clause-stands : goal.returns-clause-stands
returns-clause-stands c plan loads t runs =
    runs-more plan loads t _ _
    (c.tick.ensures.stands (with_loads plan loads) (attempts LAG plan loads [] [] (world LAG plan loads [] [] t)) runs.0 (trace LAG plan loads [] [] t) runs.1)

pub returns-clause-taken : goal.returns-clause-taken
returns-clause-taken c plan loads t runs =
    c.tick.ensures.taken (with_loads plan loads) (attempts LAG plan loads [] [] (world LAG plan loads [] [] t)) runs.0 (trace LAG plan loads [] [] t) runs.1
    ∙ ap (λ (tr : Trace). taken_in (with_loads plan loads) tr.shown) (sym (trace-next plan loads t))
