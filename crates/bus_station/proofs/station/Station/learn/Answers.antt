use Rattle.std.proofs.Common.{refl, ap}
use Rattle.bus_line.specs.declared.cutter.TheConstants.{LAG}
use Rattle.bus_station.specs.declared.station.Station.{Station}
use Rattle.bus_station.proofs.Listening.{step-hears, told-step}
use Rattle.bus_station.proofs.Noticing.{forgotten, notices-newest}
use Rattle.bus_station.proofs.station.Station.learn.Goals as goal

pub step-requires : goal.step-requires
step-requires c =
    let (plan, starts, loads, outside, past, before, after, st, in_step, next, small) = c.requires in (
      plan,
      starts,
      loads,
      outside,
      past,
      before,
      after,
      forgotten LAG plan starts loads outside c.args.self.now _ past c.forget.ensures st,
      step-hears LAG plan starts loads outside c.forget.new.self before past
          (told-step LAG plan starts loads outside c.args.self.now c.forget.new.self before past (ap (λ (s : Station). s.terminal) c.forget.ensures)
          (ap (λ (s : Station). s.alone) c.forget.ensures) in_step),
      next,
      small,
    )

pub returns-clause-notices : goal.returns-clause-notices
returns-clause-notices c = λ plan starts loads outside past before after st in_step next.
    notices-newest LAG plan starts loads outside c.forget.new.self _ c.step.result c.args.moment.now.shown past
    (ap (λ (s : Station). s.event) c.forget.ensures)
    (c.step.ensures.tick plan starts loads outside past before after
    (forgotten LAG plan starts loads outside c.args.self.now _ past c.forget.ensures st)
    (step-hears LAG plan starts loads outside c.forget.new.self before past
    (told-step LAG plan starts loads outside c.args.self.now c.forget.new.self before past (ap (λ (s : Station). s.terminal) c.forget.ensures)
    (ap (λ (s : Station). s.alone) c.forget.ensures) in_step)) next)
    c.step.ensures.some c.step.ensures.none

pub returns-clause-hears : goal.returns-clause-hears
returns-clause-hears c = λ plan starts loads outside past before after st in_step next.
    c.step.ensures.in_step plan starts loads outside past before after
    (forgotten LAG plan starts loads outside c.args.self.now _ past c.forget.ensures st)
    (step-hears LAG plan starts loads outside c.forget.new.self before past
    (told-step LAG plan starts loads outside c.args.self.now c.forget.new.self before past (ap (λ (s : Station). s.terminal) c.forget.ensures)
    (ap (λ (s : Station). s.alone) c.forget.ensures) in_step)) next refl
