use Rattle.std.proofs.Common.{[], ap, arith, length, refl, subst}
use Rattle.bus_formats.specs.Plans.{PlanData}
use Rattle.bus_run.specs.Joined.{JoinedStands}
use Rattle.bus_run.specs.Settings.{unserved}
use Rattle.bus_run.specs.StationRows.{RowKeeps}
use Rattle.bus_run.proofs.JoinedLaws.{none-have-objects}
use Rattle.bus_run.proofs.joined.JoinedBus.prepare.Goals as goal

pub returns : goal.returns
unfolding JoinedStands
returns c =
    let most = c.most_attempts-most_attempts.ensures.value in
    record {
      row = subst (λ n. RowKeeps n (unserved c.args.plan.now) [] 0 c.in_ok-row.row []) most
          (c.in_ok-row.ensures (unserved c.args.plan.now) refl refl refl refl
          (none-have-objects c.args.plan.now c.in_ok-places.places.items c.len.result c.in_ok-places.ensures
          (let long = c.len.ensures in let same = ap (λ (p : PlanData). length p.stations) c.plan.view_is in omega (arith, long, same))));
      wire = c.in_ok-wire.ensures;
      unserved = refl;
      ticks_are = refl;
      driven_are = refl;
      most_attempts_are = most;
    }
