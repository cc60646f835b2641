use Rattle.std.proofs.Common.{◌∙◌, ap, arith, length, sym, subst}
use Rattle.std.proofs.Common.{true}
use Rattle.std.proofs.lemmas.List.{length-replicate}
use Rattle.bus_formats.specs.Plans.{PlanData}
use Rattle.bus_run.specs.Parts.{StationsBegin}
use Rattle.bus_run.proofs.RowLaws.{all-here}
use Rattle.bus_run.proofs.prepare.row_with.Goals as goal

pub returns : goal.returns
returns c = λ w plan loads outside absent objects.
    let all = c.in_ok-stations.ensures.all in
    let room = c.in_ok-attempts.ensures.capacity in
    let taken = c.in_ok-taken.ensures.capacity in
    let few = c.requires.few in
    c.new.ensures c.args.most w loads outside (subst (λ (p : PlanData). StationsBegin p c.in_ok-stations.stations.items) (sym plan) c.in_ok-stations.ensures)
    (c.in_ok-present.ensures ∙ all-here w c.args.plan.now c.len.result plan absent
    (let long = c.len.ensures in let same = ap (λ (p : PlanData). length p.stations) c.plan.view_is in omega (arith, long, same)))
    (omega (arith, all, room, few)) (omega (arith, all, taken, few)) objects

pub new-requires-clause-few : goal.new-requires-clause-few
new-requires-clause-few c =
    let all = c.in_ok-stations.ensures.all in
    let few = c.requires.few in
    omega (arith, all, few)

pub new-requires-clause-present : goal.new-requires-clause-present
new-requires-clause-present c =
    let all = c.in_ok-stations.ensures.all in
    let same = ap length (ap (λ (p : PlanData). p.stations) c.plan.view_is) in
    let long = c.len.ensures in
    let many = ap length c.in_ok-present.ensures ∙ length-replicate c.len.result true in
    omega (arith, long, many, same, all)
