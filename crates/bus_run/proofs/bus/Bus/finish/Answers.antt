use Rattle.std.proofs.Common.{◌≡◌, ◌<◌, suc, true, arith, subst, sym, ◌∙◌, map, []}
use Rattle.std.specs.Prelude.{is_some}
use Rattle.bus_line.specs.declared.cutter.TheConstants.{LAG}
use Rattle.bus_model.specs.World.{world}
use Rattle.bus_law_run.specs.WorldIsRun.{plan_end}
use Rattle.bus_run.specs.Deliveries.{Serves}
use Rattle.bus_run.specs.Stands.{BusStands, shown_in}
use Rattle.bus_run.proofs.FinishLaws.{within-end, still-on, has-ended}
use Rattle.bus_run.proofs.TableDeliveries.{tells-tables}
use Rattle.bus_run.proofs.bus.Bus.finish.Goals as goal

pub ticks-init : goal.ticks-init
ticks-init g c plan t before st serves = (t, st, serves)

pub tick-requires : goal.tick-requires
tick-requires g c =
    let (plan, t, before, st, serves) = c.requires in
    let (u, stands, serving) = c.ticks.invariant plan t before st serves in
    (plan, u, before, stands, serving)

pub ticks-preserved : goal.ticks-preserved
ticks-preserved g c plan t before st serves =
    let (u, stands, serving) = c.ticks.invariant plan t before st serves in
    let some : is_some c.tick.result ≡ true = sym c.is_some.ensures ∙ c.ticks-test.true in
    let on : u < plan_end plan =
    still-on u (plan_end plan) c.tick.result (within-end plan u _ stands) (λ e. (c.tick.ensures.ended plan u stands e).0) some in
    (suc u, (c.tick.ensures.shown plan u stands on).1, c.tick.ensures.serves plan u before stands on serving)

pub ticks-smaller : goal.ticks-smaller
ticks-smaller g c =
    let (within, next) = c.tick.ensures.nearer (sym c.is_some.ensures ∙ c.ticks-test.true) in
    omega (arith, within, next)

pub close-requires : goal.close-requires
close-requires g c =
    let (plan, t, before, st, serves) = c.requires in
    let (u, stands, serving) = c.ticks.invariant plan t before st serves in
    let ended : u ≡ plan_end plan = has-ended u (plan_end plan) c.tick.result (shown_in plan u) (within-end plan u _ stands)
    (λ e. (c.tick.ensures.shown plan u stands e).0) (sym c.is_some.ensures ∙ c.ticks-test.false) in
    (plan, subst (λ n. BusStands plan n c.tick.new.self) ended (subst (λ b. BusStands plan u b) (sym (c.tick.ensures.ended plan u stands ended).1) stands))

pub returns : goal.returns
unfolding BusStands
returns g c plan t before st serves =
    let (u, stands, serving) = c.ticks.invariant plan t before st serves in
    let ended : u ≡ plan_end plan = has-ended u (plan_end plan) c.tick.result (shown_in plan u) (within-end plan u _ stands)
    (λ e. (c.tick.ensures.shown plan u stands e).0) (sym c.is_some.ensures ∙ c.ticks-test.false) in
    let same = c.tick.ensures.ended plan u stands ended in
    let there = subst (λ n. BusStands plan n c.tick.new.self) ended (subst (λ b. BusStands plan u b) (sym same.1) stands) in
    let told = subst (λ v. Serves plan before (world LAG plan [] [] [] u) (map (λ b. (goal.Subsystem-dyn g (b.vtable, b.value)).told b.value) v)
    (map (λ b. (goal.Subsystem-dyn g (b.vtable, b.value)).spare b.value) v)) (sym same.2) serving in
    let whole = subst (λ n. Serves plan before (world LAG plan [] [] [] n)
    (map (λ b. (goal.Subsystem-dyn g (b.vtable, b.value)).told b.value) c.tick.new.subsystems.items)
    (map (λ b. (goal.Subsystem-dyn g (b.vtable, b.value)).spare b.value) c.tick.new.subsystems.items)) ended told in
    (c.close.ensures plan there, tells-tables plan _ before _ _ there.accepted there.row.objects whole, whole)
