use Rattle.std.proofs.Common.{◌≡◌, ◌*◌, ◌+◌, [], ◌∙◌, ap, arith, map, sym, subst, refl, ℕ}
use Rattle.bus_run.specs.Amounts.{most_attempts, most_words, most_bursts}
use Rattle.bus_run.specs.StationRows.{RowStands}
use Rattle.bus_run.specs.Monitors.{MonitorStands}
use Rattle.bus_run.specs.Parts.{DrivenWireStands}
use Rattle.bus_run.specs.Stands.{BusStands}
use Rattle.bus_run.proofs.BusLaws.{world-none, driven-none}
use Rattle.bus_formats.specs.Plans.{PlanData}
use Rattle.bus_run.specs.Kept.{named_in}
use Rattle.bus_run.proofs.PickedLaws.{places-given, picked-places, picked-serves}
use Rattle.bus_run.proofs.RoomLaws.{err-same-room}
use Rattle.bus_run.proofs.bus.Bus.prepare.Goals as goal

pub reserve_named-requires-clause-places : goal.reserve_named-requires-clause-places
reserve_named-requires-clause-places g c =
    let named : c.named_in-named.result ≡ named_in c.args.plan.now.stations =
    c.named_in-named.ensures ∙ ap named_in (c.as_slice.ensures.value ∙ ap (λ (p : PlanData). p.stations) c.plan.view_is) in
    places-given c.args.plan.now c.named_in-named.result _ _ named refl c.requires.places

pub keep_named-requires-clause-places : goal.keep_named-requires-clause-places
keep_named-requires-clause-places g c =
    let named : c.named_in-named.result ≡ named_in c.args.plan.now.stations =
    c.named_in-named.ensures ∙ ap named_in (c.as_slice.ensures.value ∙ ap (λ (p : PlanData). p.stations) c.plan.view_is) in
    places-given c.args.plan.now c.named_in-named.result _ _ named c.reserve_named.ensures.len c.requires.places

pub returns-clause-bus : goal.returns-clause-bus
unfolding BusStands
returns-clause-bus g c =
    let most = c.most_attempts-most_attempts.ensures.value in
    let none = sym (world-none c.args.plan.now) in
    record {
      accepted = c.requires.accepted;
      within = omega arith;
      row = subst (λ past. RowStands (most_attempts c.args.plan.now) c.args.plan.now c.in_ok-row.row past) none
          (subst (λ n. RowStands n c.args.plan.now c.in_ok-row.row []) most c.in_ok-row.ensures);
      wire = subst (λ driven. DrivenWireStands c.args.plan.now c.in_ok-wire.wire driven) (sym (driven-none c.args.plan.now)) c.in_ok-wire.ensures;
      monitor = subst (λ past. MonitorStands (most_words c.args.plan.now) (most_bursts c.args.plan.now) c.in_ok-monitor.monitor past) none
          (subst (λ (n : ℕ). MonitorStands (120 * n) (3 * n) c.in_ok-monitor.monitor []) most c.in_ok-monitor.ensures);
      ends = c.in_ok-ends.ensures;
      ticks_are = refl;
    }

pub returns-clause-told : goal.returns-clause-told
returns-clause-told g c =
    let named : c.named_in-named.result ≡ named_in c.args.plan.now.stations =
    c.named_in-named.ensures ∙ ap named_in (c.as_slice.ensures.value ∙ ap (λ (p : PlanData). p.stations) c.plan.view_is) in
    picked-places (λ b. (goal.Subsystem-dyn g (b.vtable, b.value)).told b.value) c.reserve_named.new.subsystems.items c.keep_named.new.subsystems.items _
    c.args.plan.now c.named_in-named.result named c.reserve_named.ensures.told c.keep_named.ensures

pub returns-clause-said : goal.returns-clause-said
returns-clause-said g c =
    let named : c.named_in-named.result ≡ named_in c.args.plan.now.stations =
    c.named_in-named.ensures ∙ ap named_in (c.as_slice.ensures.value ∙ ap (λ (p : PlanData). p.stations) c.plan.view_is) in
    picked-places (λ b. (goal.Subsystem-dyn g (b.vtable, b.value)).said b.value) c.reserve_named.new.subsystems.items c.keep_named.new.subsystems.items _
    c.args.plan.now c.named_in-named.result named c.reserve_named.ensures.said c.keep_named.ensures

pub returns-clause-serves : goal.returns-clause-serves
returns-clause-serves g c =
    let named : c.named_in-named.result ≡ named_in c.args.plan.now.stations =
    c.named_in-named.ensures ∙ ap named_in (c.as_slice.ensures.value ∙ ap (λ (p : PlanData). p.stations) c.plan.view_is) in
    let most = c.most_attempts-most_attempts.ensures.value in
    picked-serves (λ b. (goal.Subsystem-dyn g (b.vtable, b.value)).told b.value) (λ b. (goal.Subsystem-dyn g (b.vtable, b.value)).spare b.value)
    c.reserve_named.new.subsystems.items c.keep_named.new.subsystems.items c.args.plan.now c.named_in-named.result
    (3 * c.most_attempts-most_attempts.result + 1) named c.keep_named.ensures c.in_ok-reserve_named.ensures.room (omega (arith, most))

pub returns-in_err-row-clause-room_still : goal.returns-in_err-row-clause-room_still
returns-in_err-row-clause-room_still g c =
    err-same-room _ (map (λ b. (goal.Subsystem-dyn g (b.vtable, b.value)).spare b.value) c.args.subsystems.now.items)

pub returns-in_err-wire-clause-room_still : goal.returns-in_err-wire-clause-room_still
returns-in_err-wire-clause-room_still g c =
    err-same-room _ (map (λ b. (goal.Subsystem-dyn g (b.vtable, b.value)).spare b.value) c.args.subsystems.now.items)

pub returns-in_err-monitor-clause-room_still : goal.returns-in_err-monitor-clause-room_still
returns-in_err-monitor-clause-room_still g c =
    err-same-room _ (map (λ b. (goal.Subsystem-dyn g (b.vtable, b.value)).spare b.value) c.args.subsystems.now.items)

pub returns-in_err-ends-clause-room_still : goal.returns-in_err-ends-clause-room_still
returns-in_err-ends-clause-room_still g c =
    err-same-room _ (map (λ b. (goal.Subsystem-dyn g (b.vtable, b.value)).spare b.value) c.args.subsystems.now.items)
