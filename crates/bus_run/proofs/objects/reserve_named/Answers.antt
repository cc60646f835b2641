use Rattle.std.proofs.Common.{◌≤◌, ◌∙◌, ap, arith, map, length, subst, refl}
use Rattle.std.proofs.Math.Seq.{map-set_same}
use Rattle.std.proofs.lemmas.List.{map-set, length-set}
use Rattle.bus_run.proofs.Gathered.{place-within}
use Rattle.bus_run.proofs.Reserved.{reserved-none, reserved-pass, reserved-more}
use Rattle.bus_run.proofs.RoomLaws.{same-room, room-made, room-still}
use Rattle.bus_run.proofs.objects.reserve_named.Goals as goal
use Rattle.bus_run.proofs.objects.reserve_named.Goals.{in-Some+in_ok-reserve, in_default}

pub index_mut-requires : goal.index_mut-requires
index_mut-requires g c =
    let so = c.loop-address.invariant.reserved in
    let high = place-within c.args.named.now so.done c.loop-address.address c.place_of.result _ c.in-Some.kind (omega arith) c.place_of.ensures c.in-Some.is
    so.split c.requires.places in
    let len = c.loop-address.invariant.len in
    omega (arith, high, len)

pub loop-address-init : goal.loop-address-init
loop-address-init g c = record { told = refl; said = refl; spare = same-room _; len = refl; reserved = reserved-none _ _ _ }

pub returns-in_err-reserve-clause-told : goal.returns-in_err-reserve-clause-told
returns-in_err-reserve-clause-told g c =
    map-set_same _ _ _ _ c.index_mut.result.now
    (c.reserve.ensures.told ∙ ap (λ b. (goal.Subsystem-dyn g (b.vtable, b.value)).told b.value) c.index_mut.ensures.value)
    ∙ c.loop-address.invariant.told

pub returns-in_err-reserve-clause-said : goal.returns-in_err-reserve-clause-said
returns-in_err-reserve-clause-said g c =
    map-set_same _ _ _ _ c.index_mut.result.now
    (c.reserve.ensures.said ∙ ap (λ b. (goal.Subsystem-dyn g (b.vtable, b.value)).said b.value) c.index_mut.ensures.value)
    ∙ c.loop-address.invariant.said

pub returns-in_err-reserve-clause-spare : goal.returns-in_err-reserve-clause-spare
returns-in_err-reserve-clause-spare g c =
    room-made (λ b. (goal.Subsystem-dyn g (b.vtable, b.value)).spare b.value) _ _ _ _ c.index_mut.result.now _
    (map-set (λ b. (goal.Subsystem-dyn g (b.vtable, b.value)).spare b.value) _ _ _)
    (subst (λ b. (goal.Subsystem-dyn g (b.vtable, b.value)).spare b.value ≤ (goal.Subsystem-dyn g (c.reserve.new.subsystem.vtable, c.reserve.new.subsystem.value)).spare
    c.reserve.new.subsystem.value) c.index_mut.ensures.value c.reserve.ensures.spare)
    c.loop-address.invariant.spare

pub returns-in_err-reserve-clause-len : goal.returns-in_err-reserve-clause-len
returns-in_err-reserve-clause-len g c = length-set _ _ _ ∙ c.loop-address.invariant.len

pub loop-address-preserved : goal.loop-address-preserved
loop-address-preserved g c =
    elim c.match-named-address.branch [
      | in-Some+in_ok-reserve w ↦ record {
        told = ap (λ v. map (λ b. (goal.Subsystem-dyn g (b.vtable, b.value)).told b.value) v.items) w.subsystems-is
            ∙ map-set_same _ _ _ _ w.index_mut.result.now
            (w.reserve.ensures.told ∙ ap (λ b. (goal.Subsystem-dyn g (b.vtable, b.value)).told b.value) w.index_mut.ensures.value)
            ∙ c.loop-address.invariant.told;
        said = ap (λ v. map (λ b. (goal.Subsystem-dyn g (b.vtable, b.value)).said b.value) v.items) w.subsystems-is
            ∙ map-set_same _ _ _ _ w.index_mut.result.now
            (w.reserve.ensures.said ∙ ap (λ b. (goal.Subsystem-dyn g (b.vtable, b.value)).said b.value) w.index_mut.ensures.value)
            ∙ c.loop-address.invariant.said;
        spare = room-made (λ b. (goal.Subsystem-dyn g (b.vtable, b.value)).spare b.value) _ _ _ _ w.index_mut.result.now _
            (ap (λ v. map (λ b. (goal.Subsystem-dyn g (b.vtable, b.value)).spare b.value) v.items) w.subsystems-is ∙ map-set (λ b. (goal.Subsystem-dyn g (b.vtable, b.value)).spare b.value) _ _ _)
            (subst (λ b. (goal.Subsystem-dyn g (b.vtable, b.value)).spare b.value ≤ (goal.Subsystem-dyn g (w.reserve.new.subsystem.vtable, w.reserve.new.subsystem.value)).spare
            w.reserve.new.subsystem.value) w.index_mut.ensures.value w.reserve.ensures.spare)
            c.loop-address.invariant.spare;
        len = ap (λ v. length v.items) w.subsystems-is ∙ length-set _ _ _ ∙ c.loop-address.invariant.len;
        reserved = reserved-more c.args.n c.args.named.now c.loop-address.address w.place_of.result
            ((goal.Subsystem-dyn g (w.reserve.new.subsystem.vtable, w.reserve.new.subsystem.value)).spare w.reserve.new.subsystem.value) w.in-Some.kind _ _
            (omega arith) w.place_of.ensures w.in-Some.is w.in_ok-reserve.ensures.room
            (ap (λ v. map (λ b. (goal.Subsystem-dyn g (b.vtable, b.value)).spare b.value) v.items) w.subsystems-is
            ∙ map-set (λ b. (goal.Subsystem-dyn g (b.vtable, b.value)).spare b.value) _ _ _)
            c.loop-address.invariant.reserved;
      }
      | in_default w ↦ record {
        told = ap (λ v. map (λ b. (goal.Subsystem-dyn g (b.vtable, b.value)).told b.value) v.items) w.subsystems-is ∙ c.loop-address.invariant.told;
        said = ap (λ v. map (λ b. (goal.Subsystem-dyn g (b.vtable, b.value)).said b.value) v.items) w.subsystems-is ∙ c.loop-address.invariant.said;
        spare = room-still _ _ _ (ap (λ v. map (λ b. (goal.Subsystem-dyn g (b.vtable, b.value)).spare b.value) v.items) w.subsystems-is) c.loop-address.invariant.spare;
        len = ap (λ v. length v.items) w.subsystems-is ∙ c.loop-address.invariant.len;
        reserved = reserved-pass c.args.n c.args.named.now c.loop-address.address _ _ (omega arith) w.in_default.is
            (ap (λ v. map (λ b. (goal.Subsystem-dyn g (b.vtable, b.value)).spare b.value) v.items) w.subsystems-is) c.loop-address.invariant.reserved;
      }
    ]
