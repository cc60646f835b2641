use Rattle.std.proofs.Common.{◌≡◌, ◌+◌, ◌++◌, ◌∷◌, [], set, drop, add-one, ◌∙◌, ap, arith, length, sym, subst, refl, Some, ℕ, List}
use Rattle.std.proofs.lemmas.List.{take_all}
use Rattle.std.proofs.lemmas.Option.{slice_get-get_or, slice_get_read}
use Rattle.bus_wire.specs.Places.{AreRising}
use Rattle.bus_run.specs.Driven.{AreDriven, AreSilentBut}
use Rattle.bus_run.proofs.CalledLaws.{rising-at, rising-to, rising-push}
use Rattle.bus_run.proofs.DrivenLaws.{driven-none, driven-more, rising-next, silent-with, silent-set, off-silent}
use Rattle.bus_wire.proofs.PlaceLaws.{rising-within}
use Rattle.bus_run.proofs.called.drive_called.Goals as goal
use Rattle.bus_run.proofs.called.drive_called.Goals.{then-is_on, else-is_on}

pub loop-place-init : goal.loop-place-init
loop-place-init c =
    let none = ap length c.new-driving.ensures in
    record {
      driven = driven-none c.args.stations.now c.args.drives.now c.requires.all c.requires.silent;
      from = 0;
      rising = subst (λ (ps : List ℕ). AreRising 0 0 ps) (sym c.new-driving.ensures) (omega arith);
      later = c.requires.rising;
      count = omega (arith, none);
      others = subst (λ (ps : List ℕ). AreSilentBut ps c.args.drives.now) (sym c.new-driving.ensures) c.requires.silent;
    }

pub bounds-stations-station : goal.bounds-stations-station
bounds-stations-station c =
    rising-at 0 (length c.args.stations.now) c.args.places.now c.loop-place.place-index c.from-station.result c.requires.rising
    (slice_get-get_or c.args.places.now c.loop-place.place-index _ c.loop-place-test.true ∙ ap Some (sym c.from-station.ensures))

pub bounds-drives-station : goal.bounds-drives-station
bounds-drives-station c =
    let within = rising-at 0 (length c.args.stations.now) c.args.places.now c.loop-place.place-index c.from-station.result c.requires.rising
    (slice_get-get_or c.args.places.now c.loop-place.place-index _ c.loop-place-test.true ∙ ap Some (sym c.from-station.ensures)) in
    let all = c.loop-place.invariant.driven.all in
    omega (arith, within, all)

pub push-requires : goal.push-requires
push-requires c =
    let l = c.loop-place.invariant in
    let next = rising-next l.from (length c.args.stations.now) c.args.places.now c.loop-place.place-index c.from-station.result
    (slice_get-get_or c.args.places.now c.loop-place.place-index _ c.loop-place-test.true ∙ ap Some (sym c.from-station.ensures)) l.later in
    let within = rising-at 0 (length c.args.stations.now) c.args.places.now c.loop-place.place-index c.from-station.result c.requires.rising
    (slice_get-get_or c.args.places.now c.loop-place.place-index _ c.loop-place-test.true ∙ ap Some (sym c.from-station.ensures)) in
    let low = next.0 in
    omega (arith, l.count, low, within, c.requires.few)

pub loop-place-preserved : goal.loop-place-preserved
loop-place-preserved c =
    let l = c.loop-place.invariant in
    let place = c.from-station.result in
    let at = slice_get-get_or c.args.places.now c.loop-place.place-index _ c.loop-place-test.true ∙ ap Some (sym c.from-station.ensures) in
    let within = rising-at 0 (length c.args.stations.now) c.args.places.now c.loop-place.place-index place c.requires.rising at in
    let next = rising-next l.from (length c.args.stations.now) c.args.places.now c.loop-place.place-index place at l.later in
    let low = next.0 in
    let driven = driven-more c.args.stations.now c.args.places.now c.loop-place.drives c.loop-place.place-index place c.index-stations-station.result
    c.drive-drive.result at
    (slice_get_read c.args.stations.now (length c.args.stations.now) place c.index-stations-station.result refl within c.index-stations-station.is)
    (λ station starts loads outside past st. c.drive-drive.ensures station starts loads outside past st) l.driven in
    elim c.if-is_on.branch [
      | then-is_on w ↦ (let named : c.if-is_on.driving.items ≡ c.loop-place.driving.items ++ place ∷ [] =
          ap (λ v. v.items) w.driving-is ∙ w.push.ensures.items ∙ ap (λ p. c.loop-place.driving.items ++ p ∷ []) (sym c.from-station.ensures) in
          let more = w.push.ensures.len in
          let same = ap (λ v. length v.items) w.driving-is in
          record {
            driven = driven;
            from = place + 1;
            rising = subst (λ (ps : List ℕ). AreRising 0 (place + 1) ps) (sym named)
                (rw add-one (rising-push 0 place c.loop-place.driving.items (rising-to 0 l.from place c.loop-place.driving.items low l.rising)));
            later = next.1;
            count = omega (arith, l.count, low, more, same);
            others = subst (λ (ps : List ℕ). AreSilentBut ps (set c.loop-place.drives place c.drive-drive.result)) (sym named)
                (silent-with c.loop-place.driving.items c.loop-place.drives place c.drive-drive.result l.others);
          })
      | else-is_on w ↦ (let named : c.if-is_on.driving.items ≡ c.loop-place.driving.items = ap (λ v. v.items) w.driving-is in
          let same = ap length named in
          let all = l.driven.all in
          record {
            driven = driven;
            from = place + 1;
            rising = subst (λ (ps : List ℕ). AreRising 0 (place + 1) ps) (sym named)
                (rising-to 0 l.from (place + 1) c.loop-place.driving.items (omega (arith, low)) l.rising);
            later = next.1;
            count = omega (arith, l.count, low, same);
            others = subst (λ (ps : List ℕ). AreSilentBut ps (set c.loop-place.drives place c.drive-drive.result)) (sym named)
                (silent-set c.loop-place.driving.items c.loop-place.drives place c.drive-drive.result (omega (arith, within, all))
                (off-silent c.drive-drive.result (sym c.is_on.ensures ∙ w.if-is_on.false)) l.others);
          })
    ]

pub returns-clause-drives : goal.returns-clause-drives
returns-clause-drives c =
    subst (λ (ps : List ℕ). AreDriven c.args.stations.now ps c.loop-place.drives) (take_all c.loop-place.place-index c.args.places.now (omega arith))
    c.loop-place.invariant.driven

pub returns-clause-driving : goal.returns-clause-driving
returns-clause-driving c =
    let l = c.loop-place.invariant in
    let end = rising-within l.from (length c.args.stations.now) (drop c.loop-place.place-index c.args.places.now) l.later in
    record { rising = rising-to 0 l.from (length c.args.stations.now) c.loop-place.driving.items end l.rising; others = l.others }
