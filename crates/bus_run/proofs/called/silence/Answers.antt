use Rattle.std.proofs.Common.{◌∙◌, ap, arith, length, sym, subst, refl, Some, ℕ, List}
use Rattle.std.proofs.lemmas.List.{drop_all, length-set}
use Rattle.std.proofs.lemmas.Option.{slice_get-get_or}
use Rattle.bus_run.specs.Driven.{AreSilentBut}
use Rattle.bus_run.proofs.CalledLaws.{rising-at}
use Rattle.bus_run.proofs.DrivenLaws.{silent-more}
use Rattle.bus_run.proofs.called.silence.Goals as goal

pub loop-place-init : goal.loop-place-init
loop-place-init c = (c.requires.silent, refl)

pub bounds-drives-station : goal.bounds-drives-station
bounds-drives-station c =
    let within = rising-at 0 (length c.args.drives.now) c.args.places.now c.loop-place.place-index c.from-station.result c.requires.rising
    (slice_get-get_or c.args.places.now c.loop-place.place-index _ c.loop-place-test.true ∙ ap Some (sym c.from-station.ensures)) in
    let all = c.loop-place.invariant.1 in
    omega (arith, within, all)

pub loop-place-preserved : goal.loop-place-preserved
loop-place-preserved c =
    let at = slice_get-get_or c.args.places.now c.loop-place.place-index _ c.loop-place-test.true ∙ ap Some (sym c.from-station.ensures) in
    let within = rising-at 0 (length c.args.drives.now) c.args.places.now c.loop-place.place-index c.from-station.result c.requires.rising at in
    let all = c.loop-place.invariant.1 in (
      silent-more c.args.places.now c.loop-place.drives c.loop-place.place-index c.from-station.result at (omega (arith, within, all))
          c.loop-place.invariant.0,
      length-set c.loop-place.drives c.from-station.result _ ∙ all,
    )

pub returns-clause-silent : goal.returns-clause-silent
returns-clause-silent c =
    subst (λ (ps : List ℕ). AreSilentBut ps c.loop-place.drives) (drop_all c.loop-place.place-index c.args.places.now (omega arith))
    c.loop-place.invariant.0
