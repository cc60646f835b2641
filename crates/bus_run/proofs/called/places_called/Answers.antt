use Rattle.std.proofs.Common.{◌+◌, arith, ap, sym, subst, List, ℕ, length, ◌∙◌}
use Rattle.bus_run.proofs.CalledLaws.{called-none, called-all, called-next, called-pass, CalledBefore}
use Rattle.bus_run.proofs.called.places_called.Goals as goal
use Rattle.bus_run.proofs.called.places_called.Goals.{then-is_called, else-is_called}

pub loop-place-init : goal.loop-place-init
loop-place-init c =
    let none = ap length c.new-places.ensures in (
      subst (λ (ps : List ℕ). CalledBefore c.args.present.now c.args.stations.now 0 ps) (sym c.new-places.ensures) (called-none c.args.present.now
          c.args.stations.now),
      omega (arith, none),
    )

pub loop-place-preserved : goal.loop-place-preserved
loop-place-preserved c =
    elim c.if-is_called.branch [
      | then-is_called w ↦ (
          let few = c.loop-place.invariant.1 in
          let more = w.push.ensures.len in
          let same = ap (λ v. length v.items) w.places-is in (
            subst (λ (ps : List ℕ). CalledBefore c.args.present.now c.args.stations.now (c.loop-place.place + 1) ps)
                (sym (ap (λ v. v.items) w.places-is ∙ w.push.ensures.items))
                (called-next c.args.present.now c.args.stations.now c.loop-place.place c.loop-place.places.items c.index-stations-place.result
                c.loop-place-test.true c.requires.present (sym c.is_called.ensures ∙ w.if-is_called.true) c.loop-place.invariant.0),
            omega (arith, few, more, same),
          ))
      | else-is_called w ↦ (
          let few = c.loop-place.invariant.1 in
          let same = ap (λ v. length v.items) w.places-is in (
            subst (λ (ps : List ℕ). CalledBefore c.args.present.now c.args.stations.now (c.loop-place.place + 1) ps) (sym (ap (λ v. v.items) w.places-is))
                (called-pass c.args.present.now c.args.stations.now c.loop-place.place c.loop-place.places.items c.index-stations-place.result
                c.loop-place-test.true c.requires.present c.index-stations-place.is (sym c.is_called.ensures ∙ w.if-is_called.false)
                c.loop-place.invariant.0),
            omega (arith, few, same),
          ))
    ]

pub returns : goal.returns
returns c = called-all c.args.present.now c.args.stations.now c.loop-place.place _ (omega arith) c.loop-place.invariant.0
