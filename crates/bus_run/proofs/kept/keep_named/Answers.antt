use Rattle.std.proofs.Common.{arith, ap, ◌∙◌, [], refl}
use Rattle.bus_run.proofs.Gathered.{gathered_same, gathered_any, place-within, place-low}
use Rattle.bus_run.proofs.kept.keep_named.Goals as goal
use Rattle.bus_run.proofs.kept.keep_named.Goals.{in-Some, in_default}

pub loop-address-init : goal.loop-address-init
loop-address-init g c = record {
  len = refl;
  within = c.requires.places;
  few = omega arith;
  front = ([], refl, tt);
  rest = record { recorders = λ k d low high. refl; tallies = λ k d low high. refl };
}

pub loop-address-preserved : goal.loop-address-preserved
loop-address-preserved g c =
    elim c.match-named-address.branch [
      | in-Some w ↦ gathered_any _ _ _ _ _ _ _ _ w.in-Some.kind c.loop-address-test.true c.requires.named w.place_of.ensures w.in-Some.is
          c.loop-address.invariant (ap (λ v. v.items) w.subsystems-is ∙ w.swap.ensures.items) w.kept-is
      | in_default w ↦ gathered_same _ _ _ _ _ _ _ (omega arith) w.in_default.is c.loop-address.invariant (ap (λ v. v.items) w.subsystems-is) w.kept-is
    ]

pub swap-requires-clause-i_in_bounds : goal.swap-requires-clause-i_in_bounds
swap-requires-clause-i_in_bounds g c =
    let so = c.loop-address.invariant in
    let high = place-within c.args.named.now so.front.0 c.loop-address.address c.place_of.result _ c.in-Some.kind (omega arith) c.place_of.ensures c.in-Some.is
    so.front.1 so.within in
    let low = place-low c.in-Some.kind c.loop-address.address c.place_of.result c.place_of.ensures in
    let len = so.len in
    let few = so.few in
    omega (arith, high, low, len, few)

pub swap-requires-clause-j_in_bounds : goal.swap-requires-clause-j_in_bounds
swap-requires-clause-j_in_bounds g c =
    let so = c.loop-address.invariant in
    let high = place-within c.args.named.now so.front.0 c.loop-address.address c.place_of.result _ c.in-Some.kind (omega arith) c.place_of.ensures c.in-Some.is
    so.front.1 so.within in
    let len = so.len in
    omega (arith, high, len)
