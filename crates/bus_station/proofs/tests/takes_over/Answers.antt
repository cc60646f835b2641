use Rattle.std.proofs.Common.{◌≡◌, ℕ, Bool, true, false, ◌∷◌, length, Option, Some, None, refl, sym, ap, ◌∙◌, arith}
use Rattle.bus_base.specs.declared.samples.Pair.{Pair}
use Rattle.bus_base.specs.declared.samples.Sample.TheVariants.{Quiet}
use Rattle.bus_line.specs.declared.cutter.TheConstants.{LAG}
use Rattle.bus_station.specs.Roles.{role_by}
use Rattle.bus_station.specs.declared.role.Role.TheVariants.{Serving}
use Rattle.bus_station.proofs.Own.{stands-keeps}
use Rattle.bus_station.proofs.tests.takes_over.Goals as goal

silence : Pair
silence = record { a = Quiet; b = Quiet }

-- a station that serves has no control
serving : (h : Bool) (first : Option ℕ) → Serving ≡ role_by h first → h ≡ false
serving false first is = refl
serving true None is = cc
serving true (Some first) is = cc

pub take-requires : goal.take-requires
unfolding silence
take-requires c =
    let (plan, starts, loads, outside, past, st, here) = c.requires in
    let heard = c.hear.ensures.stands plan starts loads outside past st in
    let before = stands-keeps LAG plan starts loads outside _ past st in
    let after = stands-keeps LAG plan starts loads outside _ (silence ∷ past) heard in
    let many = c.items_left.ensures plan starts loads outside (silence ∷ past) after in
    let some = c.if-items_left-gt0.true in (
      plan,
      starts,
      loads,
      outside,
      silence,
      past,
      heard,
      serving _ _ (sym c.in-Serving.is ∙ c.role-before.ensures plan starts loads outside past before),
      serving _ _ (sym c.in-Serving-role.is ∙ c.role.ensures plan starts loads outside (silence ∷ past) after),
      λ none. (let no = ap length none in omega (arith, many, some, no)),
      omega (arith, here),
    )

pub returns-then-items_left-gt0 : goal.returns-then-items_left-gt0
unfolding silence
returns-then-items_left-gt0 c =
    let (plan, starts, loads, outside, past, st, here) = c.requires in
    let heard = c.hear.ensures.stands plan starts loads outside past st in
    let keeps = stands-keeps LAG plan starts loads outside _ past st in
    let before = serving _ _ (sym c.in-Serving.is ∙ c.role-before.ensures plan starts loads outside past keeps) in
    let later = stands-keeps LAG plan starts loads outside _ (silence ∷ past) heard in
    let after = serving _ _ (sym c.in-Serving-role.is ∙ c.role.ensures plan starts loads outside (silence ∷ past) later) in
    let taken = c.take.ensures.stands plan starts loads outside silence past heard before after (omega (arith, here)) in
    (plan, starts, _, _, silence ∷ past, c.load.ensures.stands plan starts loads _ silence past taken, omega (arith, here))
