use Rattle.std.proofs.Common.{Option, ◌-◌, ◌+◌, ℕ, List, take, arith, ap, sym, ◌∙◌}
use Rattle.std.proofs.lemmas.Bool.Decides.{nat_tests}
use Rattle.bus_outside.proofs.Writes.{rest_is}
use Rattle.bus_bridge.specs.Headers.{alone, led_by, pairing_in, pairings_by, pairings_in}
use Rattle.bus_bridge.specs.declared.pairings.Pairing.{Pairing}
use Rattle.bus_bridge.proofs.Several.{none-of, first-of}
use Rattle.bus_bridge.proofs.pairings.+pairings_in.Goals as goal

pub returns-then-most-eq0-clause-value : goal.returns-then-most-eq0-clause-value
returns-then-most-eq0-clause-value t c = none-of c.args.most c.args.text.now (grind (arith, nat_tests, c.if-most-eq0.true))

pub returns-in-None-clause-value : goal.returns-in-None-clause-value
returns-in-None-clause-value t c =
    c.alone.ensures.value ∙ ap alone c.pairing_in.ensures.value
    ∙ ap (λ (o : Option ℕ). pairings_by c.args.text.now o (pairings_in (c.args.most - 1))) (sym c.in-None.is ∙ c.place_of.ensures.value)
    ∙ first-of c.args.most (c.args.most - 1) c.args.text.now (grind (arith, nat_tests, c.if-most-eq0.false))

pub returns-in-Some-clause-value : goal.returns-in-Some-clause-value
returns-in-Some-clause-value t c =
    c.led_by.ensures ∙ ap (λ (p : Option Pairing). led_by p c.pairings_in.result) c.pairing_in-in-Some.ensures.value
    ∙ ap (led_by (pairing_in (take c.in-Some.place c.args.text.now))) c.pairings_in.ensures.value
    ∙ ap (λ (l : List ℕ). led_by (pairing_in (take c.in-Some.place c.args.text.now)) (pairings_in (c.args.most - 1) l)) (rest_is (c.in-Some.place + 1) c.args.text.now)
    ∙ ap (λ (o : Option ℕ). pairings_by c.args.text.now o (pairings_in (c.args.most - 1))) (sym c.in-Some.is ∙ c.place_of.ensures.value)
    ∙ first-of c.args.most (c.args.most - 1) c.args.text.now (grind (arith, nat_tests, c.if-most-eq0.false))
